-- A sender's record: its plan, its marks and the impossible states (62).
use Rattle.std.specs.Prelude.{ℕ, List, [], ◌∷◌, Bool, true, false, not, ◌&&◌, ◌||◌, leb, ltb, Option, Some, None}
use Rattle.words.specs.Marks.{marked, all_below, lowest_of}
use Rattle.words.specs.declared.Words.{Words}
use Rattle.sender.specs.declared.Submission.{Submission}
use Rattle.link.specs.Profile.{known_profile, sender_interval}
pub use Rattle.tsar.specs.Kinds.{is_exceptions}
use Rattle.tsar.specs.Rows.{any_of}
use Rattle.tsar.specs.declared.AcknowledgmentWindow.{AcknowledgmentWindow}
use Rattle.segmentation.specs.Frozen.{head_at}
use Rattle.sender.specs.declared.PlanForm.TheVariants as form
use Rattle.sender.specs.declared.Plan.{Plan}
use Rattle.sender.specs.declared.SenderState.{SenderState}
use Rattle.sender.specs.declared.SenderState.TheVariants.{Prepared, AwaitingAccept, AwaitingResponse, Complete, Failed, Cancelled}
use Rattle.sender.specs.declared.Progress.{Progress}
use Rattle.sender.specs.declared.Outline.{Outline}
use Rattle.sender.specs.declared.Sender.{Sender}

-- ---- states and deadlines

abbrev pub is_prepared : SenderState → Bool
is_prepared Prepared = true
is_prepared AwaitingAccept = false
is_prepared AwaitingResponse = false
is_prepared (Complete c) = false
is_prepared (Failed f) = false
is_prepared Cancelled = false

abbrev pub awaits_accept : SenderState → Bool
awaits_accept Prepared = false
awaits_accept AwaitingAccept = true
awaits_accept AwaitingResponse = false
awaits_accept (Complete c) = false
awaits_accept (Failed f) = false
awaits_accept Cancelled = false

abbrev pub awaits_response : SenderState → Bool
awaits_response Prepared = false
awaits_response AwaitingAccept = false
awaits_response AwaitingResponse = true
awaits_response (Complete c) = false
awaits_response (Failed f) = false
awaits_response Cancelled = false

abbrev pub is_closed : SenderState → Bool
is_closed Prepared = false
is_closed AwaitingAccept = false
is_closed AwaitingResponse = false
is_closed (Complete c) = true
is_closed (Failed f) = true
is_closed Cancelled = true

-- late (document 01): the reading is past the deadline; due: at or past it
abbrev pub late : Option ℕ → ℕ → Bool
late None now' = false
late (Some d) now' = ltb d now'

abbrev pub due : Option ℕ → ℕ → Bool
due None now' = false
due (Some d) now' = leb d now'

abbrev pub running : Option ℕ → Bool
running None = false
running (Some d) = true

-- ---- the plan

abbrev pub plan_octets : Plan → ℕ
plan_octets p = elim p.form [ form.Planned q ↦ q.message_octets | form.Frozen ↦ p.frozen.message_octets ]

abbrev pub plan_budget : Plan → ℕ
plan_budget p = elim p.form [ form.Planned q ↦ q.payload_budget_octets | form.Frozen ↦ p.frozen.payload_budget_octets ]

abbrev pub plan_count : Plan → ℕ
plan_count p = elim p.form [ form.Planned q ↦ q.count | form.Frozen ↦ p.frozen.count ]

abbrev pub plan_window : Plan → AcknowledgmentWindow
plan_window p = elim p.form [ form.Planned q ↦ q.acknowledgment_window | form.Frozen ↦ p.frozen.acknowledgment_window ]

-- a frozen plan's transaction is its first head's
abbrev pub plan_transaction : Plan → ℕ
plan_transaction p = elim p.form [ form.Planned q ↦ q.transaction_id | form.Frozen ↦ (head_at p.frozen.heads 0).segment.transaction_id ]

-- ---- what is pending

-- segment i was never submitted, or is to be sent again
abbrev pub needs : Words → Words → ℕ → Bool
needs submitted retry i = not (marked submitted i) || marked retry i

-- some segment is pending
abbrev pub has_pending : ℕ → Words → Words → Bool
has_pending n submitted retry = not (all_below n (λ i. not (needs submitted retry i)))

-- the lowest pending segment
abbrev pub next_pending : ℕ → Words → Words → Option ℕ
next_pending n submitted retry = lowest_of (needs submitted retry) n

abbrev pub submission_present : Option Submission → Bool
submission_present None = false
submission_present (Some x) = true

-- the present submission is one below n
abbrev pub submission_below : Option Submission → ℕ → Bool
submission_below None n = true
submission_below (Some x) n = ltb x.index n

-- ---- 62: the impossible states

-- a mark at or past the count
abbrev pub mark_past : Words → ℕ → Bool
mark_past w n = not (all_below 256 (λ i. not (leb n i && marked w i)))

abbrev pub same_bool : Bool → Bool → Bool
same_bool true b = b
same_bool false b = not b

-- of the progress of a sender of n segments: document 01's list. The sender's profile is no part of the progress: that of neither profile is the one
-- test more of 62 (2026-11), and `impossible_in`, below, has it beside these
abbrev pub faults : ℕ → Progress → List Bool
faults n p =
    -- count not 2 to 256
    (ltb n 2 || ltb 256 n)
    -- submission present other than exactly in Prepared and AwaitingAccept, or not below the count
    ∷ not (same_bool (submission_present p.current) (is_prepared p.state || awaits_accept p.state))
    ∷ not (submission_below p.current n)
    -- a mark at or past the count
    ∷ mark_past p.submitted n
    ∷ mark_past p.retry n
    ∷ mark_past p.received n
    -- a deadline when closed
    ∷ (is_closed p.state && running p.deadline_monotonic_ms)
    ∷ []

unfoldable pub impossible : ℕ → Progress → Bool
impossible n p = any_of (faults n p)

-- ---- what the calls read of the plan, and the profile

abbrev pub outline_of : ℕ → Plan → Outline
outline_of profile p = record { count = plan_count p; acknowledgment_window = plan_window p; transaction_id = plan_transaction p; profile = profile }

abbrev pub outline : Sender → Outline
outline s = outline_of s.terms.profile s.plan

-- 62 as the calls have it, in one row: the progress has one of `faults`, or the sender is of neither profile
abbrev pub impossible_in : Outline → Progress → Bool
impossible_in o p = impossible o.count p || not (known_profile o.profile)

-- the sender's own interval, in milliseconds: its profile's
abbrev pub interval_of : Sender → ℕ
interval_of s = sender_interval s.terms.profile
