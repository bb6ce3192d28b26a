-- What try_new answers and leaves, with 40, and the submission that a sender offers: document 01, 'Refusals' 40, and 'Port order' 4.
use Rattle.std.specs.Prelude.{ℕ, List, [], ◌∷◌, Bool, true, false, cond, not, ◌&&◌, ◌||◌, length, eqb, ltb, Option, Some, None}
use Rattle.sender.specs.declared.Offered.{Offered}
use Rattle.segmentation.specs.declared.PlannedPart.{PlannedPart}
use Rattle.words.specs.Marks.{no_marks}
use Rattle.link.specs.Peer.{identity_refused, protocol_served}
use Rattle.link.specs.Profile.{known_profile}
use Rattle.link.specs.declared.HigherLayerProtocol.TheVariants.{Segmented}
use Rattle.tsar.specs.Rows.{Refusal, refusal}
use Rattle.tsar.specs.Kinds.{same_kind}
use Rattle.tsar.specs.Layout.{window_number}
use Rattle.tsar.specs.declared.AcknowledgmentWindow.{AcknowledgmentWindow}
use Rattle.tsar.specs.declared.SegmentHead.{SegmentHead}
use Rattle.segmentation.specs.Plan.{Planning, refused as plan_refused, unsegmented, segmented, plan_message, even_message, segment_at}
use Rattle.segmentation.specs.Frozen.{Proposal, Checked, try_from_frozen, frozen_segment_at, no_plan}
use Rattle.segmentation.specs.declared.SegmentedMessage.{SegmentedMessage}
use Rattle.segmentation.specs.declared.FrozenMessage.{FrozenMessage}
use Rattle.sender.specs.declared.PlanForm.TheVariants as form
use Rattle.sender.specs.declared.Plan.{Plan}
use Rattle.sender.specs.declared.Submission.{Submission}
use Rattle.sender.specs.declared.SenderState.TheVariants.{Prepared, Cancelled}
use Rattle.sender.specs.declared.Terms.{Terms}
use Rattle.sender.specs.declared.Progress.{Progress}
use Rattle.sender.specs.declared.Sender.{Sender}
use Rattle.sender.specs.Record.{same_bool, is_prepared}
use Rattle.sender.specs.Calls.{Step, refused, left, placed}

-- ---- 40

-- whether two plans of the planners are the same
abbrev pub same_plan : SegmentedMessage → SegmentedMessage → Bool
same_plan p q =
    eqb p.message_octets q.message_octets
    && eqb p.payload_budget_octets q.payload_budget_octets
    && eqb p.transaction_id q.transaction_id
    && eqb (window_number p.acknowledgment_window) (window_number q.acknowledgment_window)
    && eqb p.begin_octets q.begin_octets
    && eqb p.later_capacity q.later_capacity
    && eqb p.count q.count
    && same_bool p.states_length q.states_length

abbrev pub is_plan : Planning → SegmentedMessage → Bool
is_plan unsegmented p = false
is_plan (plan_refused n) p = false
is_plan (segmented q) p = same_plan q p

-- what a planner answers at a record's own budget, transaction and window, under version 1 and a ceiling that is the budget
abbrev pub at_own : (ℕ → ℕ → ℕ → AcknowledgmentWindow → ℕ → ℕ → Planning) → SegmentedMessage → ℕ → Planning
at_own plans p n = plans n p.payload_budget_octets p.transaction_id p.acknowledgment_window 1 p.payload_budget_octets

-- one of the planners gives it for the message
abbrev pub is_planned : SegmentedMessage → ℕ → Bool
is_planned p n = is_plan (at_own plan_message p n) p || is_plan (at_own even_message p n) p

-- the frozen check gives it for the message, proposed by itself
abbrev pub proposing : FrozenMessage → List ℕ → Proposal
proposing f message =
    record {
      heads = f.heads;
      count = f.count;
      joined = message;
      message = message;
      budget = f.payload_budget_octets;
      version = 1;
      ceiling = f.payload_budget_octets;
    }

abbrev pub is_none : Option Refusal → Bool
is_none None = true
is_none (Some n) = false

-- whether two heads, and two lists of them, are the same
abbrev pub same_head : SegmentHead → SegmentHead → Bool
same_head g h =
    eqb g.segment.transaction_id h.segment.transaction_id
    && eqb g.segment.sequence_number h.segment.sequence_number
    && same_kind g.segment.kind h.segment.kind
    && eqb g.segment_data_length h.segment_data_length

unfoldable pub same_heads : List SegmentHead → List SegmentHead → Bool
same_heads [] [] = true
same_heads [] (h ∷ hs) = false
same_heads (g ∷ gs) [] = false
same_heads (g ∷ gs) (h ∷ hs) = same_head g h && same_heads gs hs

abbrev pub same_frozen : FrozenMessage → FrozenMessage → Bool
same_frozen f g =
    same_heads f.heads g.heads
    && eqb f.count g.count
    && eqb f.message_octets g.message_octets
    && eqb f.payload_budget_octets g.payload_budget_octets
    && eqb (window_number f.acknowledgment_window) (window_number g.acknowledgment_window)

abbrev pub is_frozen : Checked → FrozenMessage → Bool
is_frozen c f = is_none c.refused && same_frozen c.plan f

-- the frozen part beside a plan of a planner: that of no segments
abbrev pub is_empty : FrozenMessage → Bool
is_empty f = same_frozen no_plan f

-- a record that a planner or the frozen check gives for the message under some ceiling
unfoldable pub is_given : Plan → List ℕ → Bool
is_given p message = elim p.form [ form.Planned q ↦ is_planned q (length message) && is_empty p.frozen | form.Frozen ↦ is_frozen (try_from_frozen (proposing p.frozen message)) p.frozen ]

-- ---- try_new

-- 30, 31, 64, 40; of the codec only the version is left
abbrev pub try_new_rows : Terms → Plan → List ℕ → List (Bool × Refusal)
try_new_rows t p message =
    (identity_refused t.peer, (30, 0))
    ∷ (not (protocol_served t.protocol), (31, 0))
    ∷ (not (known_profile t.profile), (64, 0))
    ∷ (not (is_given p message), (40, 0))
    ∷ (ltb t.version 1, (1, 0))
    ∷ []

-- the first segment is offered under ticket 0
abbrev pub first_offer : ℕ → Progress
first_offer now' =
    record {
      state = Prepared;
      current = Some (record { ticket = 0; index = 0; prepared_monotonic_ms = now' });
      last_ticket = 0;
      submitted = no_marks;
      retry = no_marks;
      received = no_marks;
      deadline_monotonic_ms = None;
      last_monotonic_ms = now';
      layer3_submissions = 0;
    }

abbrev pub first_sender : Terms → Plan → ℕ → Sender
first_sender t p now' = record { terms = t; progress = first_offer now'; plan = p }

-- beside a refusal: a cancelled sender of no peer and no plan, of profile 1
abbrev pub no_sender : Sender
no_sender =
    record {
      terms = record { peer = record { kind = 0; width = 0; value = 0 }; protocol = Segmented 0; version = 0; profile = 1; number = 0 };
      progress = record {
        state = Cancelled;
        current = None;
        last_ticket = 0;
        submitted = no_marks;
        retry = no_marks;
        received = no_marks;
        deadline_monotonic_ms = None;
        last_monotonic_ms = 0;
        layer3_submissions = 0;
      };
      plan = record { form = form.Frozen; frozen = no_plan };
    }

abbrev pub made_after : Option Refusal → Terms → Plan → ℕ → Step
made_after (Some n) t p now' = record { answer = refused n; sender = no_sender }
made_after None t p now' = placed (first_sender t p now') (left (first_offer now'))

unfoldable pub try_new_of : Terms → Plan → List ℕ → ℕ → Step
try_new_of t p message now' = made_after (refusal (try_new_rows t p message)) t p now'

-- ---- the submission that is offered

-- segment i of a plan
abbrev pub plan_segment : Plan → ℕ → Option PlannedPart
plan_segment p i = elim p.form [ form.Planned q ↦ segment_at q i | form.Frozen ↦ frozen_segment_at p.frozen i ]

abbrev pub offered : ℕ → Submission → Option PlannedPart → Option Offered
offered number x None = None
offered number x (Some y) = Some (record { number = number; ticket = x.ticket; index = x.index; part = y })

abbrev pub offer_in : Sender → Option Submission → Option Offered
offer_in s None = None
offer_in s (Some x) = cond (is_prepared s.progress.state) (offered s.terms.number x (plan_segment s.plan x.index)) None

-- only a Prepared sender offers one
unfoldable pub offer_of : Sender → Option Offered
offer_of s = offer_in s s.progress.current
