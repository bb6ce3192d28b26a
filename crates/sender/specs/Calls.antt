-- What the sender's calls answer and leave: document 01, 'Port order' 4, 62 first, then the order of link/tsar/sender.rs. Each is defined on the
-- progress, given what the calls read of the plan; the sender's own definition puts the progress back in its place.
use Rattle.std.specs.Prelude.{ℕ, ◌-◌, ◌^◌, List, [], ◌∷◌, ◌++◌, Bool, false, cond, not, ◌&&◌, ◌||◌, eqb, ltb, Option, Some, None}
use Rattle.sender.specs.declared.Submission.{Submission}
use Rattle.words.specs.Marks.{marked, all_below}
use Rattle.words.specs.declared.Words.{Words}
use Rattle.link.specs.Peer.{same_identity, same_protocol}
use Rattle.tsar.specs.Rows.{Refusal, refusal}
use Rattle.tsar.specs.Kinds.{prohibited}
use Rattle.tsar.specs.declared.AcknowledgmentWindow.{AcknowledgmentWindow}
use Rattle.response.specs.Responses.{status_number, response_rows}
use Rattle.response.specs.declared.AcknowledgmentMap.{AcknowledgmentMap}
use Rattle.response.specs.declared.Response.{Response}
use Rattle.sender.specs.declared.LowerLayerFailure.{LowerLayerFailure}
use Rattle.sender.specs.declared.SenderFailure.TheVariants.{LowerLayer}
use Rattle.sender.specs.declared.SenderState.{SenderState}
use Rattle.sender.specs.declared.SenderState.TheVariants.{Failed}
use Rattle.sender.specs.declared.Terms.{Terms}
use Rattle.sender.specs.declared.Progress.{Progress}
use Rattle.sender.specs.declared.Outline.{Outline}
use Rattle.sender.specs.declared.Arrival.{Arrival}
use Rattle.sender.specs.declared.Sender.{Sender}
use Rattle.sender.specs.Record.{is_prepared, awaits_accept, is_closed, late, due, outline, impossible_in}
use Rattle.sender.specs.Steps.{finish, advanced, sets_deadline, counted, accepted_next, cancelled, react}

-- ---- what a call answers and leaves

pub data Answer : Type 0 where
  refused : Refusal → Answer
  answered : SenderState → Answer

pub record Step : Type 0 where
  pub answer : Answer
  pub sender : Sender

-- the same of the progress alone
pub record Turn : Type 0 where
  pub answer : Answer
  pub progress : Progress

-- a refusal; it changes nothing where the progress is the one that the call was given, and else an advance has acted
abbrev pub refuses : Refusal → Progress → Turn
refuses n p = record { answer = refused n; progress = p }

-- the answer is the state
abbrev pub left : Progress → Turn
left p = record { answer = answered p.state; progress = p }

-- 63: where a new submission would need ticket 2^64; it replaces the call's outcome and changes nothing
abbrev pub or_tickets : Progress → Turn → Turn
or_tickets p t = cond (ltb (2 ^ 64 - 1) t.progress.last_ticket) (refuses (63, 0) p) t

abbrev pub on_refusal : Option Refusal → Progress → Turn → Turn
on_refusal (Some n) p t = refuses n p
on_refusal None p t = t

-- the progress in its sender
abbrev pub placed : Sender → Turn → Step
placed s t = record { answer = t.answer; sender = record { terms = s.terms; progress = t.progress; plan = s.plan } }

-- the progress once the sender has advanced to a reading
abbrev pub advanced_to : Outline → Progress → ℕ → Progress
advanced_to o p now' = advanced o.count o.acknowledgment_window p now'

-- 62, then 33
abbrev pub clock_rows : Outline → Progress → ℕ → List (Bool × Refusal)
clock_rows o p now' = (impossible_in o p, (62, 0)) ∷ (ltb now' p.last_monotonic_ms, (33, 0)) ∷ []

-- ---- advance and cancel

unfoldable pub advance_in : Outline → Progress → ℕ → Turn
advance_in o p now' = or_tickets p (on_refusal (refusal (clock_rows o p now')) p (left (advanced_to o p now')))

unfoldable pub advance_of : Sender → ℕ → Step
advance_of s now' = placed s (advance_in (outline s) s.progress now')

unfoldable pub cancel_in : Outline → Progress → ℕ → Turn
cancel_in o p now' = or_tickets p (on_refusal (refusal (clock_rows o p now')) p (left (cancelled (advanced_to o p now'))))

unfoldable pub cancel_of : Sender → ℕ → Step
cancel_of s now' = placed s (cancel_in (outline s) s.progress now')

-- ---- the lower layer's events

-- the token, a sender number and a ticket, is that of the present submission of sender `own`
abbrev pub owns : ℕ → Option Submission → ℕ → ℕ → Bool
owns own None number ticket = false
owns own (Some x) number ticket = eqb own number && eqb x.ticket ticket

abbrev pub prepared_at : Option Submission → ℕ
prepared_at None = 0
prepared_at (Some x) = x.prepared_monotonic_ms

-- 38, 42, 44
abbrev pub offer_rows : ℕ → Progress → ℕ → ℕ → ℕ → ℕ → List (Bool × Refusal)
offer_rows own p number ticket queued observed =
    (is_closed p.state, (38, 0))
    ∷ (not (is_prepared p.state && owns own p.current number ticket), (42, 0))
    ∷ (ltb queued (prepared_at p.current) || ltb observed queued, (44, 0))
    ∷ []

-- 62, 33, 38, 42, 44
abbrev pub submitted_rows : ℕ → Outline → Progress → ℕ → ℕ → ℕ → ℕ → List (Bool × Refusal)
submitted_rows own o p number ticket queued observed = clock_rows o p observed ++ offer_rows own p number ticket queued observed

-- then 34, where the submission sets a deadline, and 41
abbrev pub count_rows : ℕ → Bool → Progress → ℕ → List (Bool × Refusal)
count_rows interval sets p queued =
    (sets && ltb (2 ^ 64 - 1 - interval) queued, (34, 0)) ∷ (ltb (2 ^ 64 - 2) p.layer3_submissions, (41, 0)) ∷ []

-- the submission is counted, and the sender advances to the observed reading
abbrev pub counting : ℕ → ℕ → AcknowledgmentWindow → Progress → ℕ → ℕ → Turn
counting interval n w p queued observed =
    on_refusal (refusal (count_rows interval (sets_deadline n w p) p queued)) p (left (advanced n w (counted interval n w p queued) observed))

-- under Prohibited, a queued reading at or past the deadline: advance acts, then 44
abbrev pub submitting : ℕ → Outline → Progress → ℕ → ℕ → Turn
submitting interval o p queued observed =
    cond (prohibited o.acknowledgment_window && due p.deadline_monotonic_ms queued)
    (refuses (44, 0) (advanced_to o p observed))
    (counting interval o.count o.acknowledgment_window p queued observed)

unfoldable pub submitted_in : ℕ → ℕ → Outline → Progress → ℕ → ℕ → ℕ → ℕ → Turn
submitted_in interval own o p number ticket queued observed =
    or_tickets p (on_refusal (refusal (submitted_rows own o p number ticket queued observed)) p (submitting interval o p queued observed))

unfoldable pub submitted_of : ℕ → Sender → ℕ → ℕ → ℕ → ℕ → Step
submitted_of interval s number ticket queued observed =
    placed s (submitted_in interval s.terms.number (outline s) s.progress number ticket queued observed)

-- the lower layer's word on a submission is awaited
abbrev pub awaits_word : ℕ → Progress → ℕ → ℕ → Bool
awaits_word own p number ticket = awaits_accept p.state && owns own p.current number ticket

-- 38, 42
abbrev pub awaited_rows : ℕ → Progress → ℕ → ℕ → List (Bool × Refusal)
awaited_rows own p number ticket = (is_closed p.state, (38, 0)) ∷ (not (awaits_word own p number ticket), (42, 0)) ∷ []

-- 62, 33, 38, 42
abbrev pub word_rows : ℕ → Outline → Progress → ℕ → ℕ → ℕ → List (Bool × Refusal)
word_rows own o p number ticket now' = clock_rows o p now' ++ awaited_rows own p number ticket

-- where the deadline was due, advance has acted: 42
abbrev pub after_advance : ℕ → ℕ → ℕ → Progress → Progress → Turn
after_advance own number ticket p next =
    cond (awaits_word own p number ticket) (left next) (refuses (42, 0) p)

unfoldable pub accepted_in : ℕ → Outline → Progress → ℕ → ℕ → ℕ → Turn
accepted_in own o p number ticket now' =
    let q = advanced_to o p now' in
    or_tickets p
    (on_refusal (refusal (word_rows own o p number ticket now')) p
    (after_advance own number ticket q (accepted_next o.count o.acknowledgment_window q now')))

unfoldable pub accepted_of : Sender → ℕ → ℕ → ℕ → Step
accepted_of s number ticket now' = placed s (accepted_in s.terms.number (outline s) s.progress number ticket now')

unfoldable pub lower_failed_in : ℕ → Outline → Progress → ℕ → ℕ → LowerLayerFailure → ℕ → Turn
lower_failed_in own o p number ticket failure now' =
    let q = advanced_to o p now' in
    or_tickets p (on_refusal (refusal (word_rows own o p number ticket now')) p (after_advance own number ticket q (finish q (Failed (LowerLayer failure)))))

unfoldable pub lower_failed_of : Sender → ℕ → ℕ → LowerLayerFailure → ℕ → Step
lower_failed_of s number ticket failure now' = placed s (lower_failed_in s.terms.number (outline s) s.progress number ticket failure now')

-- ---- a response

-- an entry that is set though its segment was never submitted
abbrev pub acknowledges_unsubmitted : ℕ → Words → AcknowledgmentMap → Bool
acknowledges_unsubmitted n submitted m =
    not (all_below 256 (λ i. not (ltb i m.bit_count && marked m.received i && not (ltb i n && marked submitted i))))

-- not all were submitted, or an entry is clear
abbrev pub is_gap : ℕ → Words → AcknowledgmentMap → Bool
is_gap n submitted m =
    not (all_below n (marked submitted)) || not (all_below n (λ i. not (ltb i m.bit_count && not (marked m.received i))))

-- Received, though there is such a gap
abbrev pub contradicts : ℕ → Words → Response → Bool
contradicts n submitted r = eqb (status_number r.status) 10 && is_gap n submitted r.acknowledgments

-- 38, 45, 31, 47
abbrev pub arrival_rows : Terms → Progress → Arrival → List (Bool × Refusal)
arrival_rows t p a =
    (is_closed p.state, (38, 0))
    ∷ (not (same_identity a.peer t.peer), (45, 0))
    ∷ (not (same_protocol a.protocol t.protocol), (31, 0))
    ∷ (not (eqb a.unparsed 0), (47, 0))
    ∷ []

-- 32, 46, 43, 48, 49
abbrev pub entry_rows : Outline → Progress → Response → List (Bool × Refusal)
entry_rows o p r =
    (not (eqb r.transaction_id o.transaction_id), (32, 0))
    ∷ (prohibited o.acknowledgment_window, (46, 0))
    ∷ (all_below o.count (λ i. not (marked p.submitted i)), (43, 0))
    ∷ (acknowledges_unsubmitted o.count p.submitted r.acknowledgments, (48, 0))
    ∷ (contradicts o.count p.submitted r, (49, 0))
    ∷ []

-- 62, 33, 38, 45, 31, 47, codec, 32, 46, 43, 48, 49
abbrev pub response_rows_of : Terms → Outline → Progress → Arrival → List (Bool × Refusal)
response_rows_of t o p a =
    clock_rows o p a.reading ++ (arrival_rows t p a ++ (response_rows t.version a.response ++ entry_rows o p a.response))

-- the reaction, and the closing advance
abbrev pub reacted : Outline → Progress → Arrival → Progress
reacted o p a = advanced_to o (react o.count p a.response a.reading) a.reading

-- late: advance acts first; where that closes the sender, 38
abbrev pub late_first : Outline → Progress → Arrival → Turn
late_first o p a =
    let q = advanced_to o p a.reading in
    cond (late p.deadline_monotonic_ms a.reading) (cond (is_closed q.state) (refuses (38, 0) q) (left (reacted o q a))) (left (reacted o p a))

unfoldable pub receive_response_in : Terms → Outline → Progress → Arrival → Turn
receive_response_in t o p a = or_tickets p (on_refusal (refusal (response_rows_of t o p a)) p (late_first o p a))

unfoldable pub receive_response_of : Sender → Arrival → Step
receive_response_of s a = placed s (receive_response_in s.terms (outline s) s.progress a)
