-- The sender's refusals: none is 0, and none that of octets that spell no value. Assumes nothing.
use mathlib.Core.Path.{◌≡◌, refl}
use mathlib.Core.Bool.{Bool, true, false, cond, ◌&&◌}
use mathlib.Core.List.{List}
use Rattle.std.specs.Prelude.{Option, Some, None}
use Prim.Native.Nat.{ℕ, ◌-◌, ◌^◌}
use lib.Dec.{ltb}
use Rattle.tsar.specs.Rows.{Refusal, refusal}
use Rattle.tsar.specs.Kinds.{prohibited}
use Rattle.tsar.specs.declared.AcknowledgmentWindow.{AcknowledgmentWindow}
use Rattle.sender.specs.declared.LowerLayerFailure.{LowerLayerFailure}
use Rattle.sender.specs.declared.SenderFailure.TheVariants.{LowerLayer}
use Rattle.sender.specs.declared.SenderState.TheVariants.{Failed}
use Rattle.sender.specs.declared.Terms.{Terms}
use Rattle.sender.specs.declared.Progress.{Progress}
use Rattle.sender.specs.declared.Outline.{Outline}
use Rattle.sender.specs.declared.Arrival.{Arrival}
use Rattle.sender.specs.declared.Plan.{Plan}
use Rattle.sender.specs.declared.Sender.{Sender}
use Rattle.sender.specs.Record.{is_closed, late, due, outline}
use Rattle.sender.specs.Steps.{finish, accepted_next, sets_deadline, counted, advanced, cancelled}
use Rattle.sender.specs.Calls.{Answer, refused, answered, Turn, refuses, left, or_tickets, on_refusal, advanced_to, clock_rows, advance_in, advance_of, cancel_in, cancel_of, submitted_rows, count_rows, counting, submitting, submitted_in, submitted_of, awaits_word, word_rows, after_advance, accepted_in, accepted_of, lower_failed_in, lower_failed_of, response_rows_of, reacted, late_first, receive_response_in, receive_response_of}
use Rattle.sender.specs.TryNew.{try_new_rows, made_after, try_new_of}
use Rattle.sender_answers.specs.Answers.{answer_code}
use Rattle.two_calls.proofs.Passing.{passes, refusal_passes, and_left, other, other_refusal, fine}

abbrev pub fine_answer : Answer → Bool
fine_answer (refused x) = fine x
fine_answer (answered state) = true

pub answer_other : (a : Answer) → fine_answer a ≡ true → other (answer_code a) ≡ true
answer_other (refused x) p = and_left (other_refusal x) _ p
answer_other (answered state) p = refl

-- ---- try_new

pub sender_new_fine : (t : Terms) (p : Plan) (message : List ℕ) (reading : ℕ) → fine_answer (try_new_of t p message reading).answer ≡ true
unfolding try_new_of
sender_new_fine t p message reading = go (refusal (try_new_rows t p message)) (refusal_passes fine (try_new_rows t p message) refl)
  where
    go : (o : Option Refusal) → passes fine o ≡ true → fine_answer (made_after o t p reading).answer ≡ true
    go None e = refl
    go (Some x) e = e

-- ---- what the other calls are made of

abbrev Fine : Turn → Type 0
Fine t = fine_answer t.answer ≡ true

one_of : (b : Bool) (t u : Turn) → Fine t → Fine u → Fine (cond b t u)
one_of true t u p q = p
one_of false t u p q = q

tickets_fine : (p : Progress) (t : Turn) → Fine t → Fine (or_tickets p t)
tickets_fine p t e = one_of (ltb (2 ^ 64 - 1) t.progress.last_ticket) (refuses (63, 0) p) t refl e

refusal_fine : (o : Option Refusal) (p : Progress) (t : Turn) → passes fine o ≡ true → Fine t → Fine (on_refusal o p t)
refusal_fine None p t e f = f
refusal_fine (Some x) p t e f = e

-- ---- the other calls

pub advance_fine : (s : Sender) (reading : ℕ) → fine_answer (advance_of s reading).answer ≡ true
unfolding advance_of advance_in
advance_fine s reading =
    let o = outline s in
    let p = s.progress in
    let t = left (advanced_to o p reading) in
    let rows = clock_rows o p reading in
    tickets_fine p (on_refusal (refusal rows) p t) (refusal_fine (refusal rows) p t (refusal_passes fine rows refl) refl)

pub cancel_fine : (s : Sender) (reading : ℕ) → fine_answer (cancel_of s reading).answer ≡ true
unfolding cancel_of cancel_in
cancel_fine s reading =
    let o = outline s in
    let p = s.progress in
    let t = left (cancelled (advanced_to o p reading)) in
    let rows = clock_rows o p reading in
    tickets_fine p (on_refusal (refusal rows) p t) (refusal_fine (refusal rows) p t (refusal_passes fine rows refl) refl)

counting_fine : (interval n : ℕ) (w : AcknowledgmentWindow) (p : Progress) (queued observed : ℕ) → Fine (counting interval n w p queued observed)
counting_fine interval n w p queued observed =
    let rows = count_rows interval (sets_deadline n w p) p queued in
    refusal_fine (refusal rows) p (left (advanced n w (counted interval n w p queued) observed)) (refusal_passes fine rows refl) refl

submitting_fine : (interval : ℕ) (o : Outline) (p : Progress) (queued observed : ℕ) → Fine (submitting interval o p queued observed)
submitting_fine interval o p queued observed =
    one_of (prohibited o.acknowledgment_window && due p.deadline_monotonic_ms queued) (refuses (44, 0) (advanced_to o p observed))
    (counting interval o.count o.acknowledgment_window p queued observed)
    refl
    (counting_fine interval o.count o.acknowledgment_window p queued observed)

pub submitted_fine : (interval : ℕ) (s : Sender) (number ticket queued observed : ℕ) → fine_answer (submitted_of interval s number ticket queued observed).answer ≡ true
unfolding submitted_of submitted_in
submitted_fine interval s number ticket queued observed =
    let o = outline s in
    let p = s.progress in
    let t = submitting interval o p queued observed in
    let rows = submitted_rows s.terms.number o p number ticket queued observed in
    tickets_fine p (on_refusal (refusal rows) p t) (refusal_fine (refusal rows) p t (refusal_passes fine rows refl) (submitting_fine interval o p queued observed))

after_fine : (own number ticket : ℕ) (p next : Progress) → Fine (after_advance own number ticket p next)
after_fine own number ticket p next = one_of (awaits_word own p number ticket) (left next) (refuses (42, 0) p) refl refl

pub accepted_fine : (s : Sender) (number ticket reading : ℕ) → fine_answer (accepted_of s number ticket reading).answer ≡ true
unfolding accepted_of accepted_in
accepted_fine s number ticket reading =
    let o = outline s in
    let p = s.progress in
    let q = advanced_to o p reading in
    let next = accepted_next o.count o.acknowledgment_window q reading in
    let t = after_advance s.terms.number number ticket q next in
    let rows = word_rows s.terms.number o p number ticket reading in
    tickets_fine p (on_refusal (refusal rows) p t) (refusal_fine (refusal rows) p t (refusal_passes fine rows refl) (after_fine s.terms.number number ticket q next))

pub lower_failed_fine : (s : Sender) (number ticket : ℕ) (failure : LowerLayerFailure) (reading : ℕ) → fine_answer (lower_failed_of s number ticket failure reading).answer ≡ true
unfolding lower_failed_of lower_failed_in
lower_failed_fine s number ticket failure reading =
    let o = outline s in
    let p = s.progress in
    let q = advanced_to o p reading in
    let next = finish q (Failed (LowerLayer failure)) in
    let t = after_advance s.terms.number number ticket q next in
    let rows = word_rows s.terms.number o p number ticket reading in
    tickets_fine p (on_refusal (refusal rows) p t) (refusal_fine (refusal rows) p t (refusal_passes fine rows refl) (after_fine s.terms.number number ticket q next))

late_fine : (o : Outline) (p : Progress) (a : Arrival) → Fine (late_first o p a)
late_fine o p a =
    let q = advanced_to o p a.reading in
    one_of (late p.deadline_monotonic_ms a.reading) (cond (is_closed q.state) (refuses (38, 0) q) (left (reacted o q a))) (left (reacted o p a))
    (one_of (is_closed q.state) (refuses (38, 0) q) (left (reacted o q a)) refl refl)
    refl

pub response_fine : (s : Sender) (a : Arrival) → fine_answer (receive_response_of s a).answer ≡ true
unfolding receive_response_of receive_response_in
response_fine s a =
    let o = outline s in
    let p = s.progress in
    let rows = response_rows_of s.terms o p a in
    tickets_fine p (on_refusal (refusal rows) p (late_first o p a))
    (refusal_fine (refusal rows) p (late_first o p a) (refusal_passes fine rows refl) (late_fine o p a))
