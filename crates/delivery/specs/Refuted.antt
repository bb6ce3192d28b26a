-- Demand 3 does not hold of the receivers that document 01 shuts out, nor of two that release wrongly (2026-07) and one that waits too short in profile 1
-- (2026-11), each a step function: what a wrong receiver answers in Witness's lists; nor of ours with profile 1's interval for both profiles.
use Rattle.std.specs.Prelude.{ℕ, ◌^◌, ◌≤◌, ◌<◌, ◌≡◌, refl, List, [], true, false, cond, take, get_or, Option, Some, None}
use Rattle.std.proofs.Common.{sym, ap, ◌∙◌, arith, lit≤}
use Rattle.octets.specs.Octets.{wiped_to, same_octets}
use Rattle.words.specs.Marks.{marked, sum_below, words_of, all_below, highest_of}
use Rattle.link.specs.Profile.{known_profile, receiver_interval}
use Rattle.tsar.specs.Kinds.{is_begin}
use Rattle.tsar.specs.declared.AcknowledgmentWindow.TheVariants as window
use Rattle.segmentation.specs.Plan.{longer}
use Rattle.receiver.specs.declared.ReceiverState.TheVariants.{Expired}
use Rattle.receiver.specs.declared.Receiver.{Receiver}
use Rattle.receiver.specs.Record.{sum_to, empty_slots, empty_lengths, wiped, joined, impossible, with, timed, read, closed}
use Rattle.receiver.specs.Answers.{Answer, refused, answered, refuses}
use Rattle.receiver.specs.Receive.{Arrival, kind, receive_of}
use Rattle.receiver.specs.Advance.{try_new_of, advance_of, cancel_after, release_of}
use Rattle.delivery.specs.Calls.{Call, receive, advance, cancel, release, StepFunction, step_of, ours, carried}
use Rattle.delivery.specs.Delivery.{reading}
use Rattle.delivery.specs.Demand.{Demand3}
use Rattle.delivery.specs.Own.{own_interval}
use Rattle.delivery.specs.Witness.{terms₀, new_made, new_made_2, last_step, slow_step, slow_expired, must, must_4, must_slow, not_released, not_first}

-- long enough for Witness's list, and short enough
long : 4 < own_interval terms₀
unfolding receiver_interval
long = lit≤ tt

over_200 : 200000 < own_interval terms₀
unfolding receiver_interval
over_200 = lit≤ tt

short : own_interval terms₀ ≤ 2 ^ 63
unfolding receiver_interval
short = lit≤ tt

-- ---- the wrong receivers

-- never hands over: ours, but its answers carry no message
abbrev without_message : Answer → Answer
without_message (refused n) = refused n
without_message (answered r m) = answered r None

abbrev pub never_hands_over : StepFunction
never_hands_over r store c =
    let st = ours r store c in
    record { answer = without_message st.answer; receiver = st.receiver; store = st.store; output = st.output }

-- never leaves AwaitingBegin: it takes the reading, and nothing else
abbrev pub stays_awaiting : StepFunction
stays_awaiting r store c = record { answer = answered None None; receiver = read r (reading c); store = store; output = [] }

-- answers 37 at once, to every segment but a Begin
abbrev pub due_at_once : StepFunction
due_at_once r store (receive a out) = cond (is_begin (kind a)) (ours r store (receive a out)) (refuses (37, 0) r store out)
due_at_once r store (advance n) = ours r store (advance n)
due_at_once r store (cancel n) = ours r store (cancel n)
due_at_once r store (release n) = ours r store (release n)

-- answers Closed at once, and expires
abbrev pub closed_at_once : StepFunction
closed_at_once r store (receive a out) =
    cond (is_begin (kind a)) (ours r store (receive a out)) (record { answer = refused (38, 0); receiver = closed r Expired a.reading; store = wiped store; output = out })
closed_at_once r store (advance n) = ours r store (advance n)
closed_at_once r store (cancel n) = ours r store (cancel n)
closed_at_once r store (release n) = ours r store (release n)

-- stores only the Begin and claims to hold the others: ours, but only a Begin's octets reach the store
abbrev pub stores_begin : StepFunction
stores_begin r store (receive a out) =
    let st = ours r store (receive a out) in
    record { answer = st.answer; receiver = st.receiver; store = cond (is_begin (kind a)) st.store store; output = st.output }
stores_begin r store (advance n) = ours r store (advance n)
stores_begin r store (cancel n) = ours r store (cancel n)
stores_begin r store (release n) = ours r store (release n)

-- sets a deadline of now: ours, but for the deadline that a receive sets, which is its own reading
abbrev due_now : Option ℕ → ℕ → Option ℕ
due_now None now' = None
due_now (Some d) now' = Some now'

abbrev pub deadline_now : StepFunction
deadline_now r store (receive a out) =
    let st = ours r store (receive a out) in
    let p = st.receiver.progress in
    record { answer = st.answer; receiver = with st.receiver (timed p (due_now p.deadline_monotonic_ms a.reading) p.last_monotonic_ms); store = st.store; output = st.output }
deadline_now r store (advance n) = ours r store (advance n)
deadline_now r store (cancel n) = ours r store (cancel n)
deadline_now r store (release n) = ours r store (release n)

-- releases while it is Receiving: ours, but a release is never refused
abbrev pub releases_open : StepFunction
releases_open r store (receive a out) = ours r store (receive a out)
releases_open r store (advance n) = ours r store (advance n)
releases_open r store (cancel n) = ours r store (cancel n)
releases_open r store (release n) = cancel_after None r store n

-- hands over again: ours, but a release hands something over
abbrev pub hands_again : StepFunction
hands_again r store (receive a out) = ours r store (receive a out)
hands_again r store (advance n) = ours r store (advance n)
hands_again r store (cancel n) = ours r store (cancel n)
hands_again r store (release n) = let st = ours r store (release n) in record { answer = answered None (Some 0); receiver = st.receiver; store = st.store; output = st.output }

-- waits as long as profile 2 whatever its profile is
abbrev pub waits_less : StepFunction
waits_less = step_of (receiver_interval 2)

-- hands over early: something with every call
abbrev pub early : StepFunction
early r store c = record { answer = answered None (Some 0); receiver = r; store = store; output = [] }

-- ---- what they answer

-- without its message an answer carries none
carries_none : (a : Answer) → carried (without_message a) ≡ None
carries_none (refused n) = refl
carries_none (answered r m) = refl

-- no message is not one of k octets
pub none_some : (o : Option ℕ) (k : ℕ) → o ≡ None → o ≡ Some k → ⊥
none_some o k e f = let z : ◌≡◌ {A = ℕ} 0 1 = cc in omega arith

-- under Prohibited Closed, under Every4 37
deadline_now_38 : (last_step window.Prohibited true try_new_of deadline_now).answer ≡ refused (38, 0)
unfolding known_profile receiver_interval try_new_of receive_of advance_of release_of impossible all_below sum_to empty_slots empty_lengths joined same_octets wiped_to marked words_of sum_below highest_of longer
deadline_now_38 = refl

deadline_now_37 : (last_step window.Every4 false try_new_of deadline_now).answer ≡ refused (37, 0)
unfolding known_profile receiver_interval try_new_of receive_of advance_of release_of impossible all_below sum_to empty_slots empty_lengths joined same_octets wiped_to marked words_of sum_below highest_of longer
deadline_now_37 = refl

-- released before, it is closed
releases_open_38 : (last_step window.Prohibited true try_new_of releases_open).answer ≡ refused (38, 0)
unfolding known_profile receiver_interval try_new_of receive_of advance_of release_of impossible all_below sum_to empty_slots empty_lengths joined same_octets wiped_to marked words_of sum_below highest_of longer
releases_open_38 = refl

-- after 200 s Closed, in profile 1
waits_less_38 : (slow_step 1 try_new_of waits_less).answer ≡ refused (38, 0)
unfolding known_profile receiver_interval try_new_of receive_of advance_of release_of impossible all_below sum_to empty_slots empty_lengths joined same_octets wiped_to marked words_of sum_below highest_of longer
waits_less_38 = refl

-- 7 octets, of which the fifth is what stood in the store before
stores_begin_octet : get_or (take 7 (last_step window.Prohibited true try_new_of stores_begin).output) 4 0 ≡ 165
unfolding known_profile receiver_interval try_new_of receive_of advance_of release_of impossible all_below sum_to empty_slots empty_lengths joined same_octets wiped_to marked words_of sum_below highest_of longer
stores_begin_octet = refl

-- ---- refuted

-- a receiver whose answers never carry a message, whatever else it does
pub no_message : (step : StepFunction) → ((r : Receiver) (store : List ℕ) (c : Call) → carried (step r store c).answer ≡ None) → Demand3 own_interval try_new_of step → ⊥
no_message step carries d =
    let h = must own_interval long short try_new_of new_made step d.second_half in
    none_some _ 7 (carries _ _ _) h.0

pub never_hands_over_refuted : Demand3 own_interval try_new_of never_hands_over → ⊥
never_hands_over_refuted = no_message never_hands_over (λ r store c. carries_none (ours r store c).answer)

pub stays_awaiting_refuted : Demand3 own_interval try_new_of stays_awaiting → ⊥
stays_awaiting_refuted = no_message stays_awaiting (λ r store c. refl)

-- a receiver that refuses every segment but a Begin, whatever else it does
pub refuses_later : (step : StepFunction) → ((r : Receiver) (store : List ℕ) (a : Arrival) (out : List ℕ) → is_begin (kind a) ≡ false → carried (step r store (receive a out)).answer ≡ None)
    → Demand3 own_interval try_new_of step → ⊥
refuses_later step refuses d =
    let h = must own_interval long short try_new_of new_made step d.second_half in
    none_some _ 7 (refuses _ _ _ _ refl) h.0

pub due_at_once_refuted : Demand3 own_interval try_new_of due_at_once → ⊥
due_at_once_refuted = refuses_later due_at_once (λ r store a out e. rw e)

pub closed_at_once_refuted : Demand3 own_interval try_new_of closed_at_once → ⊥
closed_at_once_refuted = refuses_later closed_at_once (λ r store a out e. rw e)

pub stores_begin_refuted : Demand3 own_interval try_new_of stores_begin → ⊥
stores_begin_refuted d =
    let h = must own_interval long short try_new_of new_made stores_begin d.second_half in
    let z : ◌≡◌ {A = ℕ} 165 14 = sym stores_begin_octet ∙ ap (λ (l : List ℕ). get_or l 4 0) h.1 in
    omega arith

pub deadline_now_refuted : Demand3 own_interval try_new_of deadline_now → ⊥
deadline_now_refuted d =
    let h = must own_interval long short try_new_of new_made deadline_now d.second_half in
    none_some _ 7 (ap carried deadline_now_38) h.0

-- and under the other window, where it answers 37
pub deadline_now_refuted_37 : Demand3 own_interval try_new_of deadline_now → ⊥
deadline_now_refuted_37 d =
    let h = must_4 own_interval long short try_new_of new_made deadline_now d.second_half in
    none_some _ 7 (ap carried deadline_now_37) h.0

pub releases_open_refuted : Demand3 own_interval try_new_of releases_open → ⊥
releases_open_refuted d =
    let h = must own_interval long short try_new_of new_made releases_open d.second_half in
    none_some _ 7 (ap carried releases_open_38) h.0

pub hands_again_refuted : Demand3 own_interval try_new_of hands_again → ⊥
hands_again_refuted d = not_released own_interval long short try_new_of new_made hands_again d.second_half 0 refl

pub waits_less_refuted : Demand3 own_interval try_new_of waits_less → ⊥
waits_less_refuted d = none_some _ 7 (ap carried waits_less_38) (must_slow 1 own_interval over_200 short try_new_of new_made waits_less d.second_half).0

-- nor does ours meet it with profile 1's interval in the conditions of every profile
pub other_interval_refuted : Demand3 (λ t. receiver_interval 1) try_new_of ours → ⊥
other_interval_refuted d = none_some _ 7 (ap carried slow_expired) (must_slow 2 (λ t. receiver_interval 1) over_200 short try_new_of new_made_2 ours d.second_half).0

pub early_refuted : Demand3 own_interval try_new_of early → ⊥
early_refuted d = not_first own_interval long short try_new_of new_made early d.second_half 0 refl
