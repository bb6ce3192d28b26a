-- Each of the four occasions occurs, as examples over a store that holds something; and the law does not hold of these receivers, each a step function.
-- Assumes nothing.
use Rattle.std.specs.Prelude.{ℕ, ◌≡◌, refl, List, [], ◌∷◌, true, false, get_or, replicate}
use Rattle.std.proofs.Common.{sym, ap, ◌∙◌, arith, lit≤}
use Rattle.std.proofs.lemmas.Bool.{false≢true}
use Rattle.octets.specs.Octets.{wiped_to, same_octets}
use Rattle.words.specs.Laws.{marked_none}
use Rattle.words.specs.Marks.{marked, sum_below, words_of, all_below, highest_of}
use Rattle.link.specs.Profile.{known_profile, receiver_interval}
use Rattle.tsar.specs.declared.AcknowledgmentWindow.TheVariants as window
use Rattle.segmentation.specs.Plan.{longer}
use Rattle.receiver.specs.declared.ReceiverState.TheVariants.{Receiving, Complete}
use Rattle.receiver.specs.declared.Receiver.{Receiver}
use Rattle.receiver.specs.Record.{late, is_held, impossible, sum_to, empty_slots, empty_lengths, joined}
use Rattle.receiver.specs.Answers.{refused}
use Rattle.receiver.specs.Receive.{Arrival, receive_of}
use Rattle.receiver.specs.Advance.{try_new_of, advance_of, cancel_of, release_of}
use Rattle.delivery.specs.Calls.{Call, receive, advance, cancel, release, ours, Left, after}
use Rattle.delivery.specs.Demand.{step_after}
use Rattle.delivery.specs.Occasions.{Occasion, failure, expiry, cancelling, releasing, occasion, is_one, closes, WipesOnOccasion}
use Rattle.delivery.proofs.Wiping.{own_wipes}
use Rattle.delivery.specs.Witness.{arrival, bring}
use Rattle.delivery.specs.OccasionsRefuted.{Occurs, begun₀, almost₀, complete₀, release_keeps, advance_releases, cancel_releases, idle, reopens, hands_and_closes}

module _ (w : Left) (c : Call) (o : Occasion) (x : Occurs w c o) where
  -- by the law it closes
  pub occurs_closes : closes w.receiver (step_after ours w c) ≡ true
  occurs_closes = (own_wipes w.receiver w.store c).exactly ∙ ap is_one x.occasion_is

  -- and the octet is 0 then
  pub occurs_wipes : get_or (step_after ours w c).store 0 0 ≡ 0
  occurs_wipes = ((own_wipes w.receiver w.store c).wipes occurs_closes).zero 0 (lit≤ tt)

-- the Begin again, with other parameters
pub failure_occurs : Occurs begun₀ (bring window.Prohibited false 0 6) failure
unfolding known_profile receiver_interval try_new_of receive_of advance_of cancel_of release_of impossible all_below sum_to empty_slots empty_lengths joined same_octets wiped_to marked words_of sum_below highest_of longer
failure_occurs = record { occasion_is = refl; stored = refl }

-- an advance at the deadline
pub expiry_occurs : Occurs begun₀ (advance 300005) expiry
unfolding known_profile receiver_interval try_new_of receive_of advance_of cancel_of release_of impossible all_below sum_to empty_slots empty_lengths joined same_octets wiped_to marked words_of sum_below highest_of longer
expiry_occurs = record { occasion_is = refl; stored = refl }

-- a receive past it, which is refused with 38 and wipes all the same
pub late_expiry_occurs : Occurs begun₀ (bring window.Prohibited true 1 300006) expiry
unfolding known_profile receiver_interval try_new_of receive_of advance_of cancel_of release_of impossible all_below sum_to empty_slots empty_lengths joined same_octets wiped_to marked words_of sum_below highest_of longer
late_expiry_occurs = record { occasion_is = refl; stored = refl }

-- a cancel while Receiving
pub cancelling_occurs : Occurs begun₀ (cancel 6) cancelling
unfolding known_profile receiver_interval try_new_of receive_of advance_of cancel_of release_of impossible all_below sum_to empty_slots empty_lengths joined same_octets wiped_to marked words_of sum_below highest_of longer
cancelling_occurs = record { occasion_is = refl; stored = refl }

-- a release after the hand-over
pub releasing_occurs : Occurs complete₀ (release 10) releasing
unfolding known_profile receiver_interval try_new_of receive_of advance_of cancel_of release_of impossible all_below sum_to empty_slots empty_lengths joined same_octets wiped_to marked words_of sum_below highest_of longer
releasing_occurs = record { occasion_is = refl; stored = refl }

-- a repeat after a release gets Closed
pub repeat_closed : (step_after ours (after ours complete₀ (release 10 ∷ [])) (bring window.Prohibited true 0 11)).answer ≡ refused (38, 0)
unfolding known_profile receiver_interval try_new_of receive_of advance_of cancel_of release_of impossible all_below sum_to empty_slots empty_lengths joined same_octets wiped_to marked words_of sum_below highest_of longer
repeat_closed = refl

-- ---- receivers that are shut out

-- the records that they are shown on: what is computed of them
almost_receiving : almost₀.receiver.progress.state ≡ Receiving
unfolding known_profile receiver_interval try_new_of receive_of advance_of cancel_of release_of impossible all_below sum_to empty_slots empty_lengths joined same_octets wiped_to marked words_of sum_below highest_of longer
almost_receiving = refl

complete_is : complete₀.receiver.progress.state ≡ Complete
unfolding known_profile receiver_interval try_new_of receive_of advance_of cancel_of release_of impossible all_below sum_to empty_slots empty_lengths joined same_octets wiped_to marked words_of sum_below highest_of longer
complete_is = refl

complete_holds : is_held complete₀.receiver 0 ≡ true
unfolding known_profile receiver_interval try_new_of receive_of advance_of cancel_of release_of impossible all_below sum_to empty_slots empty_lengths joined same_octets wiped_to marked words_of sum_below highest_of longer
complete_holds = refl

pub release_keeps_refuted : WipesOnOccasion release_keeps → ⊥
release_keeps_refuted law =
    let x = releasing_occurs in
    omega (arith, x.stored, ((law complete₀.receiver complete₀.store (release 10)).wipes (occurs_closes complete₀ (release 10) releasing x)).zero 0 (lit≤ tt))

-- it closes a Complete receiver on no occasion
advance_closes : (r : Receiver) (store : List ℕ) → r.progress.state ≡ Complete → closes r (advance_releases r store (advance 10)) ≡ true
advance_closes r store e = rw e

advance_none : (r : Receiver) (store : List ℕ) → r.progress.state ≡ Complete → is_one (occasion (advance 10) r (advance_releases r store (advance 10)).receiver.progress.state) ≡ false
advance_none r store e = rw e

pub advance_releases_refuted : WipesOnOccasion advance_releases → ⊥
advance_releases_refuted law =
    let r = complete₀.receiver in
    let l = complete₀.store in
    false≢true (sym (advance_none r l complete_is) ∙ sym (law r l (advance 10)).exactly ∙ advance_closes r l complete_is)

cancel_closes : (r : Receiver) (store : List ℕ) → r.progress.state ≡ Complete → closes r (cancel_releases r store (cancel 10)) ≡ true
cancel_closes r store e = rw e

cancel_none : (r : Receiver) (store : List ℕ) → r.progress.state ≡ Complete → is_one (occasion (cancel 10) r (cancel_releases r store (cancel 10)).receiver.progress.state) ≡ false
cancel_none r store e = rw e

pub cancel_releases_refuted : WipesOnOccasion cancel_releases → ⊥
cancel_releases_refuted law =
    let r = complete₀.receiver in
    let l = complete₀.store in
    false≢true (sym (cancel_none r l complete_is) ∙ sym (law r l (cancel 10)).exactly ∙ cancel_closes r l complete_is)

idle_open : (r : Receiver) (store : List ℕ) → r.progress.state ≡ Complete → closes r (idle r store (release 10)) ≡ false
idle_open r store e = rw e

pub idle_refuted : WipesOnOccasion idle → ⊥
idle_refuted law =
    let r = complete₀.receiver in
    let l = complete₀.store in
    false≢true (sym (idle_open r l complete_is) ∙ (law r l (release 10)).acts refl refl)

reopens_open : (r : Receiver) (store : List ℕ) → r.progress.state ≡ Complete → closes r (reopens r store (advance 10)) ≡ false
reopens_open r store e = rw e

reopens_empty : (r : Receiver) (store : List ℕ) → r.progress.state ≡ Complete → is_held (reopens r store (advance 10)).receiver 0 ≡ false
reopens_empty r store e = rw e (marked_none 0)

pub reopens_refuted : WipesOnOccasion reopens → ⊥
reopens_refuted law =
    let r = complete₀.receiver in
    let l = complete₀.store in
    false≢true (sym (reopens_empty r l complete_is) ∙ (law r l (advance 10)).still_held (reopens_open r l complete_is) 0 complete_holds)

module _ (r : Receiver) (store : List ℕ) (a : Arrival) (out : List ℕ) (e : r.progress.state ≡ Receiving) (f : (ours r store (receive a out)).receiver.progress.state ≡ Complete) (g : late r.progress.deadline_monotonic_ms a.reading ≡ false) where
  hands_closes : closes r (hands_and_closes r store (receive a out)) ≡ true
  hands_closes = rw (f, e)

  hands_none : is_one (occasion (receive a out) r (hands_and_closes r store (receive a out)).receiver.progress.state) ≡ false
  hands_none = rw (f, e, g)

-- the middle segment, in time
in_time : late almost₀.receiver.progress.deadline_monotonic_ms 9 ≡ false
unfolding known_profile receiver_interval try_new_of receive_of advance_of cancel_of release_of impossible all_below sum_to empty_slots empty_lengths joined same_octets wiped_to marked words_of sum_below highest_of longer
in_time = refl

pub hands_and_closes_refuted : WipesOnOccasion hands_and_closes → ⊥
hands_and_closes_refuted law =
    let r = almost₀.receiver in
    let l = almost₀.store in
    let a = arrival window.Prohibited true 1 9 in
    let out : List ℕ = replicate 10 0 in
    false≢true (sym (hands_none r l a out almost_receiving complete_is in_time) ∙ sym (law r l (bring window.Prohibited true 1 9)).exactly ∙ hands_closes r l a out almost_receiving complete_is in_time)
