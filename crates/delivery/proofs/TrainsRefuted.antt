-- The second half (2026-02) does not hold of a receiver that takes Continues of one length alone, as plan_message's are, nor of one that also takes
-- those one octet shorter, as the even planner's are. Of the two trains that show it one is the even planner's, the other the frozen check's; ours
-- hands the message over with each.
use Rattle.std.specs.Prelude.{ℕ, ◌≡◌, refl, List, [], ◌∷◌, true, replicate, None}
use Rattle.std.proofs.Common.{lit≤}
use Rattle.octets.specs.Octets.{wiped_to, same_octets}
use Rattle.words.specs.Marks.{marked, sum_below, words_of, all_below, highest_of}
use Rattle.link.specs.Profile.{known_profile, receiver_interval}
use Rattle.tsar.specs.Layout.{WholeSegment}
use Rattle.tsar.specs.Writing.{header_octets}
use Rattle.tsar.specs.declared.AcknowledgmentWindow.TheVariants as window
use Rattle.tsar.specs.declared.SegmentKind.{SegmentKind}
use Rattle.tsar.specs.declared.SegmentKind.TheVariants as kind'
use Rattle.tsar.specs.declared.SegmentHead.{SegmentHead}
use Rattle.segmentation.specs.Plan.{plan_message, plan_of, segment_count, even_message, evened, share_of, longer, segmented, segment_at}
use Rattle.segmentation.specs.Frozen.{Proposal, frozen_refusal, frozen_of, frozen_segment_at, kept_heads, data_before, segments_from}
use Rattle.segmentation.specs.declared.SegmentedMessage.{SegmentedMessage}
use Rattle.receiver.specs.Record.{sum_to, empty_slots, empty_lengths, joined, impossible}
use Rattle.receiver.specs.Answers.{Step}
use Rattle.receiver.specs.Receive.{receive_of}
use Rattle.receiver.specs.Advance.{try_new_of}
use Rattle.delivery.specs.Calls.{StepFunction, ours, start, after, carried}
use Rattle.delivery.specs.Delivery.{HandsOver}
use Rattle.delivery.specs.Demand.{SecondHalf, TrainFor, evenly, frozen, step_after, train_of, frozen_train_of}
use Rattle.delivery.specs.Own.{own_interval}
use Rattle.delivery.specs.Witness.{terms₀, store₀, room, new_made}
use Rattle.delivery.proofs.InOrder.{in_order, bringing, bringing_to}
use Rattle.delivery.specs.Refuted.{none_some}
use Rattle.delivery.specs.TrainsRefuted.{one_length, at_most_one_shorter}

-- ---- two trains of a message of 8 octets

abbrev eight : List ℕ
eight = 10 ∷ 11 ∷ 12 ∷ 13 ∷ 14 ∷ 15 ∷ 16 ∷ 17 ∷ []

-- the even planner's at budget 6 under Prohibited: data of 1, 3, 2 and 2 octets
abbrev even_plan : SegmentedMessage
even_plan =
    record {
      message_octets = 8;
      payload_budget_octets = 6;
      transaction_id = 0;
      acknowledgment_window = window.Prohibited;
      begin_octets = 1;
      later_capacity = 2;
      count = 4;
      states_length = true;
    }

even_planned : even_message 8 6 0 window.Prohibited 1 100 ≡ segmented even_plan
unfolding plan_message plan_of segment_count evened share_of
even_planned = refl

even_train : TrainFor 0 1 eight 4 (train_of even_plan eight)
even_train = evenly 6 100 window.Prohibited even_plan even_planned

-- and one that no planner gives: data of 0, 5, 1 and 2 octets
abbrev head_with : ℕ → SegmentKind → ℕ → SegmentHead
head_with i k n = record { segment = record { transaction_id = 0; sequence_number = i; kind = k }; segment_data_length = n }

abbrev heads : List SegmentHead
heads =
    head_with 0 (kind'.Begin None None) 0
    ∷ head_with 1 (kind'.Continue None) 5
    ∷ head_with 2 (kind'.Continue None) 1
    ∷ head_with 3 (kind'.End None None) 2
    ∷ []

abbrev proposal : Proposal
proposal = record { heads = heads; count = 4; joined = eight; message = eight; budget = 20; version = 1; ceiling = 20 }

accepted : frozen_refusal proposal ≡ None
unfolding frozen_refusal segments_from data_before same_octets header_octets
accepted = refl

frozen_train : TrainFor 0 1 eight 4 (frozen_train_of (frozen_of proposal) eight)
frozen_train = frozen heads 4 eight 20 20 refl accepted

-- ---- what is answered to the End, with the segments in order before it

abbrev output : List ℕ
output = replicate 10 165

abbrev end_step : StepFunction → (ℕ → WholeSegment) → Step
end_step step segment = step_after step (after step (start (try_new_of terms₀ 0).receiver store₀) (bringing_to terms₀ 0 segment output 3)) (bringing terms₀ 0 segment output 3)

one_length_none : carried (end_step one_length (train_of even_plan eight)).answer ≡ None
unfolding known_profile receiver_interval try_new_of receive_of impossible all_below sum_to empty_slots empty_lengths joined same_octets wiped_to marked words_of sum_below highest_of longer segment_at bringing_to
one_length_none = refl

shorter_none : carried (end_step at_most_one_shorter (frozen_train_of (frozen_of proposal) eight)).answer ≡ None
unfolding known_profile receiver_interval try_new_of receive_of impossible all_below sum_to empty_slots empty_lengths joined same_octets wiped_to marked words_of sum_below highest_of frozen_segment_at kept_heads data_before bringing_to
shorter_none = refl

-- ours hands over both
pub even_handed : HandsOver (end_step ours (train_of even_plan eight)) eight
unfolding known_profile receiver_interval try_new_of receive_of impossible all_below sum_to empty_slots empty_lengths joined same_octets wiped_to marked words_of sum_below highest_of longer segment_at bringing_to
even_handed = (refl, refl)

pub frozen_handed : HandsOver (end_step ours (frozen_train_of (frozen_of proposal) eight)) eight
unfolding known_profile receiver_interval try_new_of receive_of impossible all_below sum_to empty_slots empty_lengths joined same_octets wiped_to marked words_of sum_below highest_of frozen_segment_at kept_heads data_before bringing_to
frozen_handed = (refl, refl)

-- ---- refuted

-- a receiver that hands nothing over with the End of such a train
refuted : (step : StepFunction) (segment : ℕ → WholeSegment) → TrainFor 0 1 eight 4 segment → carried (end_step step segment).answer ≡ None → SecondHalf own_interval try_new_of step → ⊥
unfolding receiver_interval
refuted step segment T e p =
    let h = in_order (own_interval terms₀) (lit≤ tt) try_new_of step terms₀ (p terms₀) 0 new_made (lit≤ tt) store₀ eight 4 segment T (lit≤ tt) room output (lit≤ tt) in
    none_some _ 8 e h.0

pub one_length_refuted : SecondHalf own_interval try_new_of one_length → ⊥
one_length_refuted = refuted one_length (train_of even_plan eight) even_train one_length_none

pub at_most_one_shorter_refuted : SecondHalf own_interval try_new_of at_most_one_shorter → ⊥
at_most_one_shorter_refuted = refuted at_most_one_shorter (frozen_train_of (frozen_of proposal) eight) frozen_train shorter_none
