-- Document 02, 2026-09: 'receivers serve them as before', of frozen plans under Exceptions. A train of one is a train of the second half, ours hands
-- its message over with the End, and the second half does not hold of a receiver that refuses a Begin which asks for the window. Assumes nothing.
use Rattle.std.specs.Prelude.{ℕ, ◌≡◌, refl, List, replicate, None}
use Rattle.std.proofs.Common.{lit≤}
use Rattle.octets.specs.Octets.{wiped_to, same_octets}
use Rattle.words.specs.Marks.{marked, sum_below, words_of, all_below, highest_of}
use Rattle.link.specs.Profile.{known_profile, receiver_interval}
use Rattle.tsar.specs.declared.AcknowledgmentWindow.TheVariants as window
use Rattle.segmentation.specs.Frozen.{Proposal, head_at, frozen_refusal, frozen_of, frozen_segment_at, kept_heads, data_before}
use Rattle.segmentation.proofs.Retired.{window_asked, exceptions_train, exceptions_accepted}
use Rattle.receiver.specs.Record.{sum_to, empty_slots, empty_lengths, joined, impossible}
use Rattle.receiver.specs.Answers.{Step}
use Rattle.receiver.specs.Receive.{receive_of}
use Rattle.receiver.specs.Advance.{try_new_of}
use Rattle.delivery.specs.Calls.{StepFunction, ours, start, after, carried}
use Rattle.delivery.specs.Delivery.{HandsOver}
use Rattle.delivery.specs.Demand.{SecondHalf, TrainFor, frozen, step_after, frozen_train_of}
use Rattle.delivery.specs.Own.{own_interval}
use Rattle.delivery.specs.Witness.{terms₀, store₀, room, new_made}
use Rattle.delivery.proofs.InOrder.{in_order, bringing, bringing_to}
use Rattle.delivery.specs.Refuted.{none_some}
use Rattle.delivery.specs.ExceptionsServed.{message, train, refuses_exceptions}

-- every train that the frozen check accepts, under any window, is one of the second half's
pub frozen_served : (q : Proposal) → frozen_refusal q ≡ None → TrainFor (head_at q.heads 0).segment.transaction_id q.version q.message q.count (frozen_train_of (frozen_of q) q.message)
frozen_served q ok = frozen q.heads q.count q.joined q.budget q.ceiling refl ok

pub exceptions_served : TrainFor 0 1 message 2 train
exceptions_served = frozen_served exceptions_train exceptions_accepted

-- its Begin asks for the window
pub exceptions_begin : window_asked (train 0).kind ≡ window.Exceptions
unfolding frozen_segment_at kept_heads data_before
exceptions_begin = refl

-- ---- what is answered to its End, behind its Begin

abbrev output : List ℕ
output = replicate 10 165

abbrev end_step : StepFunction → Step
end_step step = step_after step (after step (start (try_new_of terms₀ 0).receiver store₀) (bringing_to terms₀ 0 train output 1)) (bringing terms₀ 0 train output 1)

pub exceptions_handed : HandsOver (end_step ours) message
unfolding known_profile receiver_interval try_new_of receive_of impossible all_below sum_to empty_slots empty_lengths joined same_octets wiped_to marked words_of sum_below highest_of frozen_segment_at kept_heads data_before bringing_to
exceptions_handed = (refl, refl)

none_handed : carried (end_step refuses_exceptions).answer ≡ None
unfolding known_profile receiver_interval try_new_of receive_of impossible all_below sum_to empty_slots empty_lengths joined same_octets wiped_to marked words_of sum_below highest_of frozen_segment_at kept_heads data_before bringing_to
none_handed = refl

pub refuses_exceptions_refuted : SecondHalf own_interval try_new_of refuses_exceptions → ⊥
unfolding receiver_interval
refuses_exceptions_refuted p =
    let h = in_order (own_interval terms₀) (lit≤ tt) try_new_of refuses_exceptions terms₀ (p terms₀) 0 new_made (lit≤ tt) store₀ message 2 train exceptions_served (lit≤ tt) room output (lit≤ tt) in
    none_some _ 7 none_handed h.0
