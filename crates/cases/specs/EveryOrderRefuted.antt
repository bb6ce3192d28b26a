-- What EveryOrder asks can be met, by a train of six segments in each of its 120 orders; and it is refuted of receivers that take segments in rising
-- order only, that hand over with every End, and that hand over again. Assumes nothing.
use Rattle.std.specs.Prelude.{ℕ, ◌-◌, ◌<◌, ◌≡◌, refl, Bool, true, cond, ◌||◌, List, [], ◌∷◌, replicate, eqb, Some, None}
use Rattle.std.proofs.Common.{subst, arith, lit≤}
use Rattle.octets.specs.Octets.{wiped_to, same_octets}
use Rattle.words.specs.Marks.{marked, sum_below, words_of, all_below, highest_of}
use Rattle.link.specs.Profile.{known_profile, receiver_interval}
use Rattle.tsar.specs.Kinds.{is_end}
use Rattle.tsar.specs.Layout.{WholeSegment}
use Rattle.tsar.specs.declared.AcknowledgmentWindow.TheVariants as window
use Rattle.segmentation.specs.Plan.{longer, plan_message, plan_of, segment_count, segmented, segment_at}
use Rattle.segmentation.specs.declared.SegmentedMessage.{SegmentedMessage}
use Rattle.orders.specs.Orders.{arranged, order_of}
use Rattle.orders.specs.Statement.{IsOrder}
use Rattle.orders.proofs.Laws.{every_order_once}
use Rattle.receiver.specs.Record.{sum_to, empty_slots, empty_lengths, joined, impossible, is_held, complete}
use Rattle.receiver.specs.Answers.{Answer, refused, answered, Step, refuses}
use Rattle.receiver.specs.Receive.{sequence, kind, receive_of}
use Rattle.receiver.specs.Advance.{try_new_of}
use Rattle.receiver.specs.declared.Terms.{Terms}
use Rattle.delivery.specs.Calls.{receive, advance, cancel, release, StepFunction, ours, carried}
use Rattle.delivery.specs.Demand.{planned, train_of}
use Rattle.delivery.specs.Own.{own_interval}
use Rattle.delivery.specs.Witness.{text, terms₀, store₀, room, new_made, plan₀, planned as planned₀}
use Rattle.delivery.specs.Refuted.{none_some}
use Rattle.cases.specs.EveryOrder.{InTime, received, Served, EveryOrderServed}
use Rattle.cases.specs.EveryOrderServed.{ours_served}

-- all segments at one reading
abbrev still : ℕ → ℕ
still i = 7

still_in_time : (count : ℕ) → InTime (own_interval terms₀) 0 count still
unfolding receiver_interval
still_in_time count = record { starts = lit≤ tt; never_falls = λ i. lit≤ tt; under = λ i h. lit≤ tt; below = λ i. lit≤ tt }

-- ---- a train of six segments

abbrev sixteen : List ℕ
sixteen = 10 ∷ 11 ∷ 12 ∷ 13 ∷ 14 ∷ 15 ∷ 16 ∷ 17 ∷ 18 ∷ 19 ∷ 20 ∷ 21 ∷ 22 ∷ 23 ∷ 24 ∷ 25 ∷ []

abbrev terms₆ : Terms
terms₆ = record { peer = terms₀.peer; protocol = terms₀.protocol; transaction_id = 0; version = 1; profile = 1; maximum_message_octets = 16 }

abbrev plan₆ : SegmentedMessage
plan₆ =
    record {
      message_octets = 16;
      payload_budget_octets = 6;
      transaction_id = 0;
      acknowledgment_window = window.Prohibited;
      begin_octets = 1;
      later_capacity = 3;
      count = 6;
      states_length = true;
    }

planned₆ : plan_message 16 6 0 window.Prohibited 1 100 ≡ segmented plan₆
unfolding plan_message plan_of segment_count
planned₆ = refl

made₆ : (try_new_of terms₆ 0).refused ≡ None
unfolding try_new_of known_profile
made₆ = refl

pub six_served : (k : ℕ) → k < 120 → Served try_new_of ours terms₆ 0 store₀ (train_of plan₆ sixteen) still (λ place. replicate 16 165) sixteen 6 (order_of 6 k)
six_served k h =
    ours_served terms₆ 0 made₆ store₀ sixteen 6 (train_of plan₆ sixteen) (planned 6 100 window.Prohibited plan₆ planned₆) (lit≤ tt) room still (still_in_time 6)
    (λ place. replicate 16 165) (λ place. lit≤ tt) (order_of 6 k) ((every_order_once 6).each_is k h)

-- ---- receivers of which it does not hold: by a train of three segments in the order 0 2 1

abbrev three : ℕ → WholeSegment
three = train_of (plan₀ window.Prohibited true) text

abbrev output : ℕ → List ℕ
output place = replicate 10 165

order_1 : order_of 3 1 ≡ 0 ∷ 2 ∷ 1 ∷ []
unfolding order_of arranged
order_1 = refl

abbrev Turned : StepFunction → Type 0
Turned step = Served try_new_of step terms₀ 0 store₀ three still output text 3 (0 ∷ 2 ∷ 1 ∷ [])

served_so : (step : StepFunction) → EveryOrderServed own_interval try_new_of step → Turned step
served_so step s =
    s terms₀ 0 new_made store₀ text 3 three (planned 6 100 window.Prohibited (plan₀ window.Prohibited true) planned₀) (lit≤ tt) room still (still_in_time 3) output (λ place. lit≤ tt)
    (0 ∷ 2 ∷ 1 ∷ []) (subst (λ (o : List ℕ). IsOrder 3 o) order_1 ((every_order_once 3).each_is 1 (lit≤ tt)))

-- what it answers to segment i behind a list of segments
abbrev answer : StepFunction → List ℕ → ℕ → Answer
answer step before i = (received try_new_of step terms₀ 0 store₀ three still output before i).answer

-- one that takes a segment only behind the one before it
abbrev pub rising : StepFunction
rising r store (receive a out) = cond (eqb (sequence a) 0 || is_held r (sequence a - 1)) (ours r store (receive a out)) (refuses (38, 0) r store out)
rising r store (advance n) = ours r store (advance n)
rising r store (cancel n) = ours r store (cancel n)
rising r store (release n) = ours r store (release n)

rising_none : carried (answer rising (0 ∷ 2 ∷ []) 1) ≡ None
unfolding known_profile receiver_interval try_new_of receive_of impossible all_below sum_to empty_slots empty_lengths joined same_octets wiped_to marked words_of sum_below highest_of longer segment_at
rising_none = refl

pub rising_refuted : EveryOrderServed own_interval try_new_of rising → ⊥
rising_refuted s = none_some _ 7 rising_none ((served_so rising s).last (0 ∷ 2 ∷ []) 1 refl).0

-- an answer that says of no message that it has 0 octets
abbrev carrying : Answer → Answer
carrying (refused n) = refused n
carrying (answered x None) = answered x (Some 0)
carrying (answered x (Some k)) = answered x (Some k)

abbrev carrying_if : Bool → Step → Step
carrying_if b s = record { answer = cond b (carrying s.answer) s.answer; receiver = s.receiver; store = s.store; output = s.output }

-- one that hands over with every End
abbrev pub with_end : StepFunction
with_end r store (receive a out) = carrying_if (is_end (kind a)) (ours r store (receive a out))
with_end r store (advance n) = ours r store (advance n)
with_end r store (cancel n) = ours r store (cancel n)
with_end r store (release n) = ours r store (release n)

with_end_some : carried (answer with_end (0 ∷ []) 2) ≡ Some 0
unfolding known_profile receiver_interval try_new_of receive_of impossible all_below sum_to empty_slots empty_lengths joined same_octets wiped_to marked words_of sum_below highest_of longer segment_at
with_end_some = refl

pub with_end_refuted : EveryOrderServed own_interval try_new_of with_end → ⊥
with_end_refuted s = none_some _ 0 ((served_so with_end s).no_other (0 ∷ []) 2 1 [] refl) with_end_some

-- one that hands over again with a repeat
abbrev pub again : StepFunction
again r store (receive a out) = carrying_if (complete r.progress.state) (ours r store (receive a out))
again r store (advance n) = ours r store (advance n)
again r store (cancel n) = ours r store (cancel n)
again r store (release n) = ours r store (release n)

again_some : carried (answer again (0 ∷ 2 ∷ 1 ∷ []) 1) ≡ Some 0
unfolding known_profile receiver_interval try_new_of receive_of impossible all_below sum_to empty_slots empty_lengths joined same_octets wiped_to marked words_of sum_below highest_of longer segment_at
again_some = refl

pub again_refuted : EveryOrderServed own_interval try_new_of again → ⊥
again_refuted s = none_some _ 0 ((served_so again s).not_again [] (λ k h. absurd (omega arith)) 1 (lit≤ tt)) again_some
