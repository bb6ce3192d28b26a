-- Document 02, 2026-10, of a receiver that is given by its try_new and by its step function: a train delivered once, Begin first and the others in any
-- order, is handed over by the last receive and by no other, nor by segments that come again behind it.
use Rattle.std.specs.Prelude.{ℕ, suc, ◌+◌, ◌-◌, ◌^◌, ◌≤◌, ◌<◌, min, ◌≡◌, List, [], ◌∷◌, ◌++◌, length, None}
use Rattle.tsar.specs.Layout.{WholeSegment}
use Rattle.orders.specs.Statement.{occurs, IsOrder}
use Rattle.receiver.specs.Answers.{Step}
use Rattle.receiver.specs.Record.{store_octets}
use Rattle.receiver.specs.Receive.{Arrival}
use Rattle.receiver.specs.declared.Terms.{Terms}
use Rattle.delivery.specs.Calls.{Call, receive, StepFunction, TryNewFunction, start, after, carried}
use Rattle.delivery.specs.Delivery.{HandsOver}
use Rattle.delivery.specs.Demand.{TrainFor, step_after}
use Rattle.delivery.specs.Train.{head_of}

-- the readings of the receives, by their place in the list: the first is at or after try_new's, none falls, each of the first count is under the interval
-- past the one before it, and all are at most 2^64 - 1 - interval
pub record InTime (interval made count : ℕ) (clock : ℕ → ℕ) : Type 0 where
  pub starts : made ≤ clock 0
  pub never_falls : (i : ℕ) → clock i ≤ clock (suc i)
  pub under : (i : ℕ) → suc i < count → clock (suc i) < clock i + interval
  pub below : (i : ℕ) → clock i ≤ 2 ^ 64 - 1 - interval

-- the receives: each at its own reading and with its own output
module _ (t : Terms) (segment : ℕ → WholeSegment) (clock : ℕ → ℕ) (out : ℕ → List ℕ) where
  -- the one at a place of the list brings segment i
  abbrev pub arrival : ℕ → ℕ → Arrival
  arrival place i =
      record {
        peer = t.peer;
        protocol = t.protocol;
        segment = head_of (segment i);
        octets = (segment i).segment_data;
        unparsed = 0;
        reading = clock place;
      }

  abbrev pub bringing : ℕ → ℕ → Call
  bringing place i = receive (arrival place i) (out place)

  -- one for each segment of a list, from a place on
  abbrev pub bringing_from : ℕ → List ℕ → List Call
  bringing_from place [] = []
  bringing_from place (i ∷ l) = bringing place i ∷ bringing_from (suc place) l

module _ (new : TryNewFunction) (step : StepFunction) (t : Terms) (made : ℕ) (store : List ℕ) (segment : ℕ → WholeSegment) (clock : ℕ → ℕ) (out : ℕ → List ℕ) where
  -- what the receive of segment i answers and leaves, made after one for each segment of a list
  abbrev pub received : List ℕ → ℕ → Step
  received before i =
      step_after step (after step (start (new t made).receiver store) (bringing_from t segment clock out 0 before)) (bringing t segment clock out (length before) i)

  -- in the order o: the last receive hands the message over, none before it does, nor do segments that come again behind it, however many
  pub record Served (message : List ℕ) (count : ℕ) (o : List ℕ) : Type 0 where
    pub last : (before : List ℕ) (i : ℕ) → o ≡ before ++ (i ∷ []) → HandsOver (received before i) message
    pub no_other : (before : List ℕ) (i j : ℕ) (rest : List ℕ) → o ≡ before ++ (i ∷ j ∷ rest) → carried (received before i).answer ≡ None
    pub not_again : (again : List ℕ) → ((s : ℕ) → 0 < occurs s again → s < count) → (i : ℕ) → i < count → carried (received (o ++ again) i).answer ≡ None

-- every train of demand 3's second half, of however many segments, in each of its orders, with the interval of the receiver's terms
abbrev pub EveryOrderServed : (Terms → ℕ) → TryNewFunction → StepFunction → Type 0
EveryOrderServed interval new step =
    (t : Terms) (made : ℕ) → (new t made).refused ≡ None
    → (store message : List ℕ) (count : ℕ) (segment : ℕ → WholeSegment)
    → TrainFor t.transaction_id t.version message count segment
    → length message ≤ t.maximum_message_octets → store_octets ≤ length store
    → (clock : ℕ → ℕ) → InTime (interval t) made count clock
    → (out : ℕ → List ℕ) → ((place : ℕ) → min t.maximum_message_octets store_octets ≤ length (out place))
    → (o : List ℕ) → IsOrder count o → Served new step t made store segment clock out message count o
