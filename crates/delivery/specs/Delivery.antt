-- What has come, the delivery conditions of a list of calls, and when the message of a train is handed over. A train is its number of segments and its
-- segments by number.
use Rattle.std.specs.Prelude.{ℕ, ◌+◌, ◌-◌, ◌^◌, ◌≤◌, ◌<◌, min, ◌≡◌, ◌⊎◌, List, [], ◌∷◌, ◌++◌, length, take, Option, Some, None}
use Rattle.tsar.specs.Layout.{WholeSegment}
use Rattle.receiver.specs.Record.{store_octets}
use Rattle.receiver.specs.Answers.{Step}
use Rattle.receiver.specs.Receive.{Arrival, sequence, kind}
use Rattle.receiver.specs.declared.Terms.{Terms}
use Rattle.delivery.specs.Calls.{Call, receive, advance, cancel, release, carried}

-- a receive brings segment x: its type, sequence, parameters and data
pub record Brings (x : WholeSegment) (a : Arrival) : Type 0 where
  pub same_sequence : sequence a ≡ x.sequence_number
  pub same_kind_lem : kind a ≡ x.kind
  pub same_data : a.octets ≡ x.segment_data

-- has come (document 01): a receive of the calls had its type, sequence, parameters and data
abbrev pub HasCome : WholeSegment → List Call → Type 0
HasCome x [] = ⊥
HasCome x (receive a out ∷ cs) = Brings x a ⊎ HasCome x cs
HasCome x (advance n ∷ cs) = HasCome x cs
HasCome x (cancel n ∷ cs) = HasCome x cs
HasCome x (release n ∷ cs) = HasCome x cs

-- every segment of the train has come
abbrev pub AllHaveCome : ℕ → (ℕ → WholeSegment) → List Call → Type 0
AllHaveCome count segment calls = (i : ℕ) → i < count → HasCome (segment i) calls

-- a call's clock reading
abbrev pub reading : Call → ℕ
reading (receive a out) = a.reading
reading (advance n) = n
reading (cancel n) = n
reading (release n) = n

-- the reading before the next call: that of the last call, or else try_new's
abbrev pub last_reading : ℕ → List Call → ℕ
last_reading made [] = made
last_reading made (c ∷ cs) = reading c

-- the reading of the last delivery, where there was one; a delivery (document 01) is a receive
abbrev pub last_delivery : List Call → Option ℕ
last_delivery [] = None
last_delivery (receive a out ∷ cs) = Some a.reading
last_delivery (advance n ∷ cs) = last_delivery cs
last_delivery (cancel n ∷ cs) = last_delivery cs
last_delivery (release n ∷ cs) = last_delivery cs

-- ---- the delivery conditions: of the calls alone, with try_new's arguments and the train. The calls before stand the latest first.
module _ (interval : ℕ) (t : Terms) (made : ℕ) (count : ℕ) (segment : ℕ → WholeSegment) where
  -- of a reading: it never falls and starts at or after try_new's; while a deadline runs, it is under the interval past the last delivery that set it;
  -- and at most 2^64 - 1 - interval. A deadline runs from the first delivery until every segment has come, and each delivery sets it
  pub record ReadingMeets (before : List Call) (now' : ℕ) : Type 0 where
    pub never_falls : last_reading made before ≤ now'
    pub in_time : (set : ℕ) → last_delivery before ≡ Some set → (AllHaveCome count segment before → ⊥) → now' < set + interval
    pub below : now' ≤ 2 ^ 64 - 1 - interval

  -- of a delivery: any segment of the train, Begin first; the peer, protocol and transaction that try_new was given; nothing unparsed; the output long enough
  pub record DeliveryMeets (before : List Call) (a : Arrival) (out : List ℕ) : Type 0 where
    pub index : ℕ
    pub in_train : index < count
    pub brings : Brings (segment index) a
    pub begin_first : last_delivery before ≡ None → index ≡ 0
    pub peer : a.peer ≡ t.peer
    pub protocol : a.protocol ≡ t.protocol
    pub transaction : a.segment.transaction_id ≡ t.transaction_id
    pub parsed : a.unparsed ≡ 0
    pub long_enough : min t.maximum_message_octets store_octets ≤ length out
    pub reading_meets : ReadingMeets before a.reading

  -- no cancel; a release may stand anywhere, and its reading is a reading like any other
  abbrev pub Meets : List Call → Call → Type 0
  Meets before (receive a out) = DeliveryMeets before a out
  Meets before (advance now') = ReadingMeets before now'
  Meets before (cancel now') = ⊥
  Meets before (release now') = ReadingMeets before now'

  -- of each of the calls cs, made in order after the calls before
  abbrev pub DeliveryConditions : List Call → List Call → Type 0
  DeliveryConditions before [] = Unit {0}
  DeliveryConditions before (c ∷ cs) = Meets before c × DeliveryConditions (c ∷ before) cs

-- hands over (document 01): the answer carries a message, the first octets of output, as many as the answer counts
abbrev pub HandsOver : Step → List ℕ → Type 0
HandsOver st message = (carried st.answer ≡ Some (length message)) × (take (length message) st.output ≡ message)

-- a call c, made after the calls cs, whose step is st: it hands over exactly when it is the first by which every segment of the train has come, and
-- it hands over that message
pub record HandsOverExactly (count : ℕ) (segment : ℕ → WholeSegment) (message : List ℕ) (cs : List Call) (c : Call) (st : Step) : Type 0 where
  pub when : AllHaveCome count segment (cs ++ (c ∷ [])) → (AllHaveCome count segment cs → ⊥) → HandsOver st message
  pub only_when : (k : ℕ) → carried st.answer ≡ Some k
      → AllHaveCome count segment (cs ++ (c ∷ [])) × (AllHaveCome count segment cs → ⊥) × HandsOver st message
