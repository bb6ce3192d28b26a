-- The definitions that the laws of proofs/Progress speak of.
use Rattle.std.specs.Prelude.{ℕ, ◌+◌, ◌≤◌, ◌<◌, ◌≡◌, List, [], ◌∷◌, true, false, length, Option, Some, None}
use Rattle.tsar.specs.Layout.{WholeSegment}
use Rattle.tsar.specs.Kinds.{states_other}
use Rattle.receiver.specs.declared.ReceiverState.{ReceiverState}
use Rattle.receiver.specs.declared.ReceiverState.TheVariants.{AwaitingBegin, Receiving, Complete}
use Rattle.receiver.specs.declared.Terms.{Terms}
use Rattle.receiver.specs.Record.{receiving, store_octets, sum_to}
use Rattle.delivery.specs.Calls.{Call, Left, HandOver, find, absent}
use Rattle.delivery.specs.Delivery.{HasCome, last_reading, last_delivery, ReadingMeets}
use Rattle.delivery.specs.Train.{Train, last_of, OfTrain, octets_at}

-- a reading that meets the conditions
abbrev pub Timely : Train → List Call → ℕ → Type 0
Timely T calls now' = ReadingMeets T.interval T.terms T.made T.count T.segment calls now'

-- before the Begin; with a segment that is still to come; or with all of them, the message handed over
pub data Phase (T : Train) (state : ReceiverState) (acc : List WholeSegment) (handed : List HandOver) (calls : List Call) : Type 0 where
  waiting : state ≡ AwaitingBegin → acc ≡ [] → handed ≡ [] → last_delivery calls ≡ None → Phase T state acc handed calls
  going : state ≡ Receiving → handed ≡ [] → (i : ℕ) → i < T.count → find i acc ≡ None → Phase T state acc handed calls
  done : state ≡ Complete → ((i : ℕ) → i < T.count → absent (find i acc) ≡ false) → (n : ℕ) (m : List ℕ) → handed ≡ record { count = n; message = m; accepted = acc } ∷ []
      → Phase T state acc handed calls

-- the deadline that the last delivery set
pub record SetBy (interval : ℕ) (d : Option ℕ) (calls : List Call) : Type 0 where
  pub at : ℕ
  pub delivered : last_delivery calls ≡ Some at
  pub set : d ≡ Some (at + interval)

-- what holds after the calls, the latest first, of a receiver's fields, the store, what was accepted and what was handed over
pub record Holding (T : Train) (terms : Terms) (state : ReceiverState) (end_sequence : Option ℕ) (stated : Option ℕ) (stored : ℕ) (d : Option ℕ) (last : ℕ) (store : List ℕ) (acc : List WholeSegment) (handed : List HandOver) (calls : List Call) : Type 0 where
  pub terms_are : terms ≡ T.terms
  pub read_by : last ≤ last_reading T.made calls
  pub set_by : receiving state ≡ true → SetBy T.interval d calls
  pub off : receiving state ≡ false → d ≡ None
  pub room : store_octets ≤ length store
  -- what was accepted is of the train, and is what has come
  pub has : OfTrain T.count T.segment acc
  pub seen : (s : ℕ) → s < T.count → HasCome (T.segment s) calls → absent (find s acc) ≡ false
  pub shown : (s : ℕ) (x : WholeSegment) → find s acc ≡ Some x → HasCome (T.segment s) calls
  -- the count, the stated length and the end are those of what was accepted
  pub counted : stored ≡ sum_to T.count (octets_at acc)
  pub agrees : states_other stated (length T.message) ≡ false
  pub no_end : find (last_of T) acc ≡ None → end_sequence ≡ None
  pub at_end : absent (find (last_of T) acc) ≡ false → end_sequence ≡ Some (last_of T)
  pub phase : Phase T state acc handed calls

-- the same of what calls left
abbrev pub HoldingOf : Train → Left → List Call → Type 0
HoldingOf T w calls =
    let r = w.receiver in
    let p = r.progress in
    Holding T r.terms p.state p.end_sequence p.message_length p.stored_octets p.deadline_monotonic_ms p.last_monotonic_ms w.store w.accepted w.handed calls

-- a call more, at a reading, by which nothing more has come: an advance, a release
pub record Quiet (T : Train) (calls : List Call) (now' : ℕ) (calls' : List Call) : Type 0 where
  pub taken_at : last_reading T.made calls' ≡ now'
  pub delivered : last_delivery calls' ≡ last_delivery calls
  pub before : (x : WholeSegment) → HasCome x calls' → HasCome x calls
  pub after : (x : WholeSegment) → HasCome x calls → HasCome x calls'
