-- A list of calls on one receiver and one store: what it leaves, what was accepted in it and what was handed over, and the first half of demand 3.
use Rattle.std.specs.Prelude.{ℕ, zero, suc, ◌+◌, ◌≤◌, ◌<◌, ◌≡◌, List, [], ◌∷◌, ◌++◌, Bool, true, false, cond, not, ◌&&◌, length, take, eqb, Option, Some, None}
use Rattle.tsar.specs.Layout.{WholeSegment, whole}
use Rattle.tsar.specs.Kinds.{is_end}
use Rattle.tsar.specs.Writing.{length_in}
use Rattle.receiver.specs.Record.{interval_of, is_held, kind_at, length_at, part, receiving_or_complete}
use Rattle.receiver.specs.Answers.{Answer, refused, answered, Step}
use Rattle.receiver.specs.Receive.{Arrival, sequence, receive_of}
use Rattle.receiver.specs.Advance.{Made, advance_of, cancel_of, release_of}
use Rattle.receiver.specs.declared.Terms.{Terms}
use Rattle.receiver.specs.declared.ReceiverState.{ReceiverState}
use Rattle.receiver.specs.declared.ReceiverState.TheVariants.{AwaitingBegin, Receiving, Complete, Failed, Expired, Canceled}
use Rattle.receiver.specs.declared.Receiver.{Receiver}

-- a call: a receive brings a segment and an output for the message; the others a clock reading
pub data Call : Type 0 where
  receive : Arrival → List ℕ → Call
  advance : ℕ → Call
  cancel : ℕ → Call
  release : ℕ → Call

-- what a call on some receiver answers and leaves, given its record and the store
abbrev pub StepFunction : Type 0
StepFunction = Receiver → List ℕ → Call → Step

-- the definitions that the contracts of receive, advance, cancel and release cite, with any interval
abbrev pub step_of : ℕ → StepFunction
step_of interval r store (receive a out) = receive_of interval r a store out
step_of interval r store (advance n) = advance_of r store n
step_of interval r store (cancel n) = cancel_of r store n
step_of interval r store (release n) = release_of r store n

-- that of our receiver, as these contracts have it: the interval is the record's own
abbrev pub ours : StepFunction
ours r store c = step_of (interval_of r) r store c

-- what some try_new gives for terms and a reading; try_new_of is ours
abbrev pub TryNewFunction : Type 0
TryNewFunction = Terms → ℕ → Made

-- arguments fit their types: a sequence number is an octet
abbrev pub FitsTypes : Call → Type 0
FitsTypes (receive a out) = sequence a < 256
FitsTypes (advance n) = Unit {0}
FitsTypes (cancel n) = Unit {0}
FitsTypes (release n) = Unit {0}

abbrev pub AllFitTypes : List Call → Type 0
AllFitTypes [] = Unit {0}
AllFitTypes (c ∷ cs) = FitsTypes c × AllFitTypes cs

-- the segment that a receive brings, with its data
abbrev pub brought : Arrival → WholeSegment
brought a = whole a.segment a.octets

-- the segment with sequence number s
abbrev pub find : ℕ → List WholeSegment → Option WholeSegment
find s [] = None
find s (x ∷ xs) = cond (eqb x.sequence_number s) (Some x) (find s xs)

abbrev pub absent : Option WholeSegment → Bool
absent None = true
absent (Some x) = false

abbrev pub is_refused : Answer → Bool
is_refused (refused n) = true
is_refused (answered r m) = false

abbrev pub has_failed : ReceiverState → Bool
has_failed AwaitingBegin = false
has_failed Receiving = false
has_failed Complete = false
has_failed (Failed s) = true
has_failed Expired = false
has_failed Canceled = false

-- accepted (document 01): a receive that is not refused and does not end in Failed, where no earlier receive of the list with its sequence
-- number was accepted
abbrev pub add_accepted : Call → Step → List WholeSegment → List WholeSegment
add_accepted (receive a out) st acc =
    cond (not (is_refused st.answer) && not (has_failed st.receiver.progress.state) && absent (find (sequence a) acc)) (brought a ∷ acc) acc
add_accepted (advance n) st acc = acc
add_accepted (cancel n) st acc = acc
add_accepted (release n) st acc = acc

-- a message that was handed over, how many octets the answer counted, and the segments accepted by then
pub record HandOver : Type 0 where
  pub count : ℕ
  pub message : List ℕ
  pub accepted : List WholeSegment

-- the number of octets of the message that an answer carries
abbrev pub carried : Answer → Option ℕ
carried (refused n) = None
carried (answered r m) = m

-- hands over (document 01): a call whose answer carries a message, the first octets of output, as many as the answer counts
abbrev pub add_handed : Option ℕ → List ℕ → List WholeSegment → List HandOver → List HandOver
add_handed None out acc hs = hs
add_handed (Some n) out acc hs = record { count = n; message = take n out; accepted = acc } ∷ hs

-- what calls leave: the receiver and the store; what was accepted and what was handed over, the latest first
pub record Left : Type 0 where
  pub receiver : Receiver
  pub store : List ℕ
  pub accepted : List WholeSegment
  pub handed : List HandOver

-- with one more call, whose step is st
abbrev pub taken : Left → Call → Step → Left
taken w c st =
    let acc = add_accepted c st w.accepted in
    record { receiver = st.receiver; store = st.store; accepted = acc; handed = add_handed (carried st.answer) st.output acc w.handed }

-- each call gets the record and the store as the last one left them
abbrev pub then : StepFunction → Left → Call → Left
then step w c = taken w c (step w.receiver w.store c)

abbrev pub after : StepFunction → Left → List Call → Left
after step w [] = w
after step w (c ∷ cs) = after step (then step w c) cs

-- before the first call: the record that try_new gave, and a store of any length and octets
abbrev pub start : Receiver → List ℕ → Left
start r store = record { receiver = r; store = store; accepted = []; handed = [] }

-- ---- the first half of the demand

-- holds (document 01): slot s is marked held, the slot's record gives the accepted receive's type, parameters and data length, and the slot's
-- first octets in the store are its data; the slot is empty if there is none
abbrev pub HoldsAt : Receiver → List ℕ → ℕ → Option WholeSegment → Type 0
HoldsAt r store s None = is_held r s ≡ false
HoldsAt r store s (Some x) =
    (is_held r s ≡ true) × (kind_at r s ≡ x.kind) × (length_at r s ≡ length x.segment_data) × (part store s (length x.segment_data) ≡ x.segment_data)

-- the octets of the segments
unfoldable pub total : List WholeSegment → ℕ
total [] = 0
total (x ∷ xs) = total xs + length x.segment_data

abbrev pub data_of : Option WholeSegment → List ℕ
data_of None = []
data_of (Some x) = x.segment_data

-- the data of the segments 0 to n - 1 in order
unfoldable pub data_to : List WholeSegment → ℕ → List ℕ
data_to acc zero = []
data_to acc (suc n) = data_to acc n ++ data_of (find n acc)

-- a message handed over: the data of exactly the segments accepted by then, 0 to the end in order, as long as every length they state (a length is
-- stated by parameter 1); the end is the sequence of an accepted End
pub record OfAccepted (h : HandOver) : Type 0 where
  pub end : ℕ
  pub last : WholeSegment
  pub end_accepted : find end h.accepted ≡ Some last
  pub is_end_lem : is_end last.kind ≡ true
  pub all_accepted : (s : ℕ) → s ≤ end → absent (find s h.accepted) ≡ false
  pub none_past : (s : ℕ) → end < s → find s h.accepted ≡ None
  pub message_is : h.message ≡ data_to h.accepted (suc end)
  pub long_as_counted : length h.message ≡ h.count
  pub long_as_all : length h.message ≡ total h.accepted
  pub long_as_stated : (s : ℕ) (x : WholeSegment) → find s h.accepted ≡ Some x → (m : ℕ) → length_in x.kind ≡ Some m → length h.message ≡ m

abbrev pub AllOfAccepted : List HandOver → Type 0
AllOfAccepted [] = Unit {0}
AllOfAccepted (h ∷ hs) = OfAccepted h × AllOfAccepted hs

-- after the list: if Receiving or Complete, it holds exactly the segments accepted in the list, their octets total its count and don't pass the maximum;
-- in other states it holds none. At most one call hands over a message
pub record AfterTheList (maximum : ℕ) (w : Left) : Type 0 where
  pub holds : receiving_or_complete w.receiver.progress.state ≡ true → (s : ℕ) → s < 256 → HoldsAt w.receiver w.store s (find s w.accepted)
  pub counts : receiving_or_complete w.receiver.progress.state ≡ true → total w.accepted ≡ w.receiver.progress.stored_octets
  pub within : receiving_or_complete w.receiver.progress.state ≡ true → w.receiver.progress.stored_octets ≤ maximum
  pub holds_none : receiving_or_complete w.receiver.progress.state ≡ false → (s : ℕ) → s < 256 → is_held w.receiver s ≡ false
  pub hands_over_once : length w.handed ≤ 1
  pub messages : AllOfAccepted w.handed
