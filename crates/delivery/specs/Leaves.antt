-- What a call leaves of the record and of what it is lent. Document 01: 'A refusal changes no state and no octet, except four late cases where
-- advance has acted: receive's 38 under Prohibited, ..; and except receive's 38 for an unheld sequence when Complete, which takes the reading
-- and changes nothing else. 37 changes nothing. .. Failure, expiry and cancelling wipe the store: its first 65,280 octets become 0. A newly held
-- segment of n octets changes the first n of its slot (255 octets a slot, in sequence). Output changes only in the octets written.' Document 02,
-- 2026-07: a release wipes the store too. Over any record, store and output: none need be reached. The other late cases are the sender's.
use Rattle.std.specs.Prelude.{ℕ, ◌+◌, ◌*◌, ◌≤◌, ◌<◌, ◌≡◌, List, [], ◌⊎◌, true, false, length, get_or, Some, None}
use Rattle.tsar.specs.Rows.{Refusal}
use Rattle.tsar.specs.Kinds.{prohibited}
use Rattle.receiver.specs.Record.{complete, late, taking, slot_octets, store_octets, is_held, part, read}
use Rattle.receiver.specs.Answers.{Answer, refused, answered, Step}
use Rattle.receiver.specs.Receive.{Arrival, sequence}
use Rattle.receiver.specs.Advance.{advance_of}
use Rattle.receiver.specs.declared.ReceiverState.TheVariants.{Expired}
use Rattle.receiver.specs.declared.Receiver.{Receiver}
use Rattle.delivery.specs.Calls.{Call, receive, advance, cancel, release, StepFunction, FitsTypes}

-- the output that a call is lent: advance, cancel and release are lent none
abbrev pub lent : Call → List ℕ
lent (receive a out) = out
lent (advance n) = []
lent (cancel n) = []
lent (release n) = []

-- ---- refusals

-- no state and no octet is changed
pub record Unchanged (r : Receiver) (store : List ℕ) (c : Call) (st : Step) : Type 0 where
  pub same_record : st.receiver ≡ r
  pub same_store : st.store ≡ store
  pub same_output : st.output ≡ lent c

-- receive's 38 under Prohibited, late: advance has acted, at the same reading
pub record LateClosed (r : Receiver) (store : List ℕ) (a : Arrival) (out : List ℕ) (n : Refusal) (st : Step) : Type 0 where
  pub is_38 : n ≡ (38, 0)
  pub is_late : late r.progress.deadline_monotonic_ms a.reading ≡ true
  pub under_prohibited : prohibited r.progress.services.acknowledgment_window ≡ true
  pub expired : st.receiver.progress.state ≡ Expired
  pub advanced_record : st.receiver ≡ (advance_of r store a.reading).receiver
  pub advanced_store : st.store ≡ (advance_of r store a.reading).store
  pub same_output : st.output ≡ out

-- receive's 38 for an unheld sequence when Complete: the reading is taken, and nothing else
pub record UnheldClosed (r : Receiver) (store : List ℕ) (a : Arrival) (out : List ℕ) (n : Refusal) (st : Step) : Type 0 where
  pub is_38 : n ≡ (38, 0)
  pub is_complete : complete r.progress.state ≡ true
  pub unheld : is_held r (sequence a) ≡ false
  pub reading_taken : st.receiver ≡ read r a.reading
  pub same_store : st.store ≡ store
  pub same_output : st.output ≡ out

-- the cases that are excepted: receive alone has any
abbrev pub Excepted : Receiver → List ℕ → Call → Refusal → Step → Type 0
Excepted r store (receive a out) n st = LateClosed r store a out n st ⊎ UnheldClosed r store a out n st
Excepted r store (advance m) n st = ⊥
Excepted r store (cancel m) n st = ⊥
Excepted r store (release m) n st = ⊥

-- a refusal changes no state and no octet, with two exceptions. One way only: where a call is refused, record and octets are as before, or one
-- of the named cases holds; which of them it is, the definitions of the calls say
abbrev pub RefusedLeaves : StepFunction → Type 0
RefusedLeaves step =
    (r : Receiver) (store : List ℕ) (c : Call) (n : Refusal) → (step r store c).answer ≡ refused n
    → Unchanged r store c (step r store c) ⊎ Excepted r store c n (step r store c)

-- 37 changes nothing
abbrev pub TimerDueLeaves : StepFunction → Type 0
TimerDueLeaves step = (r : Receiver) (store : List ℕ) (c : Call) → (step r store c).answer ≡ refused (37, 0) → Unchanged r store c (step r store c)

-- ---- the store

-- the first n octets of the segment's slot are its data, n at most a slot, and every other octet is as it was
pub record Filled (store : List ℕ) (a : Arrival) (after : List ℕ) : Type 0 where
  pub within : length a.octets ≤ slot_octets
  pub filled : part after (sequence a) (length a.octets) ≡ a.octets
  pub same_length : length after ≡ length store
  pub below : (i : ℕ) → i < slot_octets * sequence a → get_or after i 0 ≡ get_or store i 0
  pub above : (i : ℕ) → slot_octets * sequence a + length a.octets ≤ i → get_or after i 0 ≡ get_or store i 0

-- the segment is held now, and was not
pub record NewlyHeld (r : Receiver) (a : Arrival) (st : Step) : Type 0 where
  pub was_free : is_held r (sequence a) ≡ false
  pub is_held_lem : is_held st.receiver (sequence a) ≡ true

-- a newly held segment changes the first octets of its slot
abbrev pub HeldFills : StepFunction → Type 0
HeldFills step =
    (r : Receiver) (store : List ℕ) (a : Arrival) (out : List ℕ) → sequence a < 256 → NewlyHeld r a (step r store (receive a out))
    → Filled store a (step r store (receive a out)).store

-- wiped: the receiver took segments and takes none, the first 65,280 octets are 0, and those past them and the length are as before; on which
-- occasions, Occasions says
pub record Wiped (r : Receiver) (store : List ℕ) (st : Step) : Type 0 where
  pub was_open : taking r.progress.state ≡ true
  pub is_closed_lem : taking st.receiver.progress.state ≡ false
  pub same_length : length st.store ≡ length store
  pub zero : (i : ℕ) → i < store_octets → get_or st.store i 0 ≡ 0
  pub past : (i : ℕ) → store_octets ≤ i → get_or st.store i 0 ≡ get_or store i 0

-- a call that closes the receiver wipes the store
abbrev pub ClosedWipes : StepFunction → Type 0
ClosedWipes step =
    (r : Receiver) (store : List ℕ) (c : Call) → taking r.progress.state ≡ true → taking (step r store c).receiver.progress.state ≡ false
    → Wiped r store (step r store c)

abbrev pub Fills : Receiver → List ℕ → Call → Step → Type 0
Fills r store (receive a out) st = NewlyHeld r a st × Filled store a st.store
Fills r store (advance m) st = ⊥
Fills r store (cancel m) st = ⊥
Fills r store (release m) st = ⊥

-- the store is changed in no other way
abbrev pub StoreLeft : StepFunction → Type 0
StoreLeft step =
    (r : Receiver) (store : List ℕ) (c : Call) → FitsTypes c
    → ((step r store c).store ≡ store) ⊎ (Wiped r store (step r store c) ⊎ Fills r store c (step r store c))

-- ---- the output

-- how many octets of a message are handed over
abbrev pub handed : Answer → ℕ
handed (refused n) = 0
handed (answered response None) = 0
handed (answered response (Some n)) = n

-- output changes only in the octets written
abbrev pub OutputLeft : StepFunction → Type 0
OutputLeft step =
    (r : Receiver) (store : List ℕ) (c : Call)
    → (length (step r store c).output ≡ length (lent c)) × ((i : ℕ) → handed (step r store c).answer ≤ i → get_or (step r store c).output i 0 ≡ get_or (lent c) i 0)

-- what is handed over has at most 65,280 octets
abbrev pub HandedMost : StepFunction → Type 0
HandedMost step = (r : Receiver) (store : List ℕ) (c : Call) → FitsTypes c → handed (step r store c).answer ≤ store_octets

-- all of it
pub record Leaves (step : StepFunction) : Type 0 where
  pub refused_leaves : RefusedLeaves step
  pub timer_due_leaves : TimerDueLeaves step
  pub held_fills : HeldFills step
  pub closed_wipes : ClosedWipes step
  pub store_left : StoreLeft step
  pub output_left : OutputLeft step
  pub handed_most : HandedMost step
