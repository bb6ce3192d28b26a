-- What becomes of a section's receiver before the next section opens over its store (document 02, 2026-07; docs/CAPTURE.md, 'Sections'): one
-- that is Complete is released, one that is AwaitingBegin or Receiving is canceled, each at the record's own last reading. Nothing is done
-- where it takes no segments any more, or where none was made.
use Rattle.std.specs.Prelude.{ℕ, ◌≡◌, Bool, true, false, cond, ◌&&◌, List, [], eqb, get_or, replicate, Some, None}
use Rattle.octets.specs.Octets.{same_octets}
use Rattle.words.specs.Marks.{marked}
use Rattle.receiver.specs.declared.ReceiverState.{ReceiverState}
use Rattle.receiver.specs.declared.ReceiverState.TheVariants.{AwaitingBegin, Receiving, Complete, Failed, Expired, Canceled}
use Rattle.receiver.specs.declared.Receiver.{Receiver}
use Rattle.receiver.specs.Record.{taking, store_octets, wiped}
use Rattle.receiver_image.specs.Images.{record_of}
use Rattle.receiver_c.specs.Calls.{Call, call, cancel_call, release_call}
use Rattle.report.specs.declared.outcome.Event.TheVariants.{BadLine}
use Rattle.report.specs.declared.outcome.Told.{Told}
use Rattle.report.specs.Outcome.{noted, ended}

-- nothing is done
abbrev pub unchanged : (memory store : List ℕ) → Call
unchanged memory store = call 0 memory store [] []

-- what is done with the receiver at the front of the memory, by its state and its last reading
abbrev pub closing_by : ReceiverState → (memory store : List ℕ) (last : ℕ) → Call
closing_by AwaitingBegin memory store last = cancel_call memory store last
closing_by Receiving memory store last = cancel_call memory store last
closing_by Complete memory store last = release_call memory store last
closing_by (Failed s) memory store last = unchanged memory store
closing_by Expired memory store last = unchanged memory store
closing_by Canceled memory store last = unchanged memory store

abbrev pub closing_call_of : Receiver → (memory store : List ℕ) → Call
closing_call_of r memory store = closing_by r.progress.state memory store r.progress.last_monotonic_ms

-- the first octet of the memory is 0 where no receiver was made
unfoldable pub close_call : (memory store : List ℕ) → Call
close_call memory store = cond (eqb (get_or memory 0 0) 0) (unchanged memory store) (closing_call_of (record_of memory) memory store)

-- ---- what a section leaves to the next

-- a receiver that takes no segments, holds none, counts no octets and waits for nothing
pub record Closed (r : Receiver) : Type 0 where
  pub takes_none : taking r.progress.state ≡ false
  pub holds_none : (s : ℕ) → marked r.held s ≡ false
  pub counts_none : r.progress.stored_octets ≡ 0
  pub waits_not : r.progress.deadline_monotonic_ms ≡ None

-- of a receiver r and a store: the call is not refused, the octets after it spell a closed receiver, and the store is wiped where r took
-- segments, and else as it was
pub record LeavesClosed (r : Receiver) (store : List ℕ) (c : Call) : Type 0 where
  pub done : c.code ≡ 0
  pub left : Receiver
  pub spelled : c.receiver ≡ Some left
  pub closed : Closed left
  pub wipes : taking r.progress.state ≡ true → c.store ≡ wiped store
  pub keeps : taking r.progress.state ≡ false → c.store ≡ store

-- ---- what is told of it

-- with the section ended that there is: one that a receiver line opened, or the lines before the first receiver line where one of them was
-- refused
abbrev pub ended_before : Told → (opened : Bool) → Told
ended_before t opened = cond opened (ended t) (cond t.section.bad_line (ended t) t)

-- a store that is 0 throughout
unfoldable pub zeros : List ℕ
zeros = replicate store_octets 0

-- whether a call is not refused and leaves such a store
abbrev pub leaves_zeros : Call → Bool
leaves_zeros c = eqb c.code 0 && same_octets c.store zeros

-- a receiver that was made and whose closing does not leave such a store counts as a section that is not rebuilt
abbrev pub left_to : Told → (memory store : List ℕ) → Told
left_to t memory store = cond (eqb (get_or memory 0 0) 0) t (cond (leaves_zeros (close_call memory store)) t (ended (noted t BadLine)))
