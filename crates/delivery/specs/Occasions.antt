-- Document 02, 2026-07: 'The occasions on which a receiver itself wipes its store are now four'. Document 01 has three, 'Failure, expiry and cancelling
-- wipe the store'; the fourth is release. Of every call on any record and any store: it closes the receiver exactly on one of the four; a call that
-- closes wipes the store and empties the record; any other call leaves the store as it was, or newly holds a segment and changes the first octets of
-- its slot. It is said by closing and not by whether the store changed, since a store that was 0 already is wiped too.
use Rattle.std.specs.Prelude.{ℕ, ◌≡◌, ◌⊎◌, List, Bool, true, false, cond, not, ◌&&◌, ◌||◌, Option, Some, None}
use Rattle.receiver.specs.Record.{taking, awaiting, receiving, complete, late, due, is_held, empty_slots, empty_lengths}
use Rattle.receiver.specs.Answers.{Step}
use Rattle.receiver.specs.declared.ReceiverState.{ReceiverState}
use Rattle.receiver.specs.declared.ReceiverState.TheVariants.{AwaitingBegin, Receiving, Complete, Failed, Expired, Canceled}
use Rattle.receiver.specs.declared.Receiver.{Receiver}
use Rattle.delivery.specs.Calls.{Call, receive, advance, cancel, release, StepFunction, FitsTypes, is_refused, has_failed, carried}
use Rattle.delivery.specs.Delivery.{reading}
use Rattle.delivery.specs.Leaves.{Wiped, Fills}

-- ---- the four occasions

pub data Occasion : Type 0 where
  failure : Occasion
  expiry : Occasion
  cancelling : Occasion
  releasing : Occasion

abbrev pub has_expired : ReceiverState → Bool
has_expired AwaitingBegin = false
has_expired Receiving = false
has_expired Complete = false
has_expired (Failed s) = false
has_expired Expired = true
has_expired Canceled = false

abbrev pub is_canceled : ReceiverState → Bool
is_canceled AwaitingBegin = false
is_canceled Receiving = false
is_canceled Complete = false
is_canceled (Failed s) = false
is_canceled Expired = false
is_canceled Canceled = true

-- of a call, by the record before it and the state that it leaves: a receive fails at a receiver that takes segments; past the deadline it finds an
-- incomplete reception expired, as an advance does at or past the deadline; a cancel cancels an open reception; a release releases a Complete one
abbrev pub occasion : Call → Receiver → ReceiverState → Option Occasion
occasion (receive a out) r s =
    cond (taking r.progress.state && has_failed s) (Some failure)
    (cond (receiving r.progress.state && late r.progress.deadline_monotonic_ms a.reading && has_expired s) (Some expiry) None)
occasion (advance n) r s = cond (receiving r.progress.state && due r.progress.deadline_monotonic_ms n && has_expired s) (Some expiry) None
occasion (cancel n) r s = cond ((awaiting r.progress.state || receiving r.progress.state) && is_canceled s) (Some cancelling) None
occasion (release n) r s = cond (complete r.progress.state && is_canceled s) (Some releasing) None

-- it is one of the four
abbrev pub is_one : Option Occasion → Bool
is_one None = false
is_one (Some o) = true

-- ---- what a call does on one of them, and else

-- a call that asks the receiver to close
abbrev pub asks : Call → Bool
asks (receive a out) = false
asks (advance n) = false
asks (cancel n) = true
asks (release n) = true

-- a call closes: the state takes segments before it, and does not after it
abbrev pub closes : Receiver → Step → Bool
closes r st = taking r.progress.state && not (taking st.receiver.progress.state)

-- the record of a receiver that is closed: nothing is held or counted, no deadline runs, the reading is the call's and the terms are as before; unless
-- the reception failed, so are services, end and stated length (where it failed, receive's definition says whose they are)
pub record Emptied (r : Receiver) (c : Call) (st : Step) : Type 0 where
  pub same_terms : st.receiver.terms ≡ r.terms
  pub holds_none : (s : ℕ) → is_held st.receiver s ≡ false
  pub no_lengths : st.receiver.lengths ≡ empty_lengths
  pub no_slots : st.receiver.slots ≡ empty_slots
  pub counts_none : st.receiver.progress.stored_octets ≡ 0
  pub no_deadline : st.receiver.progress.deadline_monotonic_ms ≡ None
  pub read_at : st.receiver.progress.last_monotonic_ms ≡ reading c
  pub same_services_lem : has_failed st.receiver.progress.state ≡ false → st.receiver.progress.services ≡ r.progress.services
  pub same_end : has_failed st.receiver.progress.state ≡ false → st.receiver.progress.end_sequence ≡ r.progress.end_sequence
  pub same_length : has_failed st.receiver.progress.state ≡ false → st.receiver.progress.message_length ≡ r.progress.message_length

-- of a call c that left st
pub record OnOccasion (r : Receiver) (store : List ℕ) (c : Call) (st : Step) : Type 0 where
  -- it closes exactly when its occasion is one of the four
  pub exactly : closes r st ≡ is_one (occasion c r st.receiver.progress.state)
  -- a cancel or a release that is not refused closes
  pub acts : asks c ≡ true → is_refused st.answer ≡ false → closes r st ≡ true
  -- what closes hands nothing over
  pub hands_none : closes r st ≡ true → carried st.answer ≡ None
  -- what does not close still holds what was held
  pub still_held : closes r st ≡ false → (s : ℕ) → is_held r s ≡ true → is_held st.receiver s ≡ true
  -- what closes wipes, and empties
  pub wipes : closes r st ≡ true → Wiped r store st
  pub empties : closes r st ≡ true → Emptied r c st
  -- what does not close leaves the store, or newly holds a segment; the one hypothesis is that the sequence number is an octet
  pub else : FitsTypes c → closes r st ≡ false → (st.store ≡ store) ⊎ Fills r store c st

-- of a receiver that is given by its step function: on any record and store, impossible ones too, and for any call
abbrev pub WipesOnOccasion : StepFunction → Type 0
WipesOnOccasion step = (r : Receiver) (store : List ℕ) (c : Call) → OnOccasion r store c (step r store c)
