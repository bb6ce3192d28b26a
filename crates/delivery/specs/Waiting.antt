-- How long a receiver waits. Document 01: a held segment and a repeat set the deadline to the reading and the interval; document 02, 2026-11: to each
-- receiver's own, that of its profile. Of every call on any record and store: which calls set a deadline, and to what; that no other call moves it; and
-- what comes before, at and past it, and past the last reading from which one can be set. So a receiver waits neither less nor longer. proofs/Waits has
-- the laws.
use Rattle.std.specs.Prelude.{ℕ, ◌+◌, ◌-◌, ◌^◌, ◌≤◌, ◌<◌, ◌≡◌, ◌⊎◌, List, [], Bool, true, false, not, ◌&&◌, length, Option, Some, None}
use Rattle.tsar.specs.Kinds.{prohibited}
use Rattle.receiver.specs.declared.ReceiverState.TheVariants.{Expired}
use Rattle.receiver.specs.declared.Receiver.{Receiver}
use Rattle.receiver.specs.Record.{receiving, due, store_octets, impossible, read, with, timed, closed}
use Rattle.receiver.specs.Answers.{refused, answered, Step}
use Rattle.receiver.specs.Receive.{Arrival}
use Rattle.delivery.specs.Calls.{Call, receive, advance, cancel, release, StepFunction, is_refused}
use Rattle.delivery.specs.Delivery.{reading}

abbrev pub deadline_of : Receiver → Option ℕ
deadline_of r = r.progress.deadline_monotonic_ms

-- a receive that is not refused, of a segment that is newly held or comes again, and leaves the reception incomplete
abbrev pub sets_deadline : Call → Step → Bool
sets_deadline (receive a out) st = not (is_refused st.answer) && receiving st.receiver.progress.state
sets_deadline (advance n) st = false
sets_deadline (cancel n) st = false
sets_deadline (release n) st = false

-- an advance at or past the deadline
abbrev pub fires_at : Call → Receiver → Bool
fires_at (receive a out) r = false
fires_at (advance n) r = due (deadline_of r) n
fires_at (cancel n) r = false
fires_at (release n) r = false

-- such a receive sets the deadline; any other call leaves it as it was or off, and off only where an advance fires or the reception is over
pub record Sets (interval : ℕ) (r : Receiver) (c : Call) (st : Step) : Type 0 where
  pub sets : sets_deadline c st ≡ true → deadline_of st.receiver ≡ Some (reading c + interval)
  pub moves_none : sets_deadline c st ≡ false → (deadline_of st.receiver ≡ deadline_of r) ⊎ (deadline_of st.receiver ≡ None)
  pub goes_on : sets_deadline c st ≡ false → fires_at c r ≡ false → receiving st.receiver.progress.state ≡ true → deadline_of st.receiver ≡ deadline_of r

-- an advance: before the deadline it takes the reading and does nothing else; from the deadline on, under Prohibited the reception has expired, and else
-- it goes on with no deadline
pub record Fires (r : Receiver) (store : List ℕ) (now' d : ℕ) (st : Step) : Type 0 where
  pub waits : now' < d → st ≡ record { answer = answered None None; receiver = read r now'; store = store; output = [] }
  pub expires : d ≤ now' → prohibited r.progress.services.acknowledgment_window ≡ true → st.receiver ≡ closed r Expired now'
  pub asks : d ≤ now' → prohibited r.progress.services.acknowledgment_window ≡ false → st.receiver ≡ with r (timed r.progress None now')

-- of a receiver that is given by its step function, with the interval of each record
pub record Waits (interval : Receiver → ℕ) (step : StepFunction) : Type 0 where
  pub deadline_set : (r : Receiver) (store : List ℕ) (c : Call) → Sets (interval r) r c (step r store c)
  -- one that 60, 62 and 33 let pass
  pub advance_fires : (r : Receiver) (store : List ℕ) (now' d : ℕ) → deadline_of r ≡ Some d → store_octets ≤ length store → impossible r ≡ false → r.progress.last_monotonic_ms ≤ now'
      → Fires r store now' d (step r store (advance now'))
  -- a segment past the deadline is refused
  pub late_refused : (r : Receiver) (store : List ℕ) (a : Arrival) (out : List ℕ) (d : ℕ) → deadline_of r ≡ Some d → d < a.reading
      → is_refused (step r store (receive a out)).answer ≡ true
  -- and while Receiving one at the deadline or before it is not refused as late: neither with 37 nor with 38
  pub in_time : (r : Receiver) (store : List ℕ) (a : Arrival) (out : List ℕ) (d : ℕ) → deadline_of r ≡ Some d → a.reading ≤ d → receiving r.progress.state ≡ true
      → ((step r store (receive a out)).answer ≡ refused (37, 0) → ⊥) × ((step r store (receive a out)).answer ≡ refused (38, 0) → ⊥)
  -- 34: a reading from which no deadline could be set is refused, and no other is refused with it
  pub too_far : (r : Receiver) (store : List ℕ) (a : Arrival) (out : List ℕ) → 2 ^ 64 - 1 - interval r < a.reading → is_refused (step r store (receive a out)).answer ≡ true
  pub near : (r : Receiver) (store : List ℕ) (a : Arrival) (out : List ℕ) → a.reading ≤ 2 ^ 64 - 1 - interval r → (step r store (receive a out)).answer ≡ refused (34, 0) → ⊥
