-- What a refused call leaves of the sender. Document 01: 'A refusal changes no state and no octet, except four late cases where advance has acted:
-- .., the late 42 and 44 above, and receive_response's 38 after a late advance'. Over any record: none need be reached. The first of the four is
-- the receiver's.
use Rattle.std.specs.Prelude.{ℕ, ◌≡◌, true, false, ◌⊎◌}
use Rattle.tsar.specs.Rows.{Refusal}
use Rattle.tsar.specs.Kinds.{prohibited}
use Rattle.sender.specs.declared.SenderFailure.TheVariants.{SegmentInterval}
use Rattle.sender.specs.declared.SenderState.TheVariants.{Failed}
use Rattle.sender.specs.declared.Sender.{Sender}
use Rattle.sender.specs.Record.{is_closed, late, due, outline}
use Rattle.sender.specs.Calls.{Step, refused, advance_of, awaits_word}
use Rattle.sender.specs.CallList.{Call, advance, cancel, submitted, accepted, lower_failed, receive_response}

-- the late 42: the lower layer's word on the present submission, at a due deadline. Advance has acted, and the word is awaited no more
pub record LateStale (s : Sender) (number ticket reading : ℕ) (n : Refusal) (st : Step) : Type 0 where
  pub is_42 : n ≡ (42, 0)
  pub was_awaited : awaits_word s.terms.number s.progress number ticket ≡ true
  pub was_due : due s.progress.deadline_monotonic_ms reading ≡ true
  pub awaited_no_more : awaits_word s.terms.number st.sender.progress number ticket ≡ false
  pub advanced_sender : st.sender ≡ (advance_of s reading).sender

-- the late 44: under Prohibited, queued at or past the deadline. Advance has acted, at the reading that was observed
pub record LateQueued (s : Sender) (queued observed : ℕ) (n : Refusal) (st : Step) : Type 0 where
  pub is_44 : n ≡ (44, 0)
  pub under_prohibited : prohibited (outline s).acknowledgment_window ≡ true
  pub was_due : due s.progress.deadline_monotonic_ms queued ≡ true
  pub failed : st.sender.progress.state ≡ Failed SegmentInterval
  pub advanced_sender : st.sender ≡ (advance_of s observed).sender

-- receive_response's 38 after a late advance, which has closed the sender
pub record LateClosed (s : Sender) (reading : ℕ) (n : Refusal) (st : Step) : Type 0 where
  pub is_38 : n ≡ (38, 0)
  pub was_late : late s.progress.deadline_monotonic_ms reading ≡ true
  pub is_closed_lem : is_closed st.sender.progress.state ≡ true
  pub advanced_sender : st.sender ≡ (advance_of s reading).sender

-- the cases that are excepted, by call
abbrev pub Excepted : Sender → Call → Refusal → Step → Type 0
Excepted s (advance k) n st = ⊥
Excepted s (cancel k) n st = ⊥
Excepted s (submitted number ticket queued observed) n st = LateQueued s queued observed n st
Excepted s (accepted number ticket k) n st = LateStale s number ticket k n st
Excepted s (lower_failed number ticket failure k) n st = LateStale s number ticket k n st
Excepted s (receive_response a) n st = LateClosed s a.reading n st

-- a refusal changes no state, with three exceptions. One way only: where a call is refused, the record is as before, or one of the named cases
-- holds; which of them it is, the definitions of the calls say
abbrev pub RefusedLeaves : (Sender → Call → Step) → Type 0
RefusedLeaves step = (s : Sender) (c : Call) (n : Refusal) → (step s c).answer ≡ refused n → ((step s c).sender ≡ s) ⊎ Excepted s c n (step s c)
