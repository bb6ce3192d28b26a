-- What a receive answers and leaves, from what its checks say: refused, late, or settled. Assumes nothing.
use Rattle.std.specs.Prelude.{ℕ, ◌-◌, ◌≤◌, ◌≡◌, refl, List, Bool, true, false, length, Option, Some, None}
use Rattle.std.proofs.Common.{◌∙◌, sym, ap, arith}
use borrow.Author.Tests.{ltb-false}
use Rattle.tsar.specs.Rows.{Refusal, first_of, refusal, refusal_none}
use Rattle.tsar.specs.Kinds.{prohibited}
use Rattle.link.specs.Laws.{receiver_interval_below}
use Rattle.receiver.specs.declared.Receiver.{Receiver}
use Rattle.receiver.specs.declared.checks.Brought.{Brought}
use Rattle.receiver.specs.Record.{interval_of, late}
use Rattle.receiver.specs.Answers.{Step, refuses}
use Rattle.receiver.specs.Receive.{Arrival, keeps, slot_rules, late_or, receive_rows, receive_after, receive_of}
use Rattle.receiver.specs.Steps.{arrival_rows, arrival_of, arrived, too_late, Fits, settled_of}
use Rattle.receiver.proofs.Possible.{count_small}
use Rattle.receiver.proofs.Settling.{settle_arrived, with_output}

-- ---- receive

-- late, with the output that it does not touch
late_as : (p : Bool) (r : Receiver) (a : Arrival) (store out : List ℕ) → with_output out (too_late p r a.reading store) ≡ late_or (interval_of r) true p r a store out
late_as true r a store out = refl
late_as false r a store out = refl

module _ (r : Receiver) (b : Brought) (octets store out : List ℕ) (all : b.octets ≡ length octets) where
  abbrev a : Arrival
  a = arrival_of b octets

  abbrev given : List ℕ → List ℕ → Step
  given store out = receive_of (interval_of r) r a store out

  abbrev arriving : Option Refusal → Type 0
  arriving o = o ≡ refusal (arrival_rows r b store out)

  rows_are : (o : Option Refusal) → arriving o → o ≡ refusal (receive_rows (interval_of r) r a store out)
  rows_are o e =
      e
      ∙ (λ i. refusal (arrival_rows r (record { peer = b.peer; protocol = b.protocol; segment = b.segment; octets = all i; unparsed = b.unparsed; reading = b.reading }) store out))

  pub receive_refused : (n : Refusal) → arriving (Some n) → refuses n r store out ≡ given store out
  unfolding receive_of
  receive_refused n e = ap (λ (o : Option Refusal). receive_after (interval_of r) o r a store out) (rows_are (Some n) e)

  passed : arriving None → late_or (interval_of r) (late r.progress.deadline_monotonic_ms b.reading) (prohibited r.progress.services.acknowledgment_window) r a store out ≡ given store out
  unfolding receive_of
  passed e = ap (λ (o : Option Refusal). receive_after (interval_of r) o r a store out) (rows_are None e)

  pub receive_late : (left : Step) → arriving None → late r.progress.deadline_monotonic_ms b.reading ≡ true
      → left ≡ too_late (prohibited r.progress.services.acknowledgment_window) r b.reading store → with_output out left ≡ given store out
  receive_late left e l h =
      let p = prohibited r.progress.services.acknowledgment_window in
      ap (with_output out) h ∙ late_as p r a store out ∙ ap (λ (t : Bool). late_or (interval_of r) t p r a store out) (sym l) ∙ passed e

  pub receive_settled : arriving None → late r.progress.deadline_monotonic_ms b.reading ≡ false → settled_of r (arrived b.segment octets b.reading) store out ≡ given store out
  unfolding settled_of
  receive_settled e l =
      settle_arrived (interval_of r) (first_of (slot_rules r a store) keeps) r a store out
      ∙ ap (λ (t : Bool). late_or (interval_of r) t (prohibited r.progress.services.acknowledgment_window) r a store out) (sym l)
      ∙ passed e

  -- a segment that passes is short and early enough
  pub fits : arriving None → Fits r (length octets) b.reading
  fits e =
      let p = refusal_none (receive_rows (interval_of r) r a store out) (sym (rows_are None e)) in
      let short : length octets ≤ 255 = ltb-false _ _ (p 9) in
      let early : b.reading ≤ 18446744073709551615 - interval_of r = ltb-false _ _ (p 16) in
      record { few = omega (arith, count_small r (p 2)); early = omega (arith, receiver_interval_below r.terms.profile) }
