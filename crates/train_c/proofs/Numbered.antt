-- A refusal of a segment has a number of document 01, 1 or more: the code of one is never 0. Assumes nothing.
use mathlib.Core.Path.{◌≡◌, subst}
use mathlib.Core.Bool.{Bool, true, false, cond}
use mathlib.Core.List.{List, [], ◌∷◌}
use Rattle.std.specs.Prelude.{Option, Result, Some, None, Ok, Err}
use Rattle.tsar.specs.declared.decode.Parsed.{Parsed}
use Prim.Native.Nat.{ℕ, ◌+◌, ◌/◌, ◌≤◌}
use native.Mathlib.Omega.{arith}
use lib.ListN.{length, get_or, drop}
use lib.Dec.{eqb, leb, ltb}
use Rattle.tsar.specs.Rows.{Refusal, first_of, refusal}
use Rattle.tsar.specs.Numbers.{number}
use Rattle.tsar.specs.Reading.{Decoded, decoded, refused as unread, params_of, with_params, begin_test, segment_as, segment_of}
use Rattle.tsar.specs.declared.Error.{Error}
use Rattle.tsar.specs.declared.Error.TheVariants as error
use Rattle.tsar.specs.declared.SegmentType.{SegmentType}
use Rattle.tsar.specs.declared.SegmentType.TheVariants as type
use Rattle.link.specs.declared.MobileIdentity.{MobileIdentity}
use Rattle.link.specs.declared.HigherLayerProtocol.{HigherLayerProtocol}
use Rattle.receiver.specs.declared.Receiver.{Receiver}
use Rattle.receiver.specs.Record.{interval_of, late}
use Rattle.receiver.specs.Answers.{Answer, refused, answered}
use Rattle.receiver.specs.Receive.{Arrival, Outcome, fails, repeats, closes, keeps, finishes, slot_rules, settle, late_or, receive_rows, receive_after, receive_of}
use Rattle.codec_c.specs.Codes.{code_of}
use Rattle.tsar.specs.Kinds.{prohibited}
use Rattle.train_c.specs.Walk.{arrival_of, decoded_step, train_step}

-- ---- of what reading gives

abbrev Read : Decoded → Type 0
Read (decoded s n) = Unit {0}
Read (unread n) = 1 ≤ n.0

number_1 : (e : Error) → 1 ≤ (number e).0
number_1 error.Version = omega arith
number_1 error.Truncated = omega arith
number_1 error.Protocol = omega arith
number_1 error.MessageType = omega arith
number_1 error.UnsupportedResponse = omega arith
number_1 (error.Field f) = omega arith
number_1 error.Reserved = omega arith
number_1 error.DuplicateParameter = omega arith

read_params : (t : SegmentType) (l : List ℕ) (x : Result Parsed Error) → Read (with_params t l x)
read_params t l (Ok x) = tt
read_params t l (Err e) = number_1 e

-- rows all of which give such a thing, and what is left
abbrev AllRead : List (Bool × Decoded) → Decoded → Type 0
AllRead [] d = Read d
AllRead (c ∷ cs) d = Read c.1 × AllRead cs d

first_read : (cs : List (Bool × Decoded)) (d : Decoded) → AllRead cs d → Read (first_of cs d)
first_read [] d p = p
first_read (c ∷ cs) d p = go c.0 (first_read cs d p.1)
  where
    go : (b : Bool) → Read (first_of cs d) → Read (cond b c.1 (first_of cs d))
    go true h = p.0
    go false h = h

read_as : (t : SegmentType) (l : List ℕ) → Read (segment_as t l)
unfolding segment_as
read_as t l =
    first_read
    ((ltb (length l) 3, unread (2, 0)) ∷ (begin_test t (get_or l 1 0), unread (6, 3)) ∷ (ltb (length l) (3 + get_or l 2 0), unread (2, 0)) ∷ [])
    (with_params t l (params_of t (3 + get_or l 2 0) (drop (3 + get_or l 2 0) l)))
    (omega arith, (omega arith, (omega arith, read_params t l (params_of t (3 + get_or l 2 0) (drop (3 + get_or l 2 0) l)))))

read_1 : (version : ℕ) (l : List ℕ) → Read (segment_of version l)
unfolding segment_of
read_1 version l =
    first_read
    ((ltb version 1, unread (1, 0))
    ∷ (eqb (length l) 0, unread (2, 0))
    ∷ (leb 64 (get_or l 0 0), unread (3, 0))
    ∷ (eqb (get_or l 0 0 / 8) 3, unread (5, 0))
    ∷ (eqb (get_or l 0 0 / 8) 0, segment_as type.Begin l)
    ∷ (eqb (get_or l 0 0 / 8) 1, segment_as type.Continue l)
    ∷ (eqb (get_or l 0 0 / 8) 2, segment_as type.End l)
    ∷ [])
    (unread (4, 0))
    (omega arith, (omega arith, (omega arith, (omega arith, (read_as type.Begin l, (read_as type.Continue l, (read_as type.End l, omega arith)))))))

-- ---- of what receiving gives

abbrev Given : Answer → Type 0
Given (refused n) = 1 ≤ n.0
Given (answered x m) = Unit {0}

-- rows that all have a number
abbrev Numbered : List (Bool × Refusal) → Type 0
Numbered [] = Unit {0}
Numbered (c ∷ cs) = (1 ≤ c.1.0) × Numbered cs

abbrev OneOrMore : Option Refusal → Type 0
OneOrMore None = Unit {0}
OneOrMore (Some n) = 1 ≤ n.0

refusal_1 : (cs : List (Bool × Refusal)) → Numbered cs → OneOrMore (refusal cs)
refusal_1 [] p = tt
refusal_1 (c ∷ cs) p = go c.0 (refusal_1 cs p.1)
  where
    go : (b : Bool) → OneOrMore (refusal cs) → OneOrMore (cond b (Some c.1) (refusal cs))
    go true h = p.0
    go false h = h

settle_1 : (interval : ℕ) (o : Outcome) (r : Receiver) (a : Arrival) (store out : List ℕ) → Given (settle interval o r a store out).answer
settle_1 interval (fails st s) r a store out = tt
settle_1 interval repeats r a store out = tt
settle_1 interval closes r a store out = omega arith
settle_1 interval keeps r a store out = tt
settle_1 interval finishes r a store out = tt

late_1 : (interval : ℕ) (l p : Bool) (r : Receiver) (a : Arrival) (store out : List ℕ) → Given (late_or interval l p r a store out).answer
late_1 interval true true r a store out = omega arith
late_1 interval true false r a store out = omega arith
late_1 interval false p r a store out = settle_1 interval (first_of (slot_rules r a store) keeps) r a store out

after_1 : (interval : ℕ) (o : Option Refusal) (r : Receiver) (a : Arrival) (store out : List ℕ) → OneOrMore o → Given (receive_after interval o r a store out).answer
after_1 interval (Some n) r a store out h = h
after_1 interval None r a store out h =
    late_1 interval (late r.progress.deadline_monotonic_ms a.reading) (prohibited r.progress.services.acknowledgment_window) r a store out

receive_1 : (interval : ℕ) (r : Receiver) (a : Arrival) (store out : List ℕ) → Given (receive_of interval r a store out).answer
unfolding receive_of
receive_1 interval r a store out =
    after_1 interval (refusal (receive_rows interval r a store out)) r a store out
    (refusal_1 (receive_rows interval r a store out)
    (omega arith, (omega arith, (omega arith, (omega arith, (omega arith, (omega arith, (omega arith, (omega arith, (omega arith, (omega arith, (omega arith, (omega arith, (omega arith, (omega arith, (omega arith, (omega arith, (omega arith, tt))))))))))))))))))

-- ---- of a segment's step

module _ (peer : MobileIdentity) (protocol : HigherLayerProtocol) (reading : ℕ) where
  step_1 : (d : Decoded) (r : Receiver) (store output : List ℕ) → Read d → Given (decoded_step peer protocol reading d r store output).answer
  step_1 (decoded s unparsed) r store output h = receive_1 (interval_of r) r (arrival_of peer protocol reading s unparsed) store output
  step_1 (unread n) r store output h = h

  -- the code of a refusal
  pub refused_code : (r : Receiver) (octets store output : List ℕ) (n : Refusal) → (train_step peer protocol reading r octets store output).answer ≡ refused n → 256 ≤ code_of n
  unfolding train_step
  refused_code r octets store output n e =
      let h : 1 ≤ n.0 = subst Given e (step_1 (segment_of r.terms.version octets) r store output (read_1 r.terms.version octets)) in
      omega arith
