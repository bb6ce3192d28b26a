-- What the slots decide, from the tests of the code; and that each step of receive leaves what its outcome says. Assumes nothing.
use mathlib.Core.Path.{◌≡◌, refl, sym, ap, ◌∙◌}
use mathlib.Core.Bool.{Bool, true, false, cond, not, ◌&&◌, true≢false}
use mathlib.Core.List.{List, [], ◌∷◌}
use Prim.Native.Nat.{ℕ, ◌+◌}
use lib.Dec.{eqb}
use lib.ListN.{length}
use borrow.Author.Tests.{eqb-true}
use Rattle.octets.specs.Octets.{same_octets}
use Rattle.octets.specs.Compare.{compared_of}
use Rattle.octets.specs.declared.Compared.{Compared}
use Rattle.tsar.specs.Rows.{first_of}
use Rattle.tsar.specs.declared.Segment.{Segment}
use Rattle.response.specs.declared.Status.{Status}
use Rattle.response.specs.declared.Status.TheVariants as status
use Rattle.receiver.specs.declared.Receiver.{Receiver}
use Rattle.receiver.specs.declared.replies.Standing.{Standing}
use Rattle.receiver.specs.declared.rules.Stage.{Stage}
use Rattle.receiver.specs.declared.rules.Stage.TheVariants as stage
use Rattle.receiver.specs.declared.rules.Decision.{Decision}
use Rattle.receiver.specs.declared.rules.Place.{Place}
use Rattle.receiver.specs.declared.rules.Amounts.{Amounts}
use Rattle.receiver.specs.Record.{interval_of, complete, is_held, kind_at, length_at, part}
use Rattle.receiver.specs.Answers.{Step}
use Rattle.receiver.specs.Receive.{Arrival, Outcome, fails, repeats, closes, keeps, finishes, before, begun, noted, keeping, sequence, kind, same_kind, slot_rules, settle}
use Rattle.receiver.specs.Steps.{kind_rules, rules, not_compared, decided, stage_says, place_of, staged_at, arrived, failed, settled_of}

-- ---- the decision

abbrev amounts_of : Receiver → Arrival → Amounts
amounts_of r a =
    record { octets = length a.octets; total = r.progress.stored_octets + length a.octets; maximum = r.terms.maximum_message_octets }

-- the second test counts only where the slot is held and as long as the segment
behind : (h e x y : Bool) (o p : Outcome) (rest : List (Bool × Outcome)) → (h ≡ true → e ≡ true → x ≡ y)
    → first_of ((h && not e, o) ∷ (h && not x, p) ∷ rest) keeps ≡ first_of ((h && not e, o) ∷ (h && not y, p) ∷ rest) keeps
behind true true x y o p rest q = ap (λ (b : Bool). first_of ((not b, p) ∷ rest) keeps) (q refl refl)
behind true false x y o p rest q = refl
behind false e x y o p rest q = refl

-- what comparing found, where the slot is held
found_held : (h k : Bool) (c : Compared) → h ≡ true → (cond (h && k) c not_compared).same ≡ (k && c.same)
found_held true true c e = refl
found_held true false c e = refl
found_held false k c e = absurd (true≢false (sym e))

pub outcome_is : (r : Receiver) (a : Arrival) (store : List ℕ) (x : Place) (d : Decision)
    → x ≡ place_of r a store → decided d ≡ first_of (rules r.progress a.segment x (amounts_of r a)) keeps → decided d ≡ first_of (slot_rules r a store) keeps
outcome_is r a store x d e h =
    let s = sequence a in
    let k = same_kind (kind_at r s) (kind a) in
    let n = length a.octets in
    h ∙ ap (λ (y : Place). first_of (rules r.progress a.segment y (amounts_of r a)) keeps) e
    ∙ behind (is_held r s) (eqb (length_at r s) n) (place_of r a store).same (k && same_octets (part store s n) a.octets)
    (fails before status.DuplicateSizeMismatch) (fails before status.Aborted)
    ((is_held r s, repeats) ∷ (complete r.progress.state, closes) ∷ kind_rules r.progress a.segment (place_of r a store).clear (place_of r a store).full (amounts_of r a))
    (λ held same_length.
    found_held (is_held r s) k (compared_of (part store s (length_at r s)) a.octets) held
    ∙ ap (λ (m : ℕ). k && same_octets (part store s m) a.octets) (eqb-true (length_at r s) n same_length))

-- ---- an arrival's peer, protocol and unparsed octets no longer count

pub settle_arrived : (i : ℕ) (o : Outcome) (r : Receiver) (a : Arrival) (store out : List ℕ) → settle i o r (arrived a.segment a.octets a.reading) store out ≡ settle i o r a store out
settle_arrived i (fails before s) r a store out = refl
settle_arrived i (fails begun s) r a store out = refl
settle_arrived i (fails noted s) r a store out = refl
settle_arrived i (fails keeping s) r a store out = refl
settle_arrived i repeats r a store out = refl
settle_arrived i closes r a store out = refl
settle_arrived i keeps r a store out = refl
settle_arrived i finishes r a store out = refl

-- ---- each step, with the store and the output that it does not touch

-- with an output, and with a store too
abbrev pub with_output : List ℕ → Step → Step
with_output out s = record { answer = s.answer; receiver = s.receiver; store = s.store; output = out }

abbrev with_both : List ℕ → List ℕ → Step → Step
with_both store out s = record { answer = s.answer; receiver = s.receiver; store = store; output = out }

-- a failure, at each stage
fails_as : (st : Stage) (s : Status) (r : Receiver) (g : Segment) (octets : List ℕ) (reading : ℕ) (store out : List ℕ)
    → with_output out (failed r.terms (staged_at st r.progress r.held g) s reading store) ≡ settle (interval_of r) (fails (stage_says st) s) r (arrived g octets reading) store out
fails_as stage.Before s r g octets reading store out = refl
fails_as stage.Begun s r g octets reading store out = refl
fails_as stage.Noted s r g octets reading store out = refl
fails_as stage.Keeping s r g octets reading store out = refl

module _ (r : Receiver) (g : Segment) (octets : List ℕ) (reading : ℕ) (store out : List ℕ) where
  abbrev given : Step
  given = settled_of r (arrived g octets reading) store out

  abbrev outcome : Outcome → Type 0
  outcome o = o ≡ first_of (slot_rules r (arrived g octets reading) store) keeps

  -- what settles an outcome settles the rules
  pub settled : (o : Outcome) → outcome o → settle (interval_of r) o r (arrived g octets reading) store out ≡ given
  unfolding settled_of
  settled o e = ap (λ (p : Outcome). settle (interval_of r) p r (arrived g octets reading) store out) e

  pub settled_fails : (st : Stage) (s : Status) (y : Standing) (left : Step) → outcome (fails (stage_says st) s) → y ≡ staged_at st r.progress r.held g
      → left ≡ failed r.terms y s reading store → with_output out left ≡ given
  settled_fails st s y left o e h =
      ap (with_output out) h ∙ ap (λ (z : Standing). with_output out (failed r.terms z s reading store)) e ∙ fails_as st s r g octets reading store out
      ∙ settled (fails (stage_says st) s) o

  pub settled_repeats : (left : Step) → outcome repeats → left ≡ settle (interval_of r) repeats r (arrived g [] reading) [] [] → with_both store out left ≡ given
  settled_repeats left o h = ap (with_both store out) h ∙ settled repeats o

  pub settled_keeps : (left : Step) → outcome keeps → left ≡ settle (interval_of r) keeps r (arrived g octets reading) store [] → with_output out left ≡ given
  settled_keeps left o h = ap (with_output out) h ∙ settled keeps o
