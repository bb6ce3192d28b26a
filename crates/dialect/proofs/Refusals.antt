-- What is shown of the converter: every refusal, in order, and which trains are refused with 26. Assumes nothing.
use Prim.Native.Nat.{ℕ, zero, suc, ◌+◌, ◌-◌, ◌≤◌, ◌<◌}
use mathlib.Core.Path.{◌≡◌, refl, sym, ap, ◌∙◌, subst}
use mathlib.Core.Logic.{⊎_elim}
use mathlib.Core.Bool.{Bool, true, false, ◌&&◌}
use Rattle.std.specs.Prelude.{Option, Some, None}
use native.Mathlib.Omega.{arith}
use lib.ListN.{length}
use borrow.Author.Tests.{lt-ltb}
use Rattle.octets.specs.Laws.{le_or_lt}
use Rattle.tsar.specs.Rows.{Refusal}
use Rattle.tsar.specs.Writing.{header_octets, length_in}
use Rattle.tsar.specs.declared.SegmentKind.{SegmentKind}
use Rattle.tsar.specs.declared.SegmentKind.TheVariants as kind'
use Rattle.tsar.specs.declared.SegmentHead.{SegmentHead}
use Rattle.segmentation.specs.Frozen.{Proposal, head_at, frozen_refusal, checked_as}
use Rattle.segmentation.specs.Accepted.{frozen_acceptable, cutting_accepted}
use Rattle.dialect.specs.declared.Dialect.TheVariants.{BeginOnly, Every}
use Rattle.dialect.specs.Convert.{other_dialect, states, later_in, in_dialect, with_length, restated_heads, converted, passes_budget, convert_refusal, convert_of}
use Rattle.dialect.specs.Statement.{InDialect, Answered, RefusedPlan, CheckFirst, OtherPattern, TooLong, OverBudget, WithinBudget, Never20, Only20, with_budget, TwoEnough, BeginUnstated, Mixed, Already, NeverLong, ShortOnly}
use Rattle.dialect.proofs.Converted.{restated_at, heads_at, at_place, not_long}
use Rattle.dialect.proofs.Pattern.{both_true, passes_none, passes_some, room_of}
use Rattle.dialect.proofs.Dialects.{unstated_only, in_to, in_from, begin_not, mixed_not, not_both}
use Rattle.dialect.proofs.Theorems.{check_refused, other_dialect_lem, budget_passed, none_refused, parts}

pub answered : Answered
unfolding convert_of
answered d q = go (convert_refusal d q)
  where
    go : (o : Option Refusal) → (checked_as o (converted (other_dialect d) q)).refused ≡ o
    go None = refl
    go (Some r) = refl

pub refused_plan : RefusedPlan
unfolding convert_of
refused_plan d q r e = ap (λ (o : Option Refusal). checked_as o (converted (other_dialect d) q)) e

pub check_first : CheckFirst
check_first d q r e = check_refused d q r e

pub other_pattern : OtherPattern
other_pattern d q ok no_such = go (in_dialect d q.heads q.count) refl
  where
    go : (t : Bool) → in_dialect d q.heads q.count ≡ t → convert_refusal d q ≡ Some (26, 0)
    go true e = absurd (no_such (in_to d q ok e))
    go false e = other_dialect_lem d q ok e

-- ---- the budget

-- a header that gets a length has two octets more
two_more : (n : ℕ) (k : SegmentKind) → length_in k ≡ None → header_octets (with_length (Some n) k) ≡ header_octets k + 2
unfolding header_octets
two_more n (kind'.Begin None s) e = omega arith
two_more n (kind'.Begin (Some m) s) e = absurd (unstated_only (sym e) refl)
two_more n (kind'.Continue None) e = omega arith
two_more n (kind'.Continue (Some m)) e = absurd (unstated_only (sym e) refl)
two_more n (kind'.End None c) e = omega arith
two_more n (kind'.End (Some m) c) e = absurd (unstated_only (sym e) refl)

-- a train that is checked and in which Begin alone states the length
module _ (q : Proposal) (ok : frozen_refusal q ≡ None) (fit : InDialect BeginOnly q) where
  abbrev message : ℕ
  message = length q.message

  in_it : in_dialect BeginOnly q.heads q.count ≡ true
  in_it = in_from BeginOnly q (omega (arith, (frozen_acceptable q ok).cutting.at_least)) fit

  as_converted : (i : ℕ) → i < q.count → head_at (converted Every q).heads i ≡ restated_at Every message i (head_at q.heads i)
  as_converted i h = heads_at Every message q.count q.heads i h (omega (arith, room_of q ok))

  -- how many octets a segment has as converted: Begin as many as before, a later one two more
  first_octets : header_octets (head_at (converted Every q).heads 0).segment.kind + (head_at (converted Every q).heads 0).segment_data_length ≤ q.budget
  first_octets =
      let h : 0 < q.count = omega (arith, (frozen_acceptable q ok).cutting.at_least) in
      subst (λ (x : SegmentHead). header_octets x.segment.kind + x.segment_data_length ≤ q.budget) (sym (as_converted 0 h)) ((frozen_acceptable q ok).fits 0 h)

  later_octets : (i : ℕ) → suc i < q.count
      → header_octets (head_at (converted Every q).heads (suc i)).segment.kind + (head_at (converted Every q).heads (suc i)).segment_data_length
      ≡ header_octets (head_at q.heads (suc i)).segment.kind + 2 + (head_at q.heads (suc i)).segment_data_length
  later_octets i h =
      ap (λ (x : SegmentHead). header_octets x.segment.kind + x.segment_data_length) (as_converted (suc i) h)
      ∙ ap (λ (x : ℕ). x + (head_at q.heads (suc i)).segment_data_length) (two_more message (head_at q.heads (suc i)).segment.kind (fit (suc i) h))

  too_long : TooLong q → passes_budget q.budget (converted Every q).heads q.count ≡ true
  too_long t = go t.0 t.1 t.2 t.3
    where
      go : (i : ℕ) → 0 < i → i < q.count → q.budget < header_octets (head_at q.heads i).segment.kind + 2 + (head_at q.heads i).segment_data_length → passes_budget q.budget (converted Every q).heads q.count ≡ true
      go zero a h l = absurd (omega arith)
      go (suc i) a h l = passes_some q.budget (converted Every q).heads q.count (suc i) h (lt-ltb q.budget _ (omega (arith, l, later_octets i h)))

  none_long : (TooLong q → ⊥) → passes_budget q.budget (converted Every q).heads q.count ≡ false
  none_long no_such = passes_none q.budget (converted Every q).heads q.count go
    where
      go : (i : ℕ) → i < q.count → header_octets (head_at (converted Every q).heads i).segment.kind + (head_at (converted Every q).heads i).segment_data_length ≤ q.budget
      go zero h = first_octets
      go (suc i) h =
          ⊎_elim (λ (l : header_octets (head_at (converted Every q).heads (suc i)).segment.kind + (head_at (converted Every q).heads (suc i)).segment_data_length ≤ q.budget). l)
          (λ (l : q.budget < header_octets (head_at (converted Every q).heads (suc i)).segment.kind + (head_at (converted Every q).heads (suc i)).segment_data_length). absurd (no_such (suc i, omega arith, h, omega (arith, l, later_octets i h))))
          (le_or_lt _ q.budget)

pub over_budget : OverBudget
over_budget q ok fit t = budget_passed BeginOnly q ok (in_it q ok fit) (too_long q ok fit t)

pub within_budget : WithinBudget
within_budget q ok fit no_such = none_refused BeginOnly q ok (in_it q ok fit) (none_long q ok fit no_such)

-- a header without a length is no longer
shorter : (k : SegmentKind) → header_octets (with_length None k) ≤ header_octets k
unfolding header_octets
shorter (kind'.Begin None s) = omega arith
shorter (kind'.Begin (Some n) s) = omega arith
shorter (kind'.Continue None) = omega arith
shorter (kind'.Continue (Some n)) = omega arith
shorter (kind'.End None c) = omega arith
shorter (kind'.End (Some n) c) = omega arith

pub never_20 : Never20
never_20 q ok p =
    let a = frozen_acceptable q ok in
    let room = room_of q ok in
    let n : ℕ = length q.message in
    none_refused Every q ok (in_from Every q (omega (arith, a.cutting.at_least)) p)
    (passes_none q.budget (restated_heads BeginOnly n q.count q.heads) q.count
    (λ i h.
    subst (λ (x : SegmentHead). header_octets x.segment.kind + x.segment_data_length ≤ q.budget) (sym (heads_at BeginOnly n q.count q.heads i h (omega (arith, room))))
    (at_place (λ x. header_octets x.segment.kind + x.segment_data_length ≤ q.budget) BeginOnly n i (head_at q.heads i) (a.fits i h)
    (λ _. omega (arith, a.fits i h, shorter (head_at q.heads i).segment.kind)))))

abbrev first_number : Option Refusal → ℕ
first_number None = 0
first_number (Some r) = r.0

-- whether the train is in the long dialect or not, 20 is not the converter's
pub only_20 : Only20
only_20 q e = go (frozen_refusal q) refl
  where
    none_of : (t : Bool) → in_dialect Every q.heads q.count ≡ t → frozen_refusal q ≡ None → ⊥
    none_of true f ok = let g : ◌≡◌ {A = Option Refusal} None (Some (20, 0)) = sym (never_20 q ok (in_to Every q ok f)) ∙ e in let z : ◌≡◌ {A = ℕ} 0 1 = cc in omega arith
    none_of false f ok = let g : ◌≡◌ {A = Option Refusal} (Some (26, 0)) (Some (20, 0)) = sym (other_dialect_lem Every q ok f) ∙ e in let z : ◌≡◌ {A = ℕ} 26 20 = ap first_number g in omega arith

    go : (o : Option Refusal) → frozen_refusal q ≡ o → frozen_refusal q ≡ Some (20, 0)
    go None f = absurd (none_of (in_dialect Every q.heads q.count) refl f)
    go (Some r) f = f ∙ sym (check_refused Every q r f) ∙ e

-- a larger budget takes what a smaller one takes
more_budget : (q : Proposal) (budget : ℕ) → frozen_refusal q ≡ None → q.budget ≤ budget → budget ≤ q.ceiling → frozen_refusal (with_budget q budget) ≡ None
more_budget q budget ok h k =
    let a = frozen_acceptable q ok in
    cutting_accepted (with_budget q budget) (record { within_ceiling = k; sums = a.sums; cutting = a.cutting; codec = a.codec; fits = λ i l. omega (arith, a.fits i l, h) })

pub two_enough : TwoEnough
two_enough q budget ok fit h k =
    within_budget (with_budget q budget) (more_budget q budget ok (omega arith) k) fit
    (λ t. let l = (frozen_acceptable q ok).fits t.0 t.2 in absurd (omega (arith, l, t.3, h)))

-- ---- which trains are refused with 26

pub begin_unstated : BeginUnstated
begin_unstated d q ok e = other_pattern d q ok (begin_not d q (omega (arith, (frozen_acceptable q ok).cutting.at_least)) e)

pub mixed : Mixed
mixed d q i j m ok a b e a' b' e' = other_pattern d q ok (mixed_not d q i j m a b e a' b' e')

pub already : Already
already d q ok o = other_pattern d q ok (not_both d q (omega (arith, (frozen_acceptable q ok).cutting.at_least)) o)

pub never_long : NeverLong
never_long d q ok h = go (states (head_at q.heads 0)) refl
  where
    go : (t : Bool) → states (head_at q.heads 0) ≡ t → convert_refusal d q ≡ Some (26, 0)
    go true e = let m : length q.message ≤ 4095 = not_long d q ok (room_of q ok) e in absurd (omega arith)
    go false e = other_dialect_lem d q ok (ap (λ (b : Bool). b && later_in d q.heads (q.count - 1)) e)

pub short_only : ShortOnly
short_only d q ok =
    let p = parts d q ok in
    not_long d q p.0 (room_of q p.0) (both_true (states (head_at q.heads 0)) (later_in d q.heads (q.count - 1)) p.1).0
