-- A train in a dialect: the test of the definition, and what each segment states. Assumes nothing.
use Prim.Native.Nat.{ℕ, zero, suc, ◌-◌, ◌<◌}
use mathlib.Core.Path.{◌≡◌, refl, sym, ap, ◌∙◌}
use mathlib.Core.Bool.{true, false, not, true≢false}
use Rattle.std.specs.Prelude.{Option, Some, None}
use native.Mathlib.Omega.{arith}
use lib.ListN.{length}
use borrow.Author.Tests.{eqb-true, not-false}
use Rattle.tsar.specs.declared.SegmentHead.{SegmentHead}
use Rattle.tsar.specs.Writing.{length_in}
use Rattle.segmentation.specs.Cutting.{states_other}
use Rattle.segmentation.specs.Frozen.{Proposal, head_at, frozen_refusal}
use Rattle.segmentation.specs.Accepted.{frozen_acceptable}
use Rattle.dialect.specs.declared.Dialect.{Dialect}
use Rattle.dialect.specs.declared.Dialect.TheVariants.{BeginOnly, Every}
use Rattle.dialect.specs.Convert.{other_dialect, is_stated, states, later_fits, later_in, in_dialect, length_for}
use Rattle.dialect.specs.Statement.{stated_at, length_at, InDialect}
use Rattle.dialect.proofs.Back.{length_is}
use Rattle.dialect.proofs.Pattern.{both_true, and_true, later_each, later_all}

-- ---- what is stated

-- no length is stated and unstated
pub unstated_only : {l : Option ℕ} {n : ℕ} → None ≡ l → l ≡ Some n → ⊥
unstated_only e f = true≢false (sym (ap is_stated f) ∙ sym (ap is_stated e))

-- a length that is stated, where no other may be, is the message's
pub states_it : (l : Option ℕ) (n : ℕ) → is_stated l ≡ true → states_other l n ≡ false → l ≡ Some n
states_it None n e f = absurd (true≢false (sym e))
states_it (Some m) n e f = ap {B = Option ℕ} Some (eqb-true m n (not-false _ f))

pub stated_later : (d : Dialect) (n i : ℕ) → length_for d n ≡ stated_at d n (suc i)
stated_later BeginOnly n i = refl
stated_later Every n i = refl

later_fits_lem : (d : Dialect) (n i : ℕ) (h : SegmentHead) → 0 < i → length_in h.segment.kind ≡ stated_at d n i → later_fits d h ≡ true
later_fits_lem d n zero h a e = absurd (omega arith)
later_fits_lem BeginOnly n (suc i) h a e = ap (λ (l : Option ℕ). not (is_stated l)) e
later_fits_lem Every n (suc i) h a e = ap is_stated e

-- ---- a train in a dialect

pub in_to : (d : Dialect) (q : Proposal) → frozen_refusal q ≡ None → in_dialect d q.heads q.count ≡ true → InDialect d q
in_to d q ok e = go
  where
    fit : (states (head_at q.heads 0) ≡ true) × (later_in d q.heads (q.count - 1) ≡ true)
    fit = both_true (states (head_at q.heads 0)) (later_in d q.heads (q.count - 1)) e

    go : (i : ℕ) → i < q.count → length_at q i ≡ stated_at d (length q.message) i
    go zero h = states_it (length_at q 0) (length q.message) fit.0 ((frozen_acceptable q ok).cutting.states 0 h)
    go (suc i) h =
        sym (length_is d (length q.message) (head_at q.heads (suc i)) (later_each d q.heads (q.count - 1) fit.1 (suc i) (omega arith) (omega arith)) ((frozen_acceptable q ok).cutting.states (suc i) h))
        ∙ stated_later d (length q.message) i

pub in_from : (d : Dialect) (q : Proposal) → 0 < q.count → InDialect d q → in_dialect d q.heads q.count ≡ true
in_from d q h p =
    and_true (states (head_at q.heads 0)) (later_in d q.heads (q.count - 1)) (ap is_stated (p 0 h))
    (later_all d q.heads (q.count - 1) (λ j a b. later_fits_lem d (length q.message) j (head_at q.heads j) a (p j (omega arith))))

-- ---- trains that are in none, or in the other

pub begin_not : (d : Dialect) (q : Proposal) → 0 < q.count → length_at q 0 ≡ None → InDialect d q → ⊥
begin_not d q h e p = unstated_only (sym e) (p 0 h)

pub mixed_not : (d : Dialect) (q : Proposal) (i j m : ℕ) → 0 < i → i < q.count → length_at q i ≡ None → 0 < j → j < q.count → length_at q j ≡ Some m → InDialect d q → ⊥
mixed_not d q zero j m a b e a' b' e' p = absurd (omega arith)
mixed_not d q (suc i) zero m a b e a' b' e' p = absurd (omega arith)
mixed_not BeginOnly q (suc i) (suc j) m a b e a' b' e' p = unstated_only (sym (p (suc j) b')) e'
mixed_not Every q (suc i) (suc j) m a b e a' b' e' p = unstated_only (sym e) (p (suc i) b)

-- the End tells the dialects apart
pub not_both : (d : Dialect) (q : Proposal) → 1 < q.count → InDialect (other_dialect d) q → InDialect d q → ⊥
not_both BeginOnly q h o p = unstated_only (sym (p 1 h)) (o 1 h)
not_both Every q h o p = unstated_only (sym (o 1 h)) (p 1 h)
