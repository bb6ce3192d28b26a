-- What a strict reader gave: a value where the test holds, and nothing where it doesn't. Assumes nothing.
use Rattle.std.specs.Prelude.{◌≡◌, refl, Bool, true, false, not, cond, ◌&&◌, Option, Some, None}
use Rattle.std.specs.Bool.{then_some}
use Rattle.std.proofs.Common.{sym, ap, ap₂, ◌∙◌}
use Rattle.std.proofs.lemmas.Option.{none-some}
use Rattle.std.specs.Option.{unwrap_or}

module _ {A : Type 0} where
  pub read_some : (b : Bool) (x y : A) → then_some b x ≡ Some y → (b ≡ true) × (x ≡ y)
  read_some true x y p = (refl, ap (λ (o : Option A). unwrap_or o x) p)
  read_some false x y p = absurd (none-some y p)

  pub read_none : (b : Bool) (x : A) → then_some b x ≡ None → b ≡ false
  read_none true x p = absurd (none-some x (sym p))
  read_none false x p = refl

  -- a flag that is tested
  pub flagged : (b : Bool) (x : A) → then_some (not b) x ≡ cond b None (Some x)
  flagged true x = refl
  flagged false x = refl

  -- and so a reader of which this is a part
  pub gives_some : (b : Bool) (x y : A) → b ≡ true → y ≡ x → Some y ≡ then_some b x
  gives_some b x y p q = ap₂ {C = Option A} then_some (sym p) q

  pub gives_none : (b : Bool) (x : A) (r : Option A) → b ≡ false → r ≡ None → r ≡ then_some b x
  gives_none b x r p q = q ∙ ap (λ (t : Bool). then_some t x) (sym p)

-- ---- a reader of two parts, one after the other, whose test is that of each

pub and_left : (p q : Bool) → p ≡ false → (p && q) ≡ false
and_left p q e = rw e

pub and_right : (p q : Bool) → q ≡ false → (p && q) ≡ false
and_right true q e = e
and_right false q e = refl

pub and_both : (p q : Bool) → p ≡ true → q ≡ true → (p && q) ≡ true
and_both p q e f = rw (e, f)

module _ {A B C : Type 0} (ok p q : Bool) (same : ok ≡ (p && q)) (x : A) (y : B) (z : C) where
  pub first_none : (r : Option C) → then_some p x ≡ None → r ≡ None → r ≡ then_some ok z
  first_none r n e = gives_none ok z r (same ∙ and_left p q (read_none p x n)) e

  pub second_none : (r : Option C) → then_some q y ≡ None → r ≡ None → r ≡ then_some ok z
  second_none r n e = gives_none ok z r (same ∙ and_right p q (read_none q y n)) e

  pub both_some : (x' : A) (y' : B) (f : A → B → C) → then_some p x ≡ Some x' → then_some q y ≡ Some y' → z ≡ f x y → Some (f x' y') ≡ then_some ok z
  both_some x' y' f m n e =
      let a = read_some p x x' m in
      let b = read_some q y y' n in
      gives_some ok z (f x' y') (same ∙ and_both p q a.0 b.0) (sym (e ∙ ap₂ f a.1 b.1))
