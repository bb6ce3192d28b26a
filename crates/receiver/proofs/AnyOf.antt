-- Laws of `any_of`: one test that holds is enough, and the tests of two lists. Assumes nothing.
use mathlib.Core.Path.{◌≡◌, refl, sym, ap, ◌∙◌}
use mathlib.Core.Bool.{Bool, true, false, ◌||◌, or-true, or_assoc}
use mathlib.Core.List.{List, [], ◌∷◌, ◌++◌}
use Prim.Native.Nat.{ℕ, zero, suc}
use lib.ListN.{get_or}
use Rattle.tsar.specs.Rows.{any_of}

-- the n-th test holds
pub any_at : (bs : List Bool) (n : ℕ) → get_or bs n false ≡ true → any_of bs ≡ true
any_at [] n e = e
any_at (b ∷ bs) zero e = ap (λ (t : Bool). t || any_of bs) e
any_at (b ∷ bs) (suc n) e = ap (λ (t : Bool). b || t) (any_at bs n e) ∙ or-true b

-- two lists
pub any_append : (cs bs : List Bool) → any_of (cs ++ bs) ≡ (any_of cs || any_of bs)
any_append [] bs = refl
any_append (c ∷ cs) bs = ap (λ (t : Bool). c || t) (any_append cs bs) ∙ sym (or_assoc c (any_of cs) (any_of bs))
