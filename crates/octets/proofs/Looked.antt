-- How far a comparison looks: at none where the lengths differ, at all of the same list, and else up to and with the first octet that differs.
-- Any two lists are in one of the three cases, so these laws leave no other figure. Assumes nothing.
use mathlib.Core.Path.{◌≡◌, refl, sym, ap, ◌∙◌}
use mathlib.Core.Bool.{Bool, true, false, not, cond}
use mathlib.Core.List.{List, [], ◌∷◌}
use Prim.Native.Nat.{ℕ, zero, suc, ◌+◌, ◌≤◌, ◌<◌}
use native.Mathlib.Omega.{arith}
use borrow.Author.Tests.{eq-eqb, ne_eqb}
use lib.Dec.{eqb, ltb}
use lib.ListN.{length, get_or, take}
use Rattle.std.specs.Prelude.{Option, Some, None}
use Rattle.std.specs.Option.{MatchOption}
use Rattle.std.specs.List.{zip, position, position_or_len}
use Rattle.octets.specs.Octets.{same_octets}
use Rattle.octets.specs.Compare.{until_other, looked_at, compared_of}

until_le : (a b : List ℕ) → until_other a b ≤ length a
unfolding until_other
until_le [] ys = omega arith
until_le (x ∷ xs) [] = omega arith
until_le (x ∷ xs) (y ∷ ys) = go (eqb x y) (until_le xs ys)
  where
    go : (t : Bool) → until_other xs ys ≤ length xs → cond t (suc (until_other xs ys)) 1 ≤ suc (length xs)
    go true h = omega arith
    go false h = omega arith

until_refl : (a : List ℕ) → until_other a a ≡ length a
unfolding until_other
until_refl [] = refl
until_refl (x ∷ xs) = rw (eq-eqb x x refl) (ap suc (until_refl xs))

until_at : (i : ℕ) (a b : List ℕ) → i < length a → i < length b → take i a ≡ take i b → (get_or a i 0 ≡ get_or b i 0 → ⊥) → until_other a b ≡ suc i
unfolding until_other
until_at i [] ys h k e n = absurd (omega arith)
until_at i (x ∷ xs) [] h k e n = absurd (omega arith)
until_at zero (x ∷ xs) (y ∷ ys) h k e n = rw (ne_eqb x y n)
until_at (suc i) (x ∷ xs) (y ∷ ys) h k e n =
    let p : x ≡ y = cc in
    let q : take i xs ≡ take i ys = cc in
    rw (eq-eqb x y p) (ap suc (until_at i xs ys (omega arith) (omega arith) q n))

-- where the lengths differ, at none
pub looked_none : (a b : List ℕ) → (length a ≡ length b → ⊥) → looked_at a b ≡ 0
unfolding looked_at
looked_none a b n = rw (ne_eqb (length a) (length b) n)

-- where they do not, up to the first that differs
pub looked_until : (a b : List ℕ) → length a ≡ length b → looked_at a b ≡ until_other a b
unfolding looked_at
looked_until a b e = rw (eq-eqb (length a) (length b) e)

-- at most at all of them
pub looked_le : (a b : List ℕ) → looked_at a b ≤ length a
unfolding looked_at
looked_le a b = go (eqb (length a) (length b))
  where
    go : (t : Bool) → cond t (until_other a b) 0 ≤ length a
    go true = until_le a b
    go false = omega arith

-- of the same list, at all of it
pub looked_same : (a b : List ℕ) → a ≡ b → looked_at a b ≡ length a
looked_same a b e = ap (looked_at a) (sym e) ∙ looked_until a a refl ∙ until_refl a

-- as long, the first i the same and another octet at i: at i + 1
pub looked_other : (a b : List ℕ) (i : ℕ) → length a ≡ length b → i < length a → take i a ≡ take i b → (get_or a i 0 ≡ get_or b i 0 → ⊥) → looked_at a b ≡ suc i
looked_other a b i l h e n = looked_until a b l ∙ until_at i a b h (omega arith) e n

-- ---- what `position` finds

-- a pair of octets that differ
abbrev pub differs : ℕ × ℕ → Bool
differs p = not (eqb p.0 p.1)

-- the place of the first pair that differs, or the number of pairs
abbrev first_other : List ℕ → List ℕ → ℕ
first_other a b = position_or_len differs (zip a b)

same_first : (a b : List ℕ) → length a ≡ length b → same_octets a b ≡ not (ltb (first_other a b) (length (zip a b)))
unfolding same_octets
same_first [] [] h = refl
same_first [] (y ∷ ys) h = absurd (omega arith)
same_first (x ∷ xs) [] h = absurd (omega arith)
same_first (x ∷ xs) (y ∷ ys) h = grind (arith, same_first xs ys (omega arith))

until_first : (a b : List ℕ) → length a ≡ length b → until_other a b ≡ cond (ltb (first_other a b) (length (zip a b))) (first_other a b + 1) (length a)
unfolding until_other
until_first [] [] h = refl
until_first [] (y ∷ ys) h = absurd (omega arith)
until_first (x ∷ xs) [] h = absurd (omega arith)
until_first (x ∷ xs) (y ∷ ys) h = grind (arith, until_first xs ys (omega arith))

-- of two lists as long: the same where it finds none, and else another octet at the place
pub compared_first : (a b : List ℕ) (r : Option ℕ) → r ≡ position differs (zip a b) → length a ≡ length b → MatchOption r (compared_of a b ≡ record { same = true; looked = length a }) (λ i. compared_of a b ≡ record { same = false; looked = i + 1 })
compared_first a b r e h = go (ltb (first_other a b) (length (zip a b))) (same_first a b h) (looked_until a b h ∙ until_first a b h) e
  where
    go : (t : Bool) → same_octets a b ≡ not t → looked_at a b ≡ cond t (first_other a b + 1) (length a) → r ≡ cond t (Some (first_other a b)) None → MatchOption r (compared_of a b ≡ record { same = true; looked = length a }) (λ i. compared_of a b ≡ record { same = false; looked = i + 1 })
    go true s l q = rw q (λ i. record { same = s i; looked = l i })
    go false s l q = rw q (λ i. record { same = s i; looked = l i })
