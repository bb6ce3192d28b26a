-- Document 02, 2026-03: 'However the data comparison is done now, it shall end at the first octet that differs, and not begin when the lengths
-- differ. It tells how many octets it looked at: up to and with the first difference, all if there is none, 0 for unequal lengths.' The laws of
-- it stand in proofs/Looked. Assumes nothing.
use Rattle.std.specs.Prelude.{◌≡◌, refl, true, false, cond, List, [], ◌∷◌, ◌++◌, ℕ, suc, eqb, length, replicate}
use Rattle.octets.specs.Octets.{same_octets}
use Rattle.octets.specs.declared.Compared.{Compared}

-- the octets of two lists up to and with the first place at which they differ; all that both have where there is none
unfoldable pub until_other : List ℕ → List ℕ → ℕ
until_other [] ys = 0
until_other (x ∷ xs) [] = 0
until_other (x ∷ xs) (y ∷ ys) = cond (eqb x y) (suc (until_other xs ys)) 1

-- the octets that are looked at: none where the lengths differ
unfoldable pub looked_at : List ℕ → List ℕ → ℕ
looked_at a b = cond (eqb (length a) (length b)) (until_other a b) 0

-- what a comparison finds
abbrev pub compared_of : List ℕ → List ℕ → Compared
compared_of a b = record { same = same_octets a b; looked = looked_at a b }

-- ---- figures of the table that the program firmware runs. Of 255 octets: all differ; the last differs; none does. And 254 against 255

pub example_first : compared_of (replicate 255 1) (replicate 255 7) ≡ record { same = false; looked = 1 }
unfolding same_octets looked_at until_other
example_first = refl

pub example_last : compared_of (replicate 254 7 ++ (1 ∷ [])) (replicate 255 7) ≡ record { same = false; looked = 255 }
unfolding same_octets looked_at until_other
example_last = refl

pub example_all : compared_of (replicate 255 7) (replicate 255 7) ≡ record { same = true; looked = 255 }
unfolding same_octets looked_at until_other
example_all = refl

pub example_length : compared_of (replicate 254 7) (replicate 255 7) ≡ record { same = false; looked = 0 }
unfolding same_octets looked_at until_other
example_length = refl
