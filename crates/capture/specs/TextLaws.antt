-- Laws of runs of characters.
use Rattle.std.specs.Prelude.{ℕ, suc, ◌≤◌, ◌<◌, ◌≡◌, refl, Bool, true, false, cond, not, ◌&&◌, ltb, Some, None, unwrap_or, position, ◌+◌, List, [], ◌∷◌, leb, length, get_or, drop}
use Rattle.std.proofs.Common.{sym, ap, ◌∙◌, true≢false, arith, leb-true, drop-cons}
use Rattle.std.proofs.lemmas.List.Sums.{prefix_len-drop_no, prefix_len-drop_all, prefix_len-le-length}
use Rattle.std.specs.List.{prefix_len}
use Rattle.std.proofs.lemmas.Bool.Decides.{nat_tests}
use Rattle.capture.specs.Text.{within, leading}

-- a run goes on where the test passes, and stops where it does not
pub leading_at : (p : ℕ → Bool) (l : List ℕ) (i : ℕ) → i < length l → p (get_or l i 0) ≡ true → leading p (drop i l) ≡ suc (leading p (drop (suc i) l))
leading_at p l i h t = rw (drop-cons l i 0 h, t) (omega arith)

pub leading_stop : (p : ℕ → Bool) (l : List ℕ) (i : ℕ) → i < length l → p (get_or l i 0) ≡ false → leading p (drop i l) ≡ 0
leading_stop p l i h t = prefix_len-drop_no p l i 0 h t

-- and at the end
pub leading_end : (p : ℕ → Bool) (l : List ℕ) (i : ℕ) → length l ≤ i → leading p (drop i l) ≡ 0
leading_end p l i h = prefix_len-drop_all p l i h

-- a run is no longer than the list
pub leading_le : (p : ℕ → Bool) (l : List ℕ) → leading p l ≤ length l
leading_le p l = prefix_len-le-length p l

-- a run by the test that ends it
leading_twice : (p : ℕ → Bool) (l : List ℕ) → prefix_len (λ x. not (not (p x))) l ≡ leading p l
leading_twice p [] = refl
leading_twice p (x ∷ l) = go (p x) (leading_twice p l)
  where
    go : (b : Bool) → prefix_len (λ x. not (not (p x))) l ≡ leading p l → cond (not (not b)) (1 + prefix_len (λ x. not (not (p x))) l) 0 ≡ cond b (1 + leading p l) 0
    go true e = ap (λ (k : ℕ). 1 + k) e
    go false e = refl

within_or_end : (k n : ℕ) → k ≤ n → unwrap_or (cond (ltb k n) (Some k) None) n ≡ k
within_or_end k n h = grind (arith, nat_tests)

-- it ends at the first element that fails the test, or with the list
pub leading_position : (p : ℕ → Bool) (l : List ℕ) → unwrap_or (position (λ x. not (p x)) l) (length l) ≡ leading p l
leading_position p l =
    within_or_end (prefix_len (λ x. not (not (p x))) l) (length l) (prefix_len-le-length (λ x. not (not (p x))) l) ∙ leading_twice p l

-- what passes a test of bounds lies within them
pub within_true : (a x b : ℕ) → within a x b ≡ true → (a ≤ x) × (x ≤ b)
within_true a x b = go (leb a x) refl
  where
    go : (t : Bool) → leb a x ≡ t → (t && leb x b) ≡ true → (a ≤ x) × (x ≤ b)
    go true e h = (leb-true a x e, leb-true x b h)
    go false e h = absurd (true≢false (sym h))
