-- What wiping and comparing lent octets means, and the laws of both. Octets are a list of numbers, and nothing here asks that it be long enough.
-- Assumes nothing.
use Rattle.std.specs.Prelude.{◌≡◌, refl, Bool, true, false, List, ◌∷◌, ◌++◌, ℕ, zero, suc, ◌+◌, ◌-◌, ◌≤◌, ◌<◌, min, length, get_or, drop, set, replicate}
use Rattle.std.proofs.Common.{sym, ap, ap₂, ◌∙◌, true≢false, ⊎_elim, append-nil, arith, length-append, length-drop, drop_of_length-le, drop_at, drop-cons, drop-drop, get_or-drop}
use Rattle.std.proofs.Math.Nat.{min-eq_left, min-eq_right}
use Rattle.std.proofs.lemmas.List.{length-replicate, get_or-replicate, set_at}
use Rattle.std.proofs.Math.ListN.{get_or-append, get_or-eq_default}
use Rattle.std.specs.Str.{bytes_eq}
use Rattle.std.proofs.lemmas.Slice.Eq.{bytes_eq-Decides}
use Rattle.octets.specs.Laws.{le_or_lt}

-- the octets with the first n of them 0, as far as they go
unfoldable pub wiped_to : ℕ → List ℕ → List ℕ
wiped_to n l = replicate (min n (length l)) 0 ++ drop n l

-- whether two lists are as long and hold the same numbers
unfoldable pub same_octets : List ℕ → List ℕ → Bool
same_octets = bytes_eq

-- ---- wiping

-- wiped within the list
pub wiped_within : (n : ℕ) (l : List ℕ) → n ≤ length l → wiped_to n l ≡ replicate n 0 ++ drop n l
unfolding wiped_to
wiped_within n l h = ap (λ (k : ℕ). replicate k 0 ++ drop n l) (min-eq_left h)

-- wiped whole
pub wiped_whole : (n : ℕ) (l : List ℕ) → length l ≤ n → wiped_to n l ≡ replicate (length l) 0
unfolding wiped_to
wiped_whole n l h =
    ap₂ {C = List ℕ} (λ (k : ℕ) (r : List ℕ). replicate k 0 ++ r) (min-eq_right h) (drop_of_length-le l h)
    ∙ append-nil (replicate (length l) 0)

-- wiping keeps the length
pub length_wiped : (n : ℕ) (l : List ℕ) → length (wiped_to n l) ≡ length l
unfolding wiped_to
length_wiped n l = simp (length-append, length-replicate, length-drop) (omega arith)

-- what lies from n on is as it was
pub drop_wiped : (n : ℕ) (l : List ℕ) → drop n (wiped_to n l) ≡ drop n l
drop_wiped n l =
    ⊎_elim
    (λ (h : n ≤ length l). ap (drop n) (wiped_within n l h) ∙ drop_at (replicate n 0) (drop n l) n (length-replicate n 0))
    (λ (h : length l < n).
    let k : length l ≤ n = omega arith in
    ap (drop n) (wiped_whole n l k) ∙ drop_of_length-le (replicate (length l) 0) {i = n} (rw length-replicate k) ∙ sym (drop_of_length-le l k))
    (le_or_lt n (length l))

-- what lies from any place past n on is as it was
pub drop_wiped_past : (n k : ℕ) (l : List ℕ) → n ≤ k → drop k (wiped_to n l) ≡ drop k l
drop_wiped_past n k l h =
    let e : k ≡ n + (k - n) = omega arith in
    ap (λ (m : ℕ). drop m (wiped_to n l)) e ∙ sym (drop-drop (k - n) n (wiped_to n l)) ∙ ap (drop (k - n)) (drop_wiped n l)
    ∙ drop-drop (k - n) n l ∙ ap (λ (m : ℕ). drop m l) (sym e)

-- below n every octet is 0
pub get_d_wiped : (n i : ℕ) (l : List ℕ) → i < n → get_or (wiped_to n l) i 0 ≡ 0
unfolding wiped_to
get_d_wiped n i l h =
    ⊎_elim
    (λ (p : length l ≤ i). get_or-eq_default (wiped_to n l) 0 {n = i} (rw length_wiped p))
    (λ (p : i < length l). get_or-append (replicate (min n (length l)) 0) (drop n l) 0 i (rw length-replicate (omega arith)) ∙ get_or-replicate (min n (length l)) i 0 0 (omega arith))
    (le_or_lt (length l) i)

-- from n on every octet is as it was
pub get_d_wiped_past : (n i : ℕ) (l : List ℕ) (d : ℕ) → n ≤ i → get_or (wiped_to n l) i d ≡ get_or l i d
get_d_wiped_past n i l d h =
    let e : i ≡ n + (i - n) = omega arith in
    ap (λ (m : ℕ). get_or (wiped_to n l) m d) e ∙ sym (get_or-drop n (wiped_to n l) (i - n) d) ∙ ap (λ (r : List ℕ). get_or r (i - n) d) (drop_wiped n l)
    ∙ get_or-drop n l (i - n) d ∙ ap (λ (m : ℕ). get_or l m d) (sym e)

-- no octet wiped
pub wiped_zero : (l : List ℕ) → wiped_to 0 l ≡ l
wiped_zero l = wiped_within 0 l (omega arith)

-- one more octet wiped
pub wiped_suc : (n : ℕ) (l : List ℕ) → n < length l → set (wiped_to n l) n 0 ≡ wiped_to (suc n) l
wiped_suc n l h =
    ap (λ (r : List ℕ). set r n 0) (wiped_within n l (omega arith) ∙ ap (λ (r : List ℕ). replicate n 0 ++ r) (drop-cons l n 0 h))
    ∙ set_at (replicate n 0) (get_or l n 0) (drop (suc n) l) 0 n (length-replicate n 0) ∙ snoc n ∙ sym (wiped_within (suc n) l h)
  where
    snoc : (k : ℕ) → replicate k 0 ++ 0 ∷ drop (suc n) l ≡ replicate (suc k) 0 ++ drop (suc n) l
    snoc zero = refl
    snoc (suc k) = ap {B = List ℕ} (λ r. 0 ∷ r) (snoc k)

-- wiping to the end is all that counts
pub wiped_fitting : (n : ℕ) (l : List ℕ) → wiped_to (min n (length l)) l ≡ wiped_to n l
wiped_fitting n l =
    ⊎_elim (λ (h : n ≤ length l). ap (λ (k : ℕ). wiped_to k l) (min-eq_left h))
    (λ (h : length l < n).
    let k : length l ≤ n = omega arith in
    wiped_whole (min n (length l)) l (omega arith) ∙ sym (wiped_whole n l k))
    (le_or_lt n (length l))

-- ---- comparing

-- the same octets are the same list
pub same_true : (a b : List ℕ) → same_octets a b ≡ true → a ≡ b
unfolding same_octets
same_true a b = (bytes_eq-Decides a b).0

-- and the same list has the same octets
pub same_refl : (a : List ℕ) → same_octets a a ≡ true
unfolding same_octets
same_refl a = (bytes_eq-Decides a a).1 refl

-- the same, of two lists that are known to be equal
pub same_eq : (a b : List ℕ) → a ≡ b → same_octets a b ≡ true
same_eq a b e = ap (λ (l : List ℕ). same_octets a l) (sym e) ∙ same_refl a

-- octets that differ are different lists
pub same_false : (a b : List ℕ) → same_octets a b ≡ false → a ≡ b → ⊥
same_false a b h e = true≢false (sym (same_eq a b e) ∙ h)

-- and different lists have octets that differ
pub same_ne : (a b : List ℕ) → (a ≡ b → ⊥) → same_octets a b ≡ false
same_ne a b n = go (same_octets a b) refl
  where
    go : (t : Bool) → same_octets a b ≡ t → t ≡ false
    go true e = absurd (n (same_true a b e))
    go false e = refl
