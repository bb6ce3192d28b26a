-- Laws of the three questions: whether a predicate holds at all numbers below n, and the highest and the lowest at which it holds.
-- Each has both directions, from the answer and to it. Assumes nothing.
use Rattle.std.specs.Prelude.{◌≡◌, refl, Bool, true, false, cond, not, ◌&&◌, ◌⊎◌, ℕ, zero, suc, ◌≤◌, ◌<◌, ltb, Option, Some, None}
use Rattle.std.proofs.Common.{sym, ap, ◌∙◌, subst, true≢false, inl, inr, ⊎_elim, arith, ltb-true, ltb-false, lt-ltb, le-ltb}
use Rattle.std.proofs.Math.Bool.{not-not}
use Rattle.words.specs.Marks.{all_below, highest_of, lowest_of, found_or}

-- one number is below another, or not
pub lt_or_le : (a b : ℕ) → (a < b) ⊎ (b ≤ a)
lt_or_le a b = go (ltb a b) refl
  where
    go : (t : Bool) → ltb a b ≡ t → (a < b) ⊎ (b ≤ a)
    go true e = inl (ltb-true a b e)
    go false e = inr (ltb-false a b e)

-- what holds below n and at n holds below suc n
below_suc : (P : ℕ → Type 0) (n : ℕ) → ((i : ℕ) → i < n → P i) → P n → (i : ℕ) → i < suc n → P i
below_suc P n h p i l =
    ⊎_elim (λ (q : i < n). h i q)
    (λ (q : n ≤ i).
    let e : n ≡ i = omega arith in
    subst P e p) (lt_or_le i n)

-- ---- all

-- from true: it holds at each
pub all_below_true : (n : ℕ) (f : ℕ → Bool) → all_below n f ≡ true → (i : ℕ) → i < n → f i ≡ true
unfolding all_below
all_below_true zero f e i l = absurd (omega arith)
all_below_true (suc n) f e i l = go (all_below n f) (f n) refl refl e (all_below_true n f) i l
  where
    go : (s t : Bool) → all_below n f ≡ s → f n ≡ t → (s && t) ≡ true → (all_below n f ≡ true → (i : ℕ) → i < n → f i ≡ true) → (i : ℕ) → i < suc n → f i ≡ true
    go true true p q e ih = below_suc (λ i. f i ≡ true) n (ih p) q
    go true false p q e ih = absurd (true≢false (sym e))
    go false t p q e ih = absurd (true≢false (sym e))

-- to true
pub all_below_all : (n : ℕ) (f : ℕ → Bool) → ((i : ℕ) → i < n → f i ≡ true) → all_below n f ≡ true
unfolding all_below
all_below_all zero f h = refl
all_below_all (suc n) f h = rw (all_below_all n f (λ i l. h i (omega arith)), h n (omega arith))

-- from false: there is one at which it fails
pub all_below_false : (n : ℕ) (f : ℕ → Bool) → all_below n f ≡ false → (i : ℕ) × (i < n) × (f i ≡ false)
unfolding all_below
all_below_false zero f e = absurd (true≢false e)
all_below_false (suc n) f e = go (all_below n f) (f n) refl refl e (all_below_false n f)
  where
    go : (s t : Bool) → all_below n f ≡ s → f n ≡ t → (s && t) ≡ false → (all_below n f ≡ false → (i : ℕ) × (i < n) × (f i ≡ false)) → (i : ℕ) × (i < suc n) × (f i ≡ false)
    go false t p q e ih = let w = ih p in (w.0, omega (arith, w.1), w.2)
    go true false p q e ih = (n, omega arith, q)
    go true true p q e ih = absurd (true≢false e)

-- to false
pub all_below_fails : (n : ℕ) (f : ℕ → Bool) (i : ℕ) → i < n → f i ≡ false → all_below n f ≡ false
all_below_fails n f i l e = go (all_below n f) refl
  where
    go : (t : Bool) → all_below n f ≡ t → t ≡ false
    go true p = absurd (true≢false (sym (all_below_true n f p i l) ∙ e))
    go false p = refl

-- two such questions have one answer where each follows from the other
pub all_below_same : (m n : ℕ) (f g : ℕ → Bool)
    → (((i : ℕ) → i < m → f i ≡ true) → (j : ℕ) → j < n → g j ≡ true)
    → (((j : ℕ) → j < n → g j ≡ true) → (i : ℕ) → i < m → f i ≡ true)
    → all_below m f ≡ all_below n g
all_below_same m n f g to back = go (all_below m f) (all_below n g) refl refl
  where
    go : (s t : Bool) → all_below m f ≡ s → all_below n g ≡ t → s ≡ t
    go true true p q = refl
    go false false p q = refl
    go true false p q = sym (all_below_all n g (to (all_below_true m f p))) ∙ q
    go false true p q = sym p ∙ all_below_all m f (back (all_below_true n g q))

-- it asks only about the numbers below n
pub all_below_ext : (n : ℕ) (f g : ℕ → Bool) → ((i : ℕ) → i < n → f i ≡ g i) → all_below n f ≡ all_below n g
all_below_ext n f g h = all_below_same n n f g (λ p i l. sym (h i l) ∙ p i l) (λ p i l. h i l ∙ p i l)

-- a question about the first n of m
pub all_below_front : (m n : ℕ) (f : ℕ → Bool) → n ≤ m → all_below m (λ j. not (ltb j n && not (f j))) ≡ all_below n f
all_below_front m n f l =
    all_below_same m n (λ j. not (ltb j n && not (f j))) f
    (λ h j k. sym (inside j k) ∙ h j (omega arith))
    (λ h i k. ⊎_elim (λ (q : i < n). inside i q ∙ h i q) (λ (q : n ≤ i). ap (λ (t : Bool). not (t && not (f i))) (le-ltb i n q)) (lt_or_le i n))
  where
    inside : (j : ℕ) → j < n → not (ltb j n && not (f j)) ≡ f j
    inside j k = ap (λ (t : Bool). not (t && not (f j))) (lt-ltb j n k) ∙ not-not (f j)

-- ---- the highest

-- k is the highest number below n at which f holds
pub record IsHighest (f : ℕ → Bool) (n k : ℕ) : Type 0 where
  pub within : k < n
  pub holds : f k ≡ true
  pub above : (j : ℕ) → k < j → j < n → f j ≡ false

-- from a number: it is the highest
pub highest_is : (f : ℕ → Bool) (n k : ℕ) → highest_of f n ≡ Some k → IsHighest f n k
unfolding highest_of
highest_is f zero k e = absurd (let z : ◌≡◌ {A = ℕ} 0 1 = cc in omega arith)
highest_is f (suc n) k e = go (f n) refl e (highest_is f n k)
  where
    go : (t : Bool) → f n ≡ t → cond t (Some n) (highest_of f n) ≡ Some k → (highest_of f n ≡ Some k → IsHighest f n k) → IsHighest f (suc n) k
    go true p e ih =
        let q : n ≡ k = cc in
        record { within = omega arith; holds = ap f (sym q) ∙ p; above = λ j a b. absurd (omega arith) }
    go false p e ih =
        let h = ih e in
        record { within = omega (arith, h.within); holds = h.holds; above = λ j a b. below_suc (λ i. k < i → f i ≡ false) n (λ i l m. h.above i m l) (λ m. p) j b a }

-- to a number
pub highest_at : (f : ℕ → Bool) (n k : ℕ) → IsHighest f n k → highest_of f n ≡ Some k
unfolding highest_of
highest_at f zero k h = absurd (omega (arith, h.within))
highest_at f (suc n) k h =
    ⊎_elim
    (λ (l : k < n). rw (h.above n l (omega arith)) (highest_at f n k (record { within = l; holds = h.holds; above = λ j a b. h.above j a (omega arith) })))
    (λ (l : n ≤ k).
    let e : n ≡ k = omega (arith, h.within) in
    rw (ap f e ∙ h.holds) (ap Some e)) (lt_or_le k n)

-- from nothing: it holds at none
pub highest_nothing : (f : ℕ → Bool) (n : ℕ) → highest_of f n ≡ None → (i : ℕ) → i < n → f i ≡ false
unfolding highest_of
highest_nothing f zero e i l = absurd (omega arith)
highest_nothing f (suc n) e i l = go (f n) refl e (highest_nothing f n) i l
  where
    go : (t : Bool) → f n ≡ t → cond t (Some n) (highest_of f n) ≡ None → (highest_of f n ≡ None → (i : ℕ) → i < n → f i ≡ false) → (i : ℕ) → i < suc n → f i ≡ false
    go true p e ih = absurd (let z : ◌≡◌ {A = ℕ} 0 1 = cc in omega arith)
    go false p e ih = below_suc (λ i. f i ≡ false) n (ih e) p

-- to nothing
pub highest_none : (f : ℕ → Bool) (n : ℕ) → ((i : ℕ) → i < n → f i ≡ false) → highest_of f n ≡ None
unfolding highest_of
highest_none f zero h = refl
highest_none f (suc n) h = rw (h n (omega arith)) (highest_none f n (λ i l. h i (omega arith)))

-- ---- the lowest

-- k is the lowest number at which f holds, and is below n
pub record IsLowest (f : ℕ → Bool) (n k : ℕ) : Type 0 where
  pub within : k < n
  pub holds : f k ≡ true
  pub below : (j : ℕ) → j < k → f j ≡ false

-- to nothing
pub lowest_none : (f : ℕ → Bool) (n : ℕ) → ((i : ℕ) → i < n → f i ≡ false) → lowest_of f n ≡ None
unfolding lowest_of
lowest_none f zero h = refl
lowest_none f (suc n) h = rw (lowest_none f n (λ i l. h i (omega arith)), h n (omega arith))

-- to a number
pub lowest_at : (f : ℕ → Bool) (n k : ℕ) → IsLowest f n k → lowest_of f n ≡ Some k
unfolding lowest_of
lowest_at f zero k h = absurd (omega (arith, h.within))
lowest_at f (suc n) k h =
    ⊎_elim
    (λ (l : k < n). rw (lowest_at f n k (record { within = l; holds = h.holds; below = h.below })))
    (λ (l : n ≤ k).
    let e : n ≡ k = omega (arith, h.within) in
    rw (lowest_none f n (λ i m. h.below i (omega arith)), ap f e ∙ h.holds) (ap Some e)) (lt_or_le k n)

-- from nothing: it holds at none
pub lowest_nothing : (f : ℕ → Bool) (n : ℕ) → lowest_of f n ≡ None → (i : ℕ) → i < n → f i ≡ false
unfolding lowest_of
lowest_nothing f zero e i l = absurd (omega arith)
lowest_nothing f (suc n) e i l = go (lowest_of f n) (f n) refl refl e (lowest_nothing f n) i l
  where
    go : (s : Option ℕ) (t : Bool) → lowest_of f n ≡ s → f n ≡ t → found_or s (cond t (Some n) None) ≡ None → (lowest_of f n ≡ None → (i : ℕ) → i < n → f i ≡ false) → (i : ℕ) → i < suc n → f i ≡ false
    go (Some m) t p q e ih = absurd (let z : ◌≡◌ {A = ℕ} 0 1 = cc in omega arith)
    go None true p q e ih = absurd (let z : ◌≡◌ {A = ℕ} 0 1 = cc in omega arith)
    go None false p q e ih = below_suc (λ i. f i ≡ false) n (ih p) q

-- from a number: it is the lowest
pub lowest_is : (f : ℕ → Bool) (n k : ℕ) → lowest_of f n ≡ Some k → IsLowest f n k
unfolding lowest_of
lowest_is f zero k e = absurd (let z : ◌≡◌ {A = ℕ} 0 1 = cc in omega arith)
lowest_is f (suc n) k e = go (lowest_of f n) (f n) refl refl e (lowest_is f n k)
  where
    go : (s : Option ℕ) (t : Bool) → lowest_of f n ≡ s → f n ≡ t → found_or s (cond t (Some n) None) ≡ Some k → (lowest_of f n ≡ Some k → IsLowest f n k) → IsLowest f (suc n) k
    go (Some m) t p q e ih = let h = ih (p ∙ e) in record { within = omega (arith, h.within); holds = h.holds; below = h.below }
    go None true p q e ih =
        let d : n ≡ k = cc in
        record { within = omega arith; holds = ap f (sym d) ∙ q; below = λ j l. lowest_nothing f n p j (omega arith) }
    go None false p q e ih = absurd (let z : ◌≡◌ {A = ℕ} 0 1 = cc in omega arith)
