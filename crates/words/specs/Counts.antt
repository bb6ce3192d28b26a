-- Laws of how many numbers below n a predicate holds at, and of the lowest where only the first n of m count. Assumes nothing.
use Rattle.std.specs.Prelude.{◌≡◌, refl, Bool, true, false, cond, not, ℕ, zero, suc, ◌+◌, ◌-◌, ◌≤◌, ◌<◌, Option, Some, None}
use Rattle.std.proofs.Common.{ap, ◌∙◌, ⊎_elim, add-zero, add-suc, add_assoc, arith}
use Rattle.words.specs.Marks.{count_below, lowest_of}
use Rattle.words.specs.Search.{lt_or_le, lowest_is, lowest_at, lowest_none, lowest_nothing}

-- ---- how many

-- below 0 at none
pub count_zero : (f : ℕ → Bool) → count_below 0 f ≡ 0
unfolding count_below
count_zero f = refl

-- at most at all of them
pub count_le : (n : ℕ) (f : ℕ → Bool) → count_below n f ≤ n
unfolding count_below
count_le zero f = omega arith
count_le (suc n) f = go (f n) (count_le n f)
  where
    go : (t : Bool) → count_below n f ≤ n → count_below n f + cond t 1 0 ≤ suc n
    go true h = omega arith
    go false h = omega arith

-- it asks only about the numbers below n
pub count_ext : (n : ℕ) (f g : ℕ → Bool) → ((i : ℕ) → i < n → f i ≡ g i) → count_below n f ≡ count_below n g
unfolding count_below
count_ext zero f g h = refl
count_ext (suc n) f g h = rw (h n (omega arith), count_ext n f g (λ j l. h j (omega arith)))

-- counted in two goes
pub count_add : (a b : ℕ) (f : ℕ → Bool) → count_below (a + b) f ≡ count_below a f + count_below b (λ j. f (a + j))
unfolding count_below
count_add a zero f = rw (add-zero, add-zero)
count_add a (suc b) f =
    ap (λ (n : ℕ). count_below n f) (add-suc a b) ∙ ap (λ (n : ℕ). n + cond (f (a + b)) 1 0) (count_add a b f)
    ∙ add_assoc (count_below a f) (count_below b (λ j. f (a + j))) (cond (f (a + b)) 1 0)

-- where it holds and where it does not, all of them
pub count_not : (n : ℕ) (f : ℕ → Bool) → count_below n f + count_below n (λ j. not (f j)) ≡ n
unfolding count_below
count_not zero f = refl
count_not (suc n) f = go (f n) (count_not n f)
  where
    go : (t : Bool) → count_below n f + count_below n (λ j. not (f j)) ≡ n → count_below n f + cond t 1 0 + (count_below n (λ j. not (f j)) + cond (not t) 1 0) ≡ suc n
    go true h = omega arith
    go false h = omega arith

-- it holds nowhere: the count is 0
pub count_none : (n : ℕ) (f : ℕ → Bool) → ((i : ℕ) → i < n → f i ≡ false) → count_below n f ≡ 0
unfolding count_below
count_none zero f h = refl
count_none (suc n) f h = rw (h n (omega arith), count_none n f (λ j l. h j (omega arith)))

-- the count is 0: it holds nowhere
pub count_nothing : (n : ℕ) (f : ℕ → Bool) → count_below n f ≡ 0 → (i : ℕ) → i < n → f i ≡ false
unfolding count_below
count_nothing zero f e i l = absurd (omega arith)
count_nothing (suc n) f e i l = go (f n) refl e (count_nothing n f)
  where
    go : (t : Bool) → f n ≡ t → count_below n f + cond t 1 0 ≡ 0 → (count_below n f ≡ 0 → (i : ℕ) → i < n → f i ≡ false) → f i ≡ false
    go true p e ih = absurd (omega arith)
    go false p e ih =
        ⊎_elim (λ (h : i < n). ih (omega arith) i h)
        (λ (h : n ≤ i).
        let d : i ≡ n = omega arith in
        ap f d ∙ p) (lt_or_le i n)

-- a predicate that holds only below n, counted further
pub count_front : (m n : ℕ) (f : ℕ → Bool) → n ≤ m → ((i : ℕ) → n ≤ i → f i ≡ false) → count_below m f ≡ count_below n f
count_front m n f l h =
    let e : m ≡ n + (m - n) = omega arith in
    ap (λ (k : ℕ). count_below k f) e ∙ count_add n (m - n) f
    ∙ ap (λ (k : ℕ). count_below n f + k) (count_none (m - n) (λ j. f (n + j)) (λ i q. h (n + i) (omega arith))) ∙ add-zero (count_below n f)

-- ---- the lowest

-- of a predicate that holds only below n, the lowest below any m from n on
pub lowest_front : (m n : ℕ) (f g : ℕ → Bool) → n ≤ m → ((i : ℕ) → i < m → f i ≡ g i) → ((i : ℕ) → n ≤ i → g i ≡ false) → lowest_of f m ≡ lowest_of g n
lowest_front m n f g l e h = go (lowest_of g n) refl
  where
    go : (s : Option ℕ) → lowest_of g n ≡ s → lowest_of f m ≡ s
    go None p =
        lowest_none f m (λ i q. e i q ∙ ⊎_elim (λ (k : i < n). lowest_nothing g n p i k) (λ (k : n ≤ i). h i k) (lt_or_le i n))
    go (Some k) p =
        let w = lowest_is g n k p in
        let b : k < n = w.within in
        lowest_at f m k (record { within = omega arith; holds = e k (omega arith) ∙ w.holds; below = λ j q. e j (omega arith) ∙ w.below j q })
