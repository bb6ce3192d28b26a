-- The held lengths, slot by slot and word by word: a held slot adds its length, one that isn't held adds nothing. Assumes nothing.
use mathlib.Core.Path.{◌≡◌, refl, sym, ap, ap₂, ◌∙◌}
use mathlib.Core.Bool.{Bool, true, false, not, ◌&&◌, ◌||◌, or-false}
use mathlib.Core.List.{List}
use Prim.Native.Nat.{ℕ, zero, suc, ◌+◌, ◌*◌, ◌≤◌, ◌<◌}
use native.Mathlib.Nat.{add-zero, add-suc, add_assoc}
use native.Mathlib.Numerals.{add-one}
use native.Mathlib.Omega.{arith}
use borrow.Author.Tests.{leb-true, leb-false, lt-ltb, le-ltb}
use lib.Dec.{leb, ltb}
use Rattle.words.specs.Marks.{bit, all_below}
use Rattle.words.specs.Search.{all_below_ext}
use Rattle.words.specs.Sums.{bit_sum, sum_front}
use Rattle.words.specs.declared.Words.{Words}
use Rattle.receiver.specs.Record.{held_length, sum_to}
use Rattle.receiver.specs.Steps.{Added, Upto, more}
use Rattle.receiver.specs.declared.faults.HeldLengths.{HeldLengths}

-- ---- sums and questions, one more and in two parts

sum_suc : (n : ℕ) (f : ℕ → ℕ) → sum_to (suc n) f ≡ sum_to n f + f n
unfolding sum_to
sum_suc n f = refl

sum_ext : (n : ℕ) (f g : ℕ → ℕ) → ((t : ℕ) → t < n → f t ≡ g t) → sum_to n f ≡ sum_to n g
unfolding sum_to
sum_ext zero f g h = refl
sum_ext (suc n) f g h = ap₂ (λ (a b : ℕ). a + b) (sum_ext n f g (λ t l. h t (omega arith))) (h n (omega arith))

sum_append : (m n : ℕ) (f : ℕ → ℕ) → sum_to (m + n) f ≡ sum_to m f + sum_to n (λ j. f (m + j))
unfolding sum_to
sum_append m zero f = ap (λ (k : ℕ). sum_to k f) (add-zero m) ∙ sym (add-zero (sum_to m f))
sum_append m (suc n) f =
    ap (λ (k : ℕ). sum_to k f) (add-suc m n) ∙ ap (λ (k : ℕ). k + f (m + n)) (sum_append m n f) ∙ add_assoc (sum_to m f) (sum_to n (λ j. f (m + j))) (f (m + n))

-- a sum of numbers that are at most b each
pub sum_bound : (n b : ℕ) (f : ℕ → ℕ) → ((t : ℕ) → t < n → f t ≤ b) → sum_to n f ≤ b * n
unfolding sum_to
sum_bound zero b f h = omega arith
sum_bound (suc n) b f h = omega (arith, h n (omega arith), sum_bound n b f (λ t l. h t (omega arith)))

all_suc : (n : ℕ) (g : ℕ → Bool) → all_below (suc n) g ≡ (all_below n g && g n)
unfolding all_below
all_suc n g = refl

and_true_right : (a b c : Bool) → (a && b && c) ≡ (a && (b && c))
and_true_right true b c = refl
and_true_right false b c = refl

all_append : (m n : ℕ) (g : ℕ → Bool) → all_below (m + n) g ≡ (all_below m g && all_below n (λ j. g (m + j)))
unfolding all_below
all_append m zero g = ap (λ (k : ℕ). all_below k g) (add-zero m) ∙ sym (right (all_below m g))
  where
    right : (b : Bool) → (b && true) ≡ b
    right true = refl
    right false = refl
all_append m (suc n) g =
    ap (λ (k : ℕ). all_below k g) (add-suc m n) ∙ ap (λ (b : Bool). b && g (m + n)) (all_append m n g)
    ∙ and_true_right (all_below m g) (all_below n (λ j. g (m + j))) (g (m + n))

-- past 255 is not at most 255
past_not : (n : ℕ) → ltb 255 n ≡ not (leb n 255)
past_not n = go (leb n 255) refl
  where
    go : (t : Bool) → leb n 255 ≡ t → ltb 255 n ≡ not t
    go true e = le-ltb 255 n (leb-true n 255 e)
    go false e = lt-ltb 255 n (leb-false n 255 e)

not_both : (a b : Bool) → (not a || not b) ≡ not (a && b)
not_both true b = refl
not_both false b = refl

or_right : (a b c : Bool) → (a || b || c) ≡ (a || (b || c))
or_right true b c = refl
or_right false b c = refl

-- ---- n numbers more

pub added_none : (f : ℕ → ℕ) (x : HeldLengths) → Added f 0 x x
unfolding sum_to all_below
added_none f x = record { sum_is = sym (add-zero x.sum); over_is = sym (or-false x.over); small = omega arith }

pub added_more : (f : ℕ → ℕ) (n m : ℕ) (x y : HeldLengths) → m ≡ f n → m ≤ 65535 → Added f n x y → Added f (n + 1) x (more y m)
added_more f n m x y e l u =
    rw add-one (record {
      sum_is = ap₂ (λ (a b : ℕ). a + b) u.sum_is e ∙ add_assoc x.sum (sum_to n f) (f n) ∙ ap (λ (k : ℕ). x.sum + k) (sym (sum_suc n f));
      over_is = ap₂ {C = Bool} (λ (a b : Bool). a || b) u.over_is (past_not m ∙ ap (λ (k : ℕ). not (leb k 255)) e)
          ∙ or_right x.over (not (all_below n (λ t. leb (f t) 255))) (not (leb (f n) 255))
          ∙ ap (λ (b : Bool). x.over || b) (not_both (all_below n (λ t. leb (f t) 255)) (leb (f n) 255) ∙ ap not (sym (all_suc n (λ t. leb (f t) 255))));
      small = omega (arith, u.small);
    })

-- every bit of the highest word is set
pub all_set : (j : ℕ) → j < 64 → bit 18446744073709551615 j ≡ true
all_set j l =
    ap (λ (w : ℕ). bit w j) (sym (sum_front 64 64 (λ _. true) (omega arith) (λ _ _. refl) (λ j p q. absurd (omega arith)))) ∙ bit_sum 64 (λ _. true) j l

-- ---- the slots up to one

module _ (held : Words) (lengths : List ℕ) where
  -- nothing is scanned yet
  pub upto_none : Upto held lengths 0 (record { sum = 0; over = false })
  unfolding sum_to all_below
  upto_none = record { sum_is = refl; over_is = refl; small = omega arith }

  -- n slots more
  pub upto_added : (f : ℕ → ℕ) (m n : ℕ) (x y : HeldLengths) → ((j : ℕ) → j < n → f j ≡ held_length held lengths (m + j)) → Upto held lengths m x → Added f n x y → Upto held lengths (m + n) y
  upto_added f m n x y h u a =
      let g = held_length held lengths in
      record {
        sum_is = a.sum_is ∙ ap₂ (λ (p q : ℕ). p + q) u.sum_is (sum_ext n f (λ j. g (m + j)) h) ∙ sym (sum_append m n g);
        over_is = a.over_is
            ∙ ap₂ {C = Bool} (λ (p q : Bool). p || not q) u.over_is (all_below_ext n (λ t. leb (f t) 255) (λ j. leb (g (m + j)) 255) (λ j l. ap (λ (k : ℕ). leb k 255) (h j l)))
            ∙ not_both (all_below m (λ t. leb (g t) 255)) (all_below n (λ j. leb (g (m + j)) 255)) ∙ ap not (sym (all_append m n (λ t. leb (g t) 255)));
        small = omega (arith, a.small, u.small);
      }

  -- n slots more that aren't held
  pub upto_run : (m n : ℕ) (x : HeldLengths) → ((j : ℕ) → j < n → held_length held lengths (m + j) ≡ 0) → Upto held lengths m x → Upto held lengths (m + n) x
  upto_run m n x h u = upto_added (λ _. 0) m n x x (λ j l. sym (h j l)) u (zeros n)
    where
      zeros : (n : ℕ) → Added (λ _. 0) n x x
      zeros zero = added_none (λ _. 0) x
      zeros (suc n) =
          let w : Added (λ _. 0) (suc n) x (more x 0) = rw (sym (add-one n)) (added_more (λ _. 0) n 0 x x refl (omega arith) (zeros n)) in
          record { sum_is = sym (add-zero x.sum) ∙ w.sum_is; over_is = sym (or-false x.over) ∙ w.over_is; small = omega arith }
