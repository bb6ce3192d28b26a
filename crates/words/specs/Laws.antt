-- Laws of marks: words written from a predicate have its marks, words that fit are told by their marks, and how the marks of a word lie.
-- Assumes nothing.
use Rattle.std.specs.Prelude.{◌≡◌, refl, Bool, false, ℕ, zero, suc, ◌+◌, ◌*◌, ◌/◌, ◌%◌, ◌^◌, ◌≤◌, ◌<◌, length, get_or, List, [], ◌∷◌}
use Rattle.std.proofs.Common.{sym, ap, ◌∙◌, ⊎_elim, mod-eq_of_lt, arith, lit<}
use Rattle.std.proofs.Math.ListN.{get_or-eq_default}
use Rattle.words.specs.Marks.{words_list, bit, marked, word_from, words_of, no_marks, all_below}
use Rattle.words.specs.Search.{lt_or_le, all_below_ext}
use Rattle.words.specs.Sums.{bit_past, sum_lt, sum_ext, sum_bits, bit_sum}
use Rattle.words.specs.declared.Words.{Words}

-- four words of 64 bits
pub record Fit (w : Words) : Type 0 where
  pub four : length w.words ≡ 4
  pub fits : (k : ℕ) → k < 4 → get_or (words_list w) k 0 < 2 ^ 64

-- a list of four is its elements
pub list_of_four : (l : List ℕ) → length l ≡ 4 → l ≡ get_or l 0 0 ∷ get_or l 1 0 ∷ get_or l 2 0 ∷ get_or l 3 0 ∷ []
list_of_four [] h = absurd (omega arith)
list_of_four (a ∷ []) h = absurd (omega arith)
list_of_four (a ∷ b ∷ []) h = absurd (omega arith)
list_of_four (a ∷ b ∷ c ∷ []) h = absurd (omega arith)
list_of_four (a ∷ b ∷ c ∷ d ∷ []) h = refl
list_of_four (a ∷ b ∷ c ∷ d ∷ e ∷ l) h = absurd (omega arith)

-- what holds at 0, 1, 2 and 3 holds below 4
pub by_four : (P : ℕ → Type 0) → P 0 → P 1 → P 2 → P 3 → (k : ℕ) → k < 4 → P k
by_four P p q r s zero h = p
by_four P p q r s (suc zero) h = q
by_four P p q r s (suc (suc zero)) h = r
by_four P p q r s (suc (suc (suc zero))) h = s
by_four P p q r s (suc (suc (suc (suc k)))) h = absurd (omega arith)

-- word k
pub word_at : (w : Words) (k : ℕ) → k < 4 → get_or w.words k 0 ≡ get_or (words_list w) k 0
word_at w = by_four (λ k. get_or w.words k 0 ≡ get_or (words_list w) k 0) refl refl refl refl

-- a number's place: bit i % 64 of word i / 64
place : (i : ℕ) → 64 * (i / 64) + i % 64 ≡ i
place i = omega arith

-- ---- where the marks of a word lie

-- mark 64 k + c is bit c of word k
pub marked_word : (w : Words) (k c : ℕ) → c < 64 → marked w (64 * k + c) ≡ bit (get_or (words_list w) k 0) c
unfolding marked
marked_word w k c h =
    let q : (64 * k + c) / 64 ≡ k = omega arith in
    let r : (64 * k + c) % 64 ≡ c = omega arith in
    rw (q, r)

-- no mark is from 256 on
pub marked_past : (w : Words) (i : ℕ) → 256 ≤ i → marked w i ≡ false
unfolding marked
marked_past w i h =
    ap (λ (x : ℕ). bit x (i % 64)) (get_or-eq_default (words_list w) 0 {n = i / 64} (omega arith)) ∙ bit_past 0 0 (i % 64) (lit< tt) (omega arith)

-- a word that is 0 has no mark
pub marked_zero : (w : Words) (k i : ℕ) → get_or (words_list w) k 0 ≡ 0 → 64 * k ≤ i → i < 64 * k + 64 → marked w i ≡ false
unfolding marked
marked_zero w k i z l h =
    let e : i / 64 ≡ k = omega arith in
    ap (λ (m : ℕ). bit (get_or (words_list w) m 0) (i % 64)) e ∙ ap (λ (x : ℕ). bit x (i % 64)) z ∙ bit_past 0 0 (i % 64) (lit< tt) (omega arith)

-- no marks
pub marked_none : (i : ℕ) → marked no_marks i ≡ false
marked_none i =
    ⊎_elim
    (λ (h : i < 256). marked_zero no_marks (i / 64) i (by_four (λ k. get_or (words_list no_marks) k 0 ≡ 0) refl refl refl refl (i / 64) (omega arith)) (omega arith) (omega arith))
    (λ (h : 256 ≤ i). marked_past no_marks i h) (lt_or_le i 256)

-- ---- words from a predicate

-- word k
pub words_of_word : (f : ℕ → Bool) (k : ℕ) → k < 4 → get_or (words_list (words_of f)) k 0 ≡ word_from f (64 * k)
unfolding words_of
words_of_word f k h = by_four (λ k. get_or (words_list (words_of f)) k 0 ≡ word_from f (64 * k)) refl refl refl refl k h

-- each fits
pub words_of_fit : (f : ℕ → Bool) → Fit (words_of f)
unfolding words_of
words_of_fit f = record {
  four = refl;
  fits = by_four (λ k. get_or (words_list (words_of f)) k 0 < 2 ^ 64) (sum_lt 64 _) (sum_lt 64 _) (sum_lt 64 _) (sum_lt 64 _);
}

-- their marks are the predicate's
pub marked_words_of : (f : ℕ → Bool) (i : ℕ) → i < 256 → marked (words_of f) i ≡ f i
unfolding marked
marked_words_of f i h =
    ap (λ (x : ℕ). bit x (i % 64)) (words_of_word f (i / 64) (omega arith)) ∙ bit_sum 64 (λ j. f (64 * (i / 64) + j)) (i % 64) (omega arith) ∙ ap f (place i)

-- only what the predicate says below 256 counts
pub words_of_ext : (f g : ℕ → Bool) → ((i : ℕ) → i < 256 → f i ≡ g i) → words_of f ≡ words_of g
unfolding words_of
words_of_ext f g h =
    λ i. record { words = part 0 (omega arith) i ∷ part 64 (omega arith) i ∷ part 128 (omega arith) i ∷ part 192 (omega arith) i ∷ [] }
  where
    part : (from : ℕ) → from ≤ 192 → word_from f from ≡ word_from g from
    part from l = sum_ext 64 (λ j. f (from + j)) (λ j. g (from + j)) (λ j m. h (from + j) (omega arith))

-- words that fit are those of their marks
pub words_of_marked : (w : Words) → Fit w → words_of (marked w) ≡ w
unfolding words_of
words_of_marked w h =
    (λ i. record { words = part 0 (h.fits 0 (omega arith)) i ∷ part 1 (h.fits 1 (omega arith)) i ∷ part 2 (h.fits 2 (omega arith)) i ∷ part 3 (h.fits 3 (omega arith)) i ∷ [] })
    ∙ ap (λ (l : List ℕ). record { words = l }) (sym (list_of_four w.words h.four))
  where
    part : (k : ℕ) → get_or (words_list w) k 0 < 2 ^ 64 → word_from (marked w) (64 * k) ≡ get_or (words_list w) k 0
    part k l = sum_ext 64 (λ j. marked w (64 * k + j)) (bit (get_or (words_list w) k 0)) (marked_word w k) ∙ sum_bits 64 (get_or (words_list w) k 0) ∙ mod-eq_of_lt l

-- words that have a predicate's marks are its words
pub words_of_is : (w : Words) (f : ℕ → Bool) → Fit w → ((i : ℕ) → i < 256 → marked w i ≡ f i) → w ≡ words_of f
words_of_is w f h e = sym (words_of_marked w h) ∙ words_of_ext (marked w) f e

-- words with the same marks are the same
pub words_ext : (v w : Words) → Fit v → Fit w → ((i : ℕ) → i < 256 → marked v i ≡ marked w i) → v ≡ w
words_ext v w p q e = words_of_is v (marked w) p e ∙ words_of_marked w q

no_marks_fit : Fit no_marks
no_marks_fit = record { four = refl; fits = by_four (λ k. get_or (words_list no_marks) k 0 < 2 ^ 64) (lit< tt) (lit< tt) (lit< tt) (lit< tt) }

-- words without a mark are those of no mark
pub none_ext : (w : Words) → Fit w → ((i : ℕ) → i < 256 → marked w i ≡ false) → w ≡ no_marks
none_ext w h e = words_ext w no_marks h no_marks_fit (λ i l. e i l ∙ sym (marked_none i))

-- ---- marks that were written are the marks that are read

-- one mark
pub marked_as : (v : Words) (f : ℕ → Bool) → v ≡ words_of f → (i : ℕ) → i < 256 → marked v i ≡ f i
marked_as v f e i h = ap (λ (w : Words). marked w i) e ∙ marked_words_of f i h

-- in words made of them
pub words_of_read : (v : Words) (f : ℕ → Bool) → v ≡ words_of f → (g : ℕ → Bool → Bool) → words_of (λ j. g j (marked v j)) ≡ words_of (λ j. g j (f j))
words_of_read v f e g = words_of_ext (λ j. g j (marked v j)) (λ j. g j (f j)) (λ i h. ap (g i) (marked_as v f e i h))

-- and in a question about all of them
pub all_below_read : (v : Words) (f : ℕ → Bool) → v ≡ words_of f → (g : ℕ → Bool → Bool) → all_below 256 (λ j. g j (marked v j)) ≡ all_below 256 (λ j. g j (f j))
all_below_read v f e g = all_below_ext 256 (λ j. g j (marked v j)) (λ j. g j (f j)) (λ i h. ap (g i) (marked_as v f e i h))
