-- Four words at a time: an operation on each pair of words is one on each pair of marks, and what a word that is 0 and one that is not say of
-- the marks, from the highest down and from the lowest up; and how many marks there are. Assumes nothing.
use mathlib.Core.Path.{◌≡◌, refl, sym, ap, ◌∙◌}
use mathlib.Core.Bool.{Bool, true, false, not, ◌&&◌, ◌||◌}
use mathlib.Core.Logic.{⊎_elim}
use Prim.Native.Nat.{ℕ, suc, ◌+◌, ◌-◌, ◌*◌, ◌/◌, ◌%◌, ◌^◌, ◌≤◌, ◌<◌}
use native.Mathlib.Omega.{arith}
use borrow.Author.Tests.{not-true}
use lib.ListN.{length, get_or}
use lib.Bits.{bit_and, bit_or, or_lt, and_lt, and_le_l}
use native.Mathlib.Nat.{lt_of_le_of_lt}
use mathlib.Core.List.{List}
use Rattle.std.specs.Str.{bytes_eq}
use Rattle.std.proofs.lemmas.Slice.Eq.{bytes_eq-Decides}
use Rattle.words.specs.Marks.{words_list, bit, marked, words_of, no_marks, all_below, count_below, highest_of, lowest_of}
use Rattle.words.specs.Search.{lt_or_le, IsHighest, IsLowest, highest_at, lowest_at, all_below_true, all_below_all}
use Rattle.words.specs.Counts.{count_zero, count_ext, count_add}
use Rattle.words.specs.Laws.{Fit, by_four, marked_word, marked_zero, marked_none, words_of_is, none_ext}
use Rattle.words.specs.declared.Words.{Words}
use Rattle.std.specs.Prelude.{Some}
use Rattle.words.proofs.Bits.{bit_or_lem, bit_and_lem, bit_not}

-- ---- an operation on each pair of words

-- an operation that does g on each pair of bits, and stays within 64 bits
pub record Bitwise (op : ℕ → ℕ → ℕ) (g : Bool → Bool → Bool) : Type 0 where
  pub fits : (x y : ℕ) → x < 2 ^ 64 → y < 2 ^ 64 → op x y < 2 ^ 64
  pub bits : (x y c : ℕ) → y < 2 ^ 64 → c < 64 → bit (op x y) c ≡ g (bit x c) (bit y c)

pub ors : Bitwise bit_or ◌||◌
ors = record { fits = or_lt 64; bits = λ x y c h l. bit_or_lem x y c }

pub ands : Bitwise bit_and ◌&&◌
ands = record { fits = and_lt 64; bits = λ x y c h l. bit_and_lem x y c }

pub minuses : Bitwise (λ x y. bit_and x (2 ^ 64 - 1 - y)) (λ s t. s && not t)
minuses = record {
  fits = λ x y h k. lt_of_le_of_lt (and_le_l x (2 ^ 64 - 1 - y)) h;
  bits = λ x y c h l. bit_and_lem x (2 ^ 64 - 1 - y) c ∙ ap (λ (t : Bool). bit x c && t) (bit_not 64 y c h l);
}

-- four words that are the operation on each pair have the marks of g on each pair
module _ (op : ℕ → ℕ → ℕ) (g : Bool → Bool → Bool) (o : Bitwise op g) (v w : Words) (p : Fit v) (q : Fit w) (l : List ℕ) (n : length l ≡ 4)
    (each : (k : ℕ) → k < 4 → get_or l k 0 ≡ op (get_or v.words k 0) (get_or w.words k 0)) where
  abbrev pub zipped : Words
  zipped = record { words = l }

  zipped_word : (k : ℕ) → k < 4 → get_or (words_list zipped) k 0 ≡ op (get_or (words_list v) k 0) (get_or (words_list w) k 0)
  zipped_word =
      by_four (λ k. get_or (words_list zipped) k 0 ≡ op (get_or (words_list v) k 0) (get_or (words_list w) k 0))
      (each 0 (omega arith)) (each 1 (omega arith)) (each 2 (omega arith)) (each 3 (omega arith))

  zipped_fit : Fit zipped
  zipped_fit = record { four = n; fits = λ k m. rw (zipped_word k m) (o.fits _ _ (p.fits k m) (q.fits k m)) }

  zipped_bit : (c : ℕ) → c < 64 → (k : ℕ) → k < 4 → bit (get_or (words_list zipped) k 0) c ≡ g (bit (get_or (words_list v) k 0) c) (bit (get_or (words_list w) k 0) c)
  zipped_bit c m k h = rw (zipped_word k h) (o.bits _ _ c (q.fits k h) m)

  pub zip_marks : zipped ≡ words_of (λ j. g (marked v j) (marked w j))
  unfolding marked
  zip_marks = words_of_is zipped (λ j. g (marked v j) (marked w j)) zipped_fit (λ i h. zipped_bit (i % 64) (omega arith) (i / 64) (omega arith))

-- ---- no mark at all

-- the four words are 0 where no mark is set
pub none_marks : (w : Words) → Fit w → bytes_eq w.words no_marks.words ≡ all_below 256 (λ j. not (marked w j))
none_marks w h = go (bytes_eq w.words no_marks.words) (all_below 256 (λ j. not (marked w j))) refl refl
  where
    cleared : bytes_eq w.words no_marks.words ≡ true → w ≡ no_marks
    cleared e = ap (λ (l : List ℕ). record { words = l }) ((bytes_eq-Decides w.words no_marks.words).0 e)

    go : (s t : Bool) → bytes_eq w.words no_marks.words ≡ s → all_below 256 (λ j. not (marked w j)) ≡ t → s ≡ t
    go true true p q = refl
    go false false p q = refl
    go true false p q =
        sym (all_below_all 256 (λ j. not (marked w j)) (λ i l. ap (λ (v : Words). not (marked v i)) (cleared p) ∙ ap not (marked_none i))) ∙ q
    go false true p q =
        let e : w ≡ no_marks = none_ext w h (λ i l. not-true (marked w i) (all_below_true 256 (λ j. not (marked w j)) q i l)) in
        sym p ∙ (bytes_eq-Decides w.words no_marks.words).1 (ap (λ (v : Words). v.words) e)

-- ---- from the highest word down

-- no mark from word k on
abbrev pub ClearFrom : Words → ℕ → Type 0
ClearFrom w k = (j : ℕ) → 64 * k ≤ j → j < 256 → marked w j ≡ false

pub clear_end : (w : Words) → ClearFrom w 4
clear_end w j l h = absurd (omega arith)

pub clear_down : (w : Words) (k : ℕ) → get_or (words_list w) k 0 ≡ 0 → ClearFrom w (suc k) → ClearFrom w k
clear_down w k z r j l h = ⊎_elim (λ (m : j < 64 * k + 64). marked_zero w k j z l m) (λ (m : 64 * k + 64 ≤ j). r j (omega arith) h) (lt_or_le j (64 * k + 64))

-- the highest mark is that of the highest word that has one
pub highest_word : (w : Words) (k t : ℕ) → k < 4 → IsHighest (bit (get_or (words_list w) k 0)) 64 t → ClearFrom w (suc k) → highest_of (marked w) 256 ≡ Some (64 * k + t)
highest_word w k t l h r =
    highest_at (marked w) 256 (64 * k + t) (record { within = omega (arith, h.within); holds = marked_word w k t h.within ∙ h.holds; above = above })
  where
    above : (j : ℕ) → 64 * k + t < j → j < 256 → marked w j ≡ false
    above j m b =
        ⊎_elim
        (λ (n : j < 64 * k + 64).
        let e : j ≡ 64 * k + (j - 64 * k) = omega arith in
        ap (marked w) e ∙ marked_word w k (j - 64 * k) (omega arith) ∙ h.above (j - 64 * k) (omega arith) (omega arith))
        (λ (n : 64 * k + 64 ≤ j). r j (omega arith) b) (lt_or_le j (64 * k + 64))

-- ---- from the lowest word up

-- no mark before word k
abbrev pub ClearTo : Words → ℕ → Type 0
ClearTo w k = (j : ℕ) → j < 64 * k → marked w j ≡ false

pub clear_start : (w : Words) → ClearTo w 0
clear_start w j h = absurd (omega arith)

pub clear_up : (w : Words) (k : ℕ) → get_or (words_list w) k 0 ≡ 0 → ClearTo w k → ClearTo w (suc k)
clear_up w k z r j h = ⊎_elim (λ (m : j < 64 * k). r j m) (λ (m : 64 * k ≤ j). marked_zero w k j z m (omega arith)) (lt_or_le j (64 * k))

-- the lowest mark is that of the lowest word that has one
pub lowest_word : (w : Words) (k t : ℕ) → k < 4 → IsLowest (bit (get_or (words_list w) k 0)) 64 t → ClearTo w k → lowest_of (marked w) 256 ≡ Some (64 * k + t)
lowest_word w k t l h r =
    lowest_at (marked w) 256 (64 * k + t) (record { within = omega (arith, h.within); holds = marked_word w k t h.within ∙ h.holds; below = below })
  where
    below : (j : ℕ) → j < 64 * k + t → marked w j ≡ false
    below j m =
        ⊎_elim (λ (n : j < 64 * k). r j n)
        (λ (n : 64 * k ≤ j).
        let e : j ≡ 64 * k + (j - 64 * k) = omega arith in
        ap (marked w) e ∙ marked_word w k (j - 64 * k) (omega (arith, h.within)) ∙ h.below (j - 64 * k) (omega arith))
        (lt_or_le j (64 * k))

-- ---- how many marks

-- those up to word k, and those of word k
count_word : (w : Words) (k : ℕ) → count_below (64 * k + 64) (marked w) ≡ count_below (64 * k) (marked w) + count_below 64 (bit (get_or (words_list w) k 0))
count_word w k =
    count_add (64 * k) 64 (marked w)
    ∙ ap (λ (n : ℕ). count_below (64 * k) (marked w) + n) (count_ext 64 (λ j. marked w (64 * k + j)) (bit (get_or (words_list w) k 0)) (marked_word w k))

-- the four words' bits are all the marks
pub count_words : (w : Words) → count_below 64 (bit (get_or w.words 0 0)) + count_below 64 (bit (get_or w.words 1 0)) + (count_below 64 (bit (get_or w.words 2 0)) + count_below 64 (bit (get_or w.words 3 0))) ≡ count_below 256 (marked w)
count_words w =
    let a : count_below 64 (marked w) ≡ count_below 0 (marked w) + count_below 64 (bit (get_or w.words 0 0)) = count_word w 0 in
    let b : count_below 128 (marked w) ≡ count_below 64 (marked w) + count_below 64 (bit (get_or w.words 1 0)) = count_word w 1 in
    let c : count_below 192 (marked w) ≡ count_below 128 (marked w) + count_below 64 (bit (get_or w.words 2 0)) = count_word w 2 in
    let d : count_below 256 (marked w) ≡ count_below 192 (marked w) + count_below 64 (bit (get_or w.words 3 0)) = count_word w 3 in
    omega (arith, count_zero (marked w))
