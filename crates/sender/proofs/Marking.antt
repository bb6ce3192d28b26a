-- Words made from words, mark by mark: what each operation makes of words whose marks are known, and what is asked of the first n marks.
-- Assumes nothing.
use Prim.Native.Nat.{ℕ, ◌≤◌, ◌<◌}
use mathlib.Core.Path.{◌≡◌, refl, sym, ap, ap₂, ◌∙◌}
use mathlib.Core.Bool.{Bool, true, false, cond, not, ◌&&◌, ◌||◌, and-false}
use mathlib.Core.Logic.{⊎_elim}
use native.Mathlib.Omega.{arith}
use borrow.Author.Tests.{lt-ltb, le-ltb, le-leb, lt-leb}
use lib.Dec.{leb, ltb}
use Rattle.words.specs.Marks.{marked, words_of, all_below, lowest_of}
use Rattle.words.specs.Search.{lt_or_le, all_below_same, lowest_nothing, lowest_none, lowest_is, lowest_at}
use Rattle.words.specs.Laws.{marked_as, words_of_ext, all_below_read}
use Rattle.words.specs.declared.Words.{Words}
use Rattle.std.specs.Prelude.{Option, Some, None}
use Rattle.response.specs.Responses.{is_received}
use Rattle.sender.specs.Steps.{retry_by}

-- ---- words whose marks are known

abbrev pub Has : Words → (ℕ → Bool) → Type 0
Has w f = (i : ℕ) → i < 256 → marked w i ≡ f i

pub own : (w : Words) → Has w (marked w)
own w i h = refl

pub made : (w : Words) (f : ℕ → Bool) → w ≡ words_of f → Has w f
made w f e = marked_as w f e

-- an operation on two
pub combine : (op : Bool → Bool → Bool) (v w r : Words) (f g : ℕ → Bool) → Has v f → Has w g → r ≡ words_of (λ j. op (marked v j) (marked w j)) → r ≡ words_of (λ j. op (f j) (g j))
combine op v w r f g a b e =
    e ∙ words_of_ext (λ j. op (marked v j) (marked w j)) (λ j. op (f j) (g j)) (λ i h. ap₂ op (a i h) (b i h))

-- one with a number
pub change : (op : ℕ → Bool → Bool) (v r : Words) (f : ℕ → Bool) → Has v f → r ≡ words_of (λ j. op j (marked v j)) → r ≡ words_of (λ j. op j (f j))
change op v r f a e = e ∙ words_of_ext (λ j. op j (marked v j)) (λ j. op j (f j)) (λ i h. ap (op i) (a i h))

-- ---- questions about the first n

-- no mark of the first n
pub none_first : (n : ℕ) (v : Words) (f : ℕ → Bool) → n ≤ 256 → v ≡ words_of (λ j. ltb j n && f j) → all_below 256 (λ j. not (marked v j)) ≡ all_below n (λ j. not (f j))
none_first n v f l e =
    all_below_read v (λ j. ltb j n && f j) e (λ (j : ℕ) (t : Bool). not t)
    ∙ all_below_same 256 n (λ j. not (ltb j n && f j)) (λ j. not (f j))
    (λ h j k. sym (inside j k) ∙ h j (omega arith))
    (λ h i k. ⊎_elim (λ (q : i < n). inside i q ∙ h i q) (λ (q : n ≤ i). ap (λ (t : Bool). not (t && f i)) (le-ltb i n q)) (lt_or_le i n))
  where
    inside : (j : ℕ) → j < n → not (ltb j n && f j) ≡ not (f j)
    inside j k = ap (λ (t : Bool). not (t && f j)) (lt-ltb j n k)

-- the lowest of the first n
pub lowest_first : (n : ℕ) (v : Words) (f : ℕ → Bool) → n ≤ 256 → v ≡ words_of (λ j. ltb j n && f j) → lowest_of (marked v) 256 ≡ lowest_of f n
lowest_first n v f l e = go (lowest_of f n) refl
  where
    marks : (i : ℕ) → i < 256 → marked v i ≡ (ltb i n && f i)
    marks = marked_as v (λ j. ltb j n && f j) e

    clear : (i : ℕ) → i < 256 → (i < n → f i ≡ false) → marked v i ≡ false
    clear i h z =
        marks i h
        ∙ ⊎_elim (λ (q : i < n). ap (λ (t : Bool). ltb i n && t) (z q) ∙ and-false (ltb i n)) (λ (q : n ≤ i). ap (λ (t : Bool). t && f i) (le-ltb i n q)) (lt_or_le i n)

    go : (r : Option ℕ) → lowest_of f n ≡ r → lowest_of (marked v) 256 ≡ r
    go None q = lowest_none (marked v) 256 (λ i h. clear i h (λ k. lowest_nothing f n q i k))
    go (Some k) q =
        let z = lowest_is f n k q in
        lowest_at (marked v) 256 k
        (record {
          within = omega (arith, z.within);
          holds = marks k (omega (arith, z.within)) ∙ ap (λ (t : Bool). t && f k) (lt-ltb k n z.within) ∙ z.holds;
          below = λ j h. clear j (omega (arith, z.within)) (λ m. z.below j h);
        })

-- ---- tests

pub not_below : (a b : ℕ) → not (ltb a b) ≡ leb b a
not_below a b = ⊎_elim (λ (q : a < b). rw (lt-ltb a b q, lt-leb b a q)) (λ (q : b ≤ a). rw (le-ltb a b q, le-leb b a q)) (lt_or_le a b)

pub and_swap : (a b c : Bool) → (a && (b && c)) ≡ (b && (a && c))
and_swap true b c = refl
and_swap false true c = refl
and_swap false false c = refl

pub not_and : (a b : Bool) → not (not a && b) ≡ (a || not b)
not_and true b = refl
not_and false b = refl

-- what a map's word makes of a mark: k, the segment was submitted; b and r, it has an entry, and the entry is set; o, the mark as it was
pub told_timeout : (k b r o : Bool) → (o && not (k && (b && r)) || k && not (b && r)) ≡ cond k (retry_by (cond b (cond r (Some true) (Some false)) None) true o) o
told_timeout true true true true = refl
told_timeout true true true false = refl
told_timeout true true false true = refl
told_timeout true true false false = refl
told_timeout true false r true = refl
told_timeout true false r false = refl
told_timeout false b r true = refl
told_timeout false b r false = refl

pub told : (k b r o : Bool) → (o && not (k && (b && r)) || k && (b && not r)) ≡ cond k (retry_by (cond b (cond r (Some true) (Some false)) None) false o) o
told true true true true = refl
told true true true false = refl
told true true false true = refl
told true true false false = refl
told true false r true = refl
told true false r false = refl
told false b r true = refl
told false b r false = refl

pub received_is : (b r : Bool) → (b && r) ≡ is_received (cond b (cond r (Some true) (Some false)) None)
received_is true true = refl
received_is true false = refl
received_is false r = refl
