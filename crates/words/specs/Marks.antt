-- What the four words mean: 256 marks, mark i being bit i % 64 of word i / 64, and what is asked of marks. A set of marks is a predicate
-- on numbers: `marked w` reads the words so, and `words_of f` writes them. The laws are in Search, Counts, Sums and Laws.
use Rattle.std.specs.Prelude.{ℕ, zero, suc, ◌+◌, ◌/◌, ◌%◌, ◌^◌, Bool, true, cond, ◌&&◌, List, [], ◌∷◌, eqb, get_or, Option, Some, None}
use Rattle.words.specs.declared.Words.{Words}

-- the four words, lowest marks first
abbrev pub words_list : Words → List ℕ
words_list w = get_or w.words 0 0 ∷ get_or w.words 1 0 ∷ get_or w.words 2 0 ∷ get_or w.words 3 0 ∷ []

-- whether bit c of a number is set
abbrev pub bit : ℕ → ℕ → Bool
bit x c = eqb (x / 2 ^ c % 2) 1

-- whether mark i is set; no mark is from 256 on
unfoldable pub marked : Words → ℕ → Bool
marked w i = bit (get_or (words_list w) (i / 64) 0) (i % 64)

-- the sum of 2 ^ j over the j below n at which f holds
unfoldable pub sum_below : ℕ → (ℕ → Bool) → ℕ
sum_below zero f = 0
sum_below (suc n) f = cond (f n) (2 ^ n) 0 + sum_below n f

-- the word of a predicate's 64 marks from a place on
abbrev pub word_from : (ℕ → Bool) → ℕ → ℕ
word_from f from = sum_below 64 (λ j. f (from + j))

-- the words whose marks are those of a predicate below 256
unfoldable pub words_of : (ℕ → Bool) → Words
words_of f = record { words = word_from f 0 ∷ word_from f 64 ∷ word_from f 128 ∷ word_from f 192 ∷ [] }

-- no mark
abbrev pub no_marks : Words
no_marks = record { words = 0 ∷ 0 ∷ 0 ∷ 0 ∷ [] }

-- whether a predicate holds at every number below n
unfoldable pub all_below : ℕ → (ℕ → Bool) → Bool
all_below zero f = true
all_below (suc n) f = all_below n f && f n

-- how many numbers below n a predicate holds at
unfoldable pub count_below : ℕ → (ℕ → Bool) → ℕ
count_below zero f = 0
count_below (suc n) f = count_below n f + cond (f n) 1 0

-- the highest number below n at which a predicate holds
unfoldable pub highest_of : (ℕ → Bool) → ℕ → Option ℕ
highest_of f zero = None
highest_of f (suc n) = cond (f n) (Some n) (highest_of f n)

-- the first of two that found something
abbrev pub found_or : Option ℕ → Option ℕ → Option ℕ
found_or None g = g
found_or (Some i) g = Some i

-- the lowest number below n at which a predicate holds
unfoldable pub lowest_of : (ℕ → Bool) → ℕ → Option ℕ
lowest_of f zero = None
lowest_of f (suc n) = found_or (lowest_of f n) (cond (f n) (Some n) None)
