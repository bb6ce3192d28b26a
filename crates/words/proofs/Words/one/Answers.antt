-- `words::Words::one` meets its contract: bit i % 64 of word i / 64 is mark i, and the other words have none. Assumes nothing.
use Prim.Native.Nat.{ℕ, ◌+◌, ◌*◌, ◌/◌, ◌%◌, ◌^◌, ◌<◌}
use mathlib.Core.Path.{◌≡◌, refl, sym, ap, ◌∙◌}
use mathlib.Core.List.{[], ◌∷◌}
use native.Mathlib.Nat.{one-mul}
use native.Mathlib.Omega.{arith}
use borrow.Author.Tests.{eq-eqb, ne_eqb}
use lib.Dec.{eqb, lit<}
use lib.ListN.{set}
use lib.Pow.{shl_exact}
use Rattle.words.specs.Marks.{word_from, words_of}
use Rattle.words.specs.Laws.{by_four}
use Rattle.words.specs.Sums.{sum_front, sum_one}
use Rattle.words.proofs.Words.one.Goals as goal

-- mark i is in word i / 64
in_word : (i k : ℕ) → k ≡ i / 64 → 2 ^ (i % 64) ≡ word_from (λ j. eqb j i) (64 * k)
in_word i k e =
    sym (sum_one 64 (i % 64) (λ j. eqb (64 * k + j) i) (omega arith) (eq-eqb (64 * k + i % 64) i (omega arith)) (λ j l n. ne_eqb (64 * k + j) i (λ p. n (omega arith))))

-- and in no other
no_word : (i k : ℕ) → (k ≡ i / 64 → ⊥) → 0 ≡ word_from (λ j. eqb j i) (64 * k)
no_word i k n =
    sym (sum_front 64 0 (λ j. eqb (64 * k + j) i) (omega arith) (λ j l. absurd (omega arith)) (λ j l m. ne_eqb (64 * k + j) i (λ p. n (omega arith))))

set_word : (i q : ℕ) → q < 4 → q ≡ i / 64 → record { words = set (0 ∷ 0 ∷ 0 ∷ 0 ∷ []) q (2 ^ (i % 64)) } ≡ words_of (λ j. eqb j i)
unfolding words_of
set_word i = by_four (λ q. q ≡ i / 64 → record { words = set (0 ∷ 0 ∷ 0 ∷ 0 ∷ []) q (2 ^ (i % 64)) } ≡ words_of (λ j. eqb j i))
    (λ e j. record { words = in_word i 0 e j ∷ no_word i 1 (λ p. omega arith) j ∷ no_word i 2 (λ p. omega arith) j ∷ no_word i 3 (λ p. omega arith) j ∷ [] })
    (λ e j. record { words = no_word i 0 (λ p. omega arith) j ∷ in_word i 1 e j ∷ no_word i 2 (λ p. omega arith) j ∷ no_word i 3 (λ p. omega arith) j ∷ [] })
    (λ e j. record { words = no_word i 0 (λ p. omega arith) j ∷ no_word i 1 (λ p. omega arith) j ∷ in_word i 2 e j ∷ no_word i 3 (λ p. omega arith) j ∷ [] })
    (λ e j. record { words = no_word i 0 (λ p. omega arith) j ∷ no_word i 1 (λ p. omega arith) j ∷ no_word i 2 (λ p. omega arith) j ∷ in_word i 3 e j ∷ [] })

pub returns : goal.returns
returns c =
    let i = c.args.i in
    ap (λ (x : ℕ). record { words = set (0 ∷ 0 ∷ 0 ∷ 0 ∷ []) (i / 64) x }) (shl_exact 1 (i % 64) 64 (lit< tt) (omega arith) ∙ one-mul (2 ^ (i % 64)))
    ∙ set_word i (i / 64) (omega arith) refl
