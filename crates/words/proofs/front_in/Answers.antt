-- `words::front_in` meets its contract: of the 64 marks from `from` on, those below n are the lowest n - from, none or all. Assumes nothing.
use Prim.Native.Nat.{ℕ, min, ◌+◌, ◌-◌, ◌*◌, ◌%◌, ◌^◌}
use mathlib.Core.Path.{◌≡◌, sym, ap, ◌∙◌}
use native.Mathlib.Nat.{one-mul}
use native.Mathlib.Omega.{arith}
use borrow.Author.Tests.{lt-ltb, le-ltb}
use lib.Dec.{ltb, lit<}
use lib.Pow.{shl_exact, pow_pos}
use Rattle.words.specs.Marks.{word_from}
use Rattle.words.specs.Sums.{sum_front}
use Rattle.words.proofs.front_in.Goals as goal
use Rattle.words.proofs.front_in.Goals.{Else-k-ge64}

-- the lowest k bits, for the k of the 64 that are below n
front : (n from k : ℕ) → k ≡ min 64 (n - from) → 2 ^ k - 1 ≡ word_from (λ j. ltb j n) from
front n from k e = sym (sum_front 64 k (λ j. ltb (from + j) n) (omega arith) (λ j l. lt-ltb (from + j) n (omega arith)) (λ j l m. le-ltb (from + j) n (omega arith)))

-- the shift is the power
power : (c : Else-k-ge64) → 1 * 2 ^ c.saturating_sub-k.result % 2 ^ 64 ≡ 2 ^ c.saturating_sub-k.result
power c =
    let k = c.saturating_sub-k.result in
    shl_exact 1 k 64 (lit< tt) (omega arith) ∙ one-mul (2 ^ k)

pub returns-then-k-ge64 : goal.returns-then-k-ge64
returns-then-k-ge64 c = front c.args.n c.args.from 64 (omega arith)

pub overflow_sub-result : goal.overflow_sub-result
overflow_sub-result c = rw (power (goal.at.overflow_sub-result c).Else-k-ge64) (pow_pos c.saturating_sub-k.result)

pub returns : goal.returns
returns c =
    let x = c.args in
    ap (λ (p : ℕ). p - 1) (power (goal.at.returns c).Else-k-ge64) ∙ front x.n x.from c.saturating_sub-k.result (omega arith)
