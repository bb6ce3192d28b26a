-- `words::Words::highest` meets its contract: the words above the first that is not 0 have no mark, and its highest set bit is the highest
-- mark. Assumes nothing.
use Prim.Native.Nat.{ℕ, suc, ◌-◌, ◌<◌}
use mathlib.Core.Path.{◌≡◌, sym, ◌∙◌, subst}
use native.Mathlib.Omega.{arith}
use Rattle.words.specs.Marks.{bit, marked}
use Rattle.words.specs.Search.{IsHighest, highest_none}
use Rattle.words.specs.Laws.{word_at}
use Rattle.words.proofs.Wordwise.{ClearFrom, clear_down, highest_word}
use Rattle.words.proofs.Words.highest.Goals as goal

pub returns-then-self-k-ne0 : goal.returns-then-self-k-ne0
returns-then-self-k-ne0 c =
    let w = c.args.self in
    let k = c.loop-k.k - 1 in
    let l : k < 4 = omega arith in
    let e : c.loop-k.k ≡ suc k = omega arith in
    sym (highest_word w k c.top.result l (subst (λ (x : ℕ). IsHighest (bit x) 64 c.top.result) (word_at w k l) c.top.ensures) (subst (ClearFrom w) e c.loop-k.invariant))

pub loop-k-preserved : goal.loop-k-preserved
loop-k-preserved c =
    let w = c.args.self in
    let k = c.loop-k.k - 1 in
    let e : c.loop-k.k ≡ suc k = omega arith in
    clear_down w k (sym (word_at w k (omega arith)) ∙ c.if-self-k-ne0.false) (subst (ClearFrom w) e c.loop-k.invariant)

pub returns : goal.returns
returns c = sym (highest_none (marked c.args.self) 256 (λ j l. c.loop-k.invariant j (omega arith) l))
