-- `words::Words::lowest` meets its contract: the words below the first that is not 0 have no mark, and its lowest set bit is the lowest
-- mark. Assumes nothing.
use Prim.Native.Nat.{ℕ, ◌<◌}
use mathlib.Core.Path.{sym, ◌∙◌, subst}
use native.Mathlib.Numerals.{add-one}
use native.Mathlib.Omega.{arith}
use Rattle.words.specs.Marks.{bit, marked}
use Rattle.words.specs.Search.{IsLowest, lowest_none}
use Rattle.words.specs.Laws.{word_at}
use Rattle.words.proofs.Wordwise.{clear_up, lowest_word}
use Rattle.words.proofs.Words.lowest.Goals as goal

pub returns-then-self-k-ne0 : goal.returns-then-self-k-ne0
returns-then-self-k-ne0 c =
    let w = c.args.self in
    let k = c.loop-k.k in
    let l : k < 4 = omega arith in
    sym (lowest_word w k c.bottom.result l (subst (λ (x : ℕ). IsLowest (bit x) 64 c.bottom.result) (word_at w k l) c.bottom.ensures) c.loop-k.invariant)

pub loop-k-preserved : goal.loop-k-preserved
loop-k-preserved c =
    let w = c.args.self in
    let k = c.loop-k.k in
    rw (add-one k) (clear_up w k (sym (word_at w k (omega arith)) ∙ c.if-self-k-ne0.false) c.loop-k.invariant)

pub returns : goal.returns
returns c = sym (lowest_none (marked c.args.self) 256 (λ j l. c.loop-k.invariant j (omega arith)))
