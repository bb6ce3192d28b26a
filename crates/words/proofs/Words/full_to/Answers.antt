-- `words::Words::full_to` meets its contract: no mark up to e is missing just where all of them are set, the marks of each step being read
-- as they were written. Assumes nothing.
use Prim.Native.Nat.{ℕ, ◌+◌}
use mathlib.Core.Path.{ap, ◌∙◌}
use mathlib.Core.Bool.{Bool, not, ◌&&◌}
use native.Mathlib.Numerals.{add-one}
use native.Mathlib.Omega.{arith}
use lib.Dec.{ltb}
use Rattle.words.specs.Marks.{marked, all_below}
use Rattle.words.specs.Search.{all_below_front}
use Rattle.words.specs.Laws.{all_below_read}
use Rattle.words.proofs.Words.full_to.Goals as goal

pub returns : goal.returns
returns c =
    let x = c.args in
    let b = c.below in
    let m = c.minus in
    c.is_none.ensures ∙ all_below_read m.result (λ j. marked b.result j && not (marked x.self j)) m.ensures (λ (j : ℕ) (t : Bool). not t)
    ∙ all_below_read b.result (λ j. ltb j (x.e + 1)) b.ensures (λ (j : ℕ) (t : Bool). not (t && not (marked x.self j)))
    ∙ all_below_front 256 (x.e + 1) (marked x.self) (omega arith) ∙ ap (λ (n : ℕ). all_below n (marked x.self)) (add-one x.e)
