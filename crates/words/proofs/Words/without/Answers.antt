-- `words::Words::without` meets its contract: the marks of `one` are read as they were written. Assumes nothing.
use Prim.Native.Nat.{ℕ}
use mathlib.Core.Path.{◌∙◌}
use mathlib.Core.Bool.{Bool, not, ◌&&◌, and_comm}
use lib.Dec.{eqb}
use Rattle.words.specs.Marks.{marked}
use Rattle.words.specs.Laws.{words_of_read, words_of_ext}
use Rattle.words.proofs.Words.without.Goals as goal

pub returns : goal.returns
returns c =
    let x = c.args in
    c.minus.ensures ∙ words_of_read c.one.result (λ j. eqb j x.i) c.one.ensures (λ (j : ℕ) (t : Bool). marked x.self j && not t)
    ∙ words_of_ext (λ j. marked x.self j && not (eqb j x.i)) (λ j. not (eqb j x.i) && marked x.self j) (λ j l. and_comm (marked x.self j) (not (eqb j x.i)))
