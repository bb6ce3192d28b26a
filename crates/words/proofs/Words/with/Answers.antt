-- `words::Words::with` meets its contract: the marks of `one` are read as they were written. Assumes nothing.
use Prim.Native.Nat.{ℕ}
use mathlib.Core.Path.{◌∙◌}
use mathlib.Core.Bool.{Bool, ◌||◌}
use lib.Dec.{eqb}
use Rattle.words.specs.Marks.{marked}
use Rattle.words.specs.Laws.{words_of_read}
use Rattle.words.proofs.Words.with.Goals as goal

pub returns : goal.returns
returns c =
    let x = c.args in
    c.or.ensures ∙ words_of_read c.one.result (λ j. eqb j x.i) c.one.ensures (λ (j : ℕ) (t : Bool). t || marked x.self j)
