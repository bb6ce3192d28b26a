-- `words::Words::first` meets its contract: the marks of `below` are read as they were written. Assumes nothing.
use Prim.Native.Nat.{ℕ}
use mathlib.Core.Path.{◌∙◌}
use mathlib.Core.Bool.{Bool, ◌&&◌}
use lib.Dec.{ltb}
use Rattle.words.specs.Marks.{marked}
use Rattle.words.specs.Laws.{words_of_read}
use Rattle.words.proofs.Words.first.Goals as goal

pub returns : goal.returns
returns c =
    let x = c.args in
    c.and.ensures ∙ words_of_read c.below.result (λ j. ltb j x.n) c.below.ensures (λ (j : ℕ) (t : Bool). t && marked x.self j)
