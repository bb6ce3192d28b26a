-- `full_with` meets its contract: the words with the mark are asked up to the end. Assumes nothing.
use Rattle.receiver.specs.Record.{full_with}
use Rattle.words.specs.Laws.{marked_as}
use Rattle.words.specs.Marks.{marked}
use Rattle.words.specs.Search.{all_below_ext}
use lib.Dec.{eqb}
use mathlib.Core.Bool.{◌||◌}
use mathlib.Core.Path.{◌∙◌, ap, sym}
use native.Mathlib.Omega.{arith}
use Rattle.receiver.proofs.rules.full_with.Goals as goal

pub returns-in-Some : goal.returns-in-Some
returns-in-Some c =
    let x = c.args in
    let w = c.with in
    c.full_to.ensures
    ∙ all_below_ext _ (marked w.result) (λ t. eqb t x.sequence || marked x.held t) (λ i l. marked_as w.result (λ t. eqb t x.sequence || marked x.held t) w.ensures i (omega arith))
    ∙ sym (ap (full_with x.held x.sequence) c.in-Some.is)
