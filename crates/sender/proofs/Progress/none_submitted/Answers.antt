-- `sender::Progress::none_submitted` meets its contract: no mark of the first n. Assumes nothing.
use native.Mathlib.Omega.{arith}
use mathlib.Core.Path.{◌∙◌}
use Rattle.words.specs.Marks.{marked}
use Rattle.sender.proofs.Marking.{none_first}
use Rattle.sender.proofs.Progress.none_submitted.Goals as goal

pub returns : goal.returns
returns c = rw (← c.count.ensures) (c.is_none.ensures ∙ none_first c.count.result c.first.result (marked c.args.self.submitted) (omega (arith, c.args.course.at_most, c.count.ensures)) c.first.ensures)
