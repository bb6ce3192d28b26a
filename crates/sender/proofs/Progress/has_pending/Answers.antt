-- `sender::Progress::has_pending` meets its contract: no mark of what is pending is none of the first n. Assumes nothing.
use mathlib.Core.Path.{ap, ◌∙◌}
use mathlib.Core.Bool.{not}
use Rattle.sender.specs.Record.{needs}
use Rattle.sender.proofs.Marking.{none_first}
use Rattle.sender.proofs.Progress.has_pending.Goals as goal

pub returns : goal.returns
returns c = ap not (c.is_none.ensures ∙ none_first c.args.course.outline.count c.pending.result (needs c.args.self.submitted c.args.self.retry) c.args.course.at_most c.pending.ensures)
