-- `Part::longer` meets its contract. Assumes nothing.
use mathlib.Core.Path.{◌∙◌}
use Rattle.segmentation.proofs.Parts.{held_less}
use Rattle.segmentation.proofs.plan.Part.longer.Goals as goal

pub returns : goal.returns
returns c = c.saturating_sub.ensures ∙ held_less c.args.self.plan
