use mathlib.Core.Path.{◌∙◌}
use Rattle.sender.proofs.Same.{frozen_same}
use Rattle.sender.proofs.plans.same_frozen.Goals as goal

pub returns : goal.returns
returns c = c.eq.ensures ∙ frozen_same c.args.f.now c.args.g.now
