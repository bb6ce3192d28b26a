-- `sender::plans::is_no_head` meets its contract: the derived `==`, by `head_same`. Assumes nothing.
use mathlib.Core.Path.{◌∙◌}
use Rattle.segmentation.specs.Frozen.{no_head}
use Rattle.sender.proofs.Same.{head_same}
use Rattle.sender.proofs.plans.is_no_head.Goals as goal

pub returns : goal.returns
returns c = c.eq.ensures ∙ head_same no_head c.args.head
