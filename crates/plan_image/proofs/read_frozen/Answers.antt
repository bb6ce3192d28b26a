-- `plan_image::read_frozen` meets its contract: the front and the heads are each read by their own octets. Assumes nothing.
use Rattle.std.proofs.Common.{ap, ap₂, ◌∙◌}
use Rattle.image.specs.Spelling.{rest_of}
use Rattle.plan_image.specs.Frozen.{heads_of, frozen_from, frozen_of}
use Rattle.plan_image.proofs.read_frozen.Goals as goal

pub returns : goal.returns
unfolding frozen_of
returns c = ap₂ frozen_from c.read_front-front.ensures (c.read_heads.ensures ∙ ap heads_of (rest_of 25 c.args.l.now))
