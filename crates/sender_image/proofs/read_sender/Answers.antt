-- `sender_image::read_sender` meets its contract: each part is read by its own octets. Assumes nothing.
use Rattle.std.proofs.Common.{ap, ap₂, ◌∙◌}
use Rattle.image.specs.Spelling.{rest_of}
use Rattle.plan_image.specs.Plans.{body_of}
use Rattle.sender_image.specs.Images.{record_of, sender_of}
use Rattle.sender_image.proofs.read_sender.Goals as goal

pub returns : goal.returns
unfolding record_of
returns c = ap₂ sender_of c.read_head-head.ensures (c.read_body.ensures ∙ ap body_of (rest_of 174 c.args.l.now))
