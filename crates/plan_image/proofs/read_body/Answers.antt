-- `plan_image::read_body` meets its contract: the form and the record of the frozen check are each read by their own octets. Assumes nothing.
use Rattle.std.proofs.Common.{ap, ap₂, ◌∙◌}
use Rattle.segmentation.specs.declared.FrozenMessage.{FrozenMessage}
use Rattle.sender.specs.declared.Plan.{Plan}
use Rattle.sender.specs.declared.PlanForm.{PlanForm}
use Rattle.image.specs.Spelling.{rest_of}
use Rattle.plan_image.specs.Frozen.{frozen_of}
use Rattle.plan_image.specs.Plans.{body_of}
use Rattle.plan_image.proofs.read_body.Goals as goal

pub returns : goal.returns
unfolding body_of
returns c =
    ap₂ {C = Plan} (λ (y : PlanForm) (z : FrozenMessage). record { form = y; frozen = z }) c.read_form.ensures (c.read_frozen.ensures ∙ ap frozen_of (rest_of 44 c.args.l.now))
