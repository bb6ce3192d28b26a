-- `plan_image::put_plan` meets its contract: the version of the layout, and the body behind it. Assumes nothing.
use mathlib.Core.Path.{refl}
use mathlib.Core.List.{[], ◌∷◌}
use Rattle.image.specs.Spelling.{put_next}
use Rattle.plan_image.specs.Plans.{body_image, plan_image}
use Rattle.plan_image.proofs.put_plan.Goals as goal

pub returns : goal.returns
unfolding plan_image
returns c =
    let x = c.args in
    let o = c.put in
    let p = c.put_body in
    (put_next x.dst.now 0 (1 ∷ []) (body_image x.plan) o.new.dst p.new.dst 1 1 o.ensures refl refl p.ensures.0, p.ensures.1)
