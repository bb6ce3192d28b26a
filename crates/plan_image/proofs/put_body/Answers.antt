-- `plan_image::put_body` meets its contract: the form, and the record of the frozen check behind it. Assumes nothing.
use mathlib.Core.Path.{refl}
use Prim.Native.Nat.{◌+◌}
use Rattle.image.specs.Spelling.{put_next}
use Rattle.plan_image.specs.Frozen.{frozen_image}
use Rattle.plan_image.specs.Plans.{form_image, form_wide, body_image}
use Rattle.plan_image.proofs.put_body.Goals as goal

pub returns : goal.returns
unfolding body_image
returns c =
    let x = c.args in
    let p = c.put_form in
    let h = c.put_frozen in (
      put_next x.dst.now x.at (form_image x.plan.form) (frozen_image x.plan.frozen) p.new.dst h.new.dst (x.at + 44) 44 p.ensures.0
          (form_wide x.plan.form)
          refl
          h.ensures.0,
      record { form = p.ensures.1; frozen = h.ensures.1 },
    )
