-- `plan_image::put_form` meets its contract: its number, and the planned record behind it. Assumes nothing.
use mathlib.Core.Path.{refl, ap, subst, ◌∙◌}
use mathlib.Core.List.{[], ◌∷◌}
use Prim.Native.Nat.{ℕ, ◌+◌}
use lib.Seq.{sets}
use Rattle.segmentation.specs.declared.SegmentedMessage.{SegmentedMessage}
use Rattle.image.specs.Spelling.{put_next}
use Rattle.plan_image.specs.Planned.{planned_image, PlannedFits}
use Rattle.plan_image.specs.Plans.{form_image, form_number, planned_in}
use Rattle.plan_image.proofs.put_form.Goals as goal

pub returns : goal.returns
unfolding form_image
returns c =
    let x = c.args in
    let o = c.put in
    let n = c.form_number.ensures in
    let p = c.put_planned in
    let e = c.planned_in.ensures in (
      put_next x.dst.now x.at (form_number x.form ∷ []) (planned_image (planned_in x.form)) o.new.dst p.new.dst (x.at + 1) 1
          (o.ensures ∙ ap (λ (k : ℕ). sets x.dst.now x.at (k ∷ [])) n)
          refl
          refl
          (p.ensures.0 ∙ ap (λ (y : SegmentedMessage). sets o.new.dst (x.at + 1) (planned_image y)) e),
      subst PlannedFits e p.ensures.1,
    )
