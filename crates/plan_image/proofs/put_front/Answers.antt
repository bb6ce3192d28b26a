-- `plan_image::put_front` meets its contract: it is the row of it. Assumes nothing.
use mathlib.Core.Path.{ap, subst, ◌∙◌}
use lib.Seq.{sets}
use Rattle.plan_image.specs.declared.Row.{Row}
use Rattle.plan_image.specs.Row.{row_image, RowFits}
use Rattle.plan_image.specs.Frozen.{front_image}
use Rattle.plan_image.proofs.put_front.Goals as goal

pub returns : goal.returns
unfolding front_image
returns c =
    let x = c.args in
    let p = c.put_row.ensures in
    let e = c.from.ensures in
    (p.0 ∙ ap (λ (r : Row). sets x.dst.now x.at (row_image r)) e, subst RowFits e p.1)
