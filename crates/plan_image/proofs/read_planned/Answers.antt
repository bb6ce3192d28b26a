-- `plan_image::read_planned` meets its contract, part by part. Assumes nothing.
use mathlib.Core.Path.{◌∙◌}
use Rattle.plan_image.specs.Planned.{planned_read}
use Rattle.plan_image.proofs.read_planned.Goals as goal

pub returns : goal.returns
returns c =
    let x = c.args in
    let a = c.read in
    let b = c.read-2 in
    let r = c.read_row in
    c.planned_from.ensures ∙ planned_read x.l.now x.at a.result b.result r.result a.ensures.reads b.ensures.reads r.ensures
