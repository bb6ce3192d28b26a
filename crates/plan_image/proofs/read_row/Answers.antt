-- `plan_image::read_row` meets its contract, number by number. Assumes nothing.
use Rattle.plan_image.specs.Row.{row_read}
use Rattle.plan_image.proofs.read_row.Goals as goal

pub returns : goal.returns
returns c =
    let x = c.args in
    let a = c.read in
    let b = c.read-2 in
    let d = c.read-3 in
    row_read x.l.now x.at a.result b.result d.result a.ensures.reads b.ensures.reads d.ensures.reads
