-- `plan_image::put_row` meets its contract: the numbers and the octet, one behind another. Assumes nothing.
use Rattle.plan_image.specs.Row.{row_put}
use Rattle.plan_image.proofs.put_row.Goals as goal

pub returns : goal.returns
returns c =
    let x = c.args in
    let a = c.put in
    let b = c.put-2 in
    let d = c.put-3 in
    let o = c.put-4 in (
      row_put x.dst.now a.new.dst b.new.dst d.new.dst o.new.dst x.at x.r a.ensures.0 b.ensures.0 d.ensures.0 o.ensures,
      record { first = a.ensures.1; second = b.ensures.1; third = d.ensures.1 },
    )
