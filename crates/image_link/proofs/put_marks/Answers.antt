-- `image_link::put_marks` meets its contract: one word after another. Assumes nothing.
use Rattle.image_link.specs.Marks.{marks_put}
use borrow.Author.Rules.{rules}
use Rattle.image_link.proofs.put_marks.Goals as goal

pub returns : goal.returns
returns c =
    let x = c.args in
    let a = c.put.ensures in
    let b = c.put-2.ensures in
    let d = c.put-3.ensures in
    let e = c.put-4.ensures in
    (marks_put x.dst.now x.at x.w _ _ _ _ a.0 b.0 d.0 e.0, record { four = search rules; first = a.1; second = b.1; third = d.1; fourth = e.1 })
