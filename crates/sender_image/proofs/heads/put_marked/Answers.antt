-- `sender_image::heads::put_marked` meets its contract: three times four words, one behind another. Assumes nothing.
use Rattle.sender_image.specs.Heads.{marked_put}
use Rattle.sender_image.proofs.heads.put_marked.Goals as goal

pub returns : goal.returns
returns c =
    let x = c.args in
    let a = c.put_marks.ensures in
    let b = c.put_marks-2.ensures in
    let d = c.put_marks-3.ensures in
    (marked_put x.dst.now x.at x.p _ _ _ a.0 b.0 d.0, record { submitted = a.1; retry = b.1; received = d.1 })
