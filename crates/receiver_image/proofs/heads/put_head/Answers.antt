-- `receiver_image::heads::put_head` meets its contract: its four parts, one behind another. Assumes nothing.
use Rattle.receiver_image.specs.Heads.{HeadFits, head_put}
use Rattle.receiver_image.proofs.heads.put_head.Goals as goal

pub returns : goal.returns
returns c =
    let x = c.args in
    let a = c.put_terms.ensures in
    let b = c.put_progress.ensures in
    let d = c.put_marks.ensures in
    let f : HeadFits x.h = record { terms = a.1; progress = b.1; held = d.1 } in
    (head_put x.dst.now x.h _ _ _ _ f c.put.ensures a.0 b.0 d.0, f)
