-- `sender_image::heads::put_head` meets its contract: its three parts, one behind another. Assumes nothing.
use Rattle.sender_image.specs.Heads.{head_put}
use Rattle.sender_image.proofs.heads.put_head.Goals as goal

pub returns : goal.returns
returns c =
    let x = c.args in
    let a = c.put_terms.ensures in
    let b = c.put_progress.ensures in
    (head_put x.dst.now x.h _ _ _ a.1 c.put.ensures a.0 b.0, record { terms = a.1; progress = b.1 })
