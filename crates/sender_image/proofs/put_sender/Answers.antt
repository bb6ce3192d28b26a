-- `sender_image::put_sender` meets its contract: the head, and the plan behind it, each of which ensures that its numbers fit. Assumes nothing.
use Rattle.sender_image.specs.Images.{SenderFits, image_put}
use Rattle.sender_image.proofs.put_sender.Goals as goal

pub returns : goal.returns
returns c =
    let x = c.args in
    let h = c.put_head.ensures in
    let b = c.put_body.ensures in
    let f : SenderFits x.s = record { head = h.1; plan = b.1 } in
    (image_put x.dst.now x.s _ _ f h.0 b.0, f)
