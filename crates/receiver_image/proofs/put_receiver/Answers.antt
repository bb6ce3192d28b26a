-- `receiver_image::put_receiver` meets its contract: head, lengths and slots, one behind another, each of which ensures that its numbers fit. Assumes nothing.
use Rattle.receiver_image.specs.Images.{ReceiverFits, image_put}
use Rattle.receiver_image.proofs.put_receiver.Goals as goal

pub returns : goal.returns
returns c =
    let x = c.args in
    let h = c.put_head.ensures in
    let n = c.put_lengths.ensures in
    let s = c.put_slots.ensures in
    let f : ReceiverFits x.r = record { head = h.1; lengths = n.1; slots = s.1 } in
    (image_put x.dst.now x.r _ _ _ f h.0 n.0 s.0, f)
