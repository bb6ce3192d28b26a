-- `receiver_answers::put_received` meets its contract: the message goes behind the 46 octets of the reply. Assumes nothing.
use mathlib.Core.Path.{refl, ap, ◌∙◌}
use Prim.Native.Nat.{◌+◌}
use lib.Seq.{sets}
use Rattle.image.specs.Spelling.{put_next}
use Rattle.receiver_answers.specs.Answers.{reply_image, message_image, reception_image}
use Rattle.receiver_answers.proofs.put_received.Goals as goal

pub returns : goal.returns
unfolding reception_image
returns c =
    let x = c.args in
    let p = c.put_reply.ensures in
    put_next x.dst.now x.at (reply_image x.x.response) (message_image x.x.message) _ _ (x.at + 46) 46 p.0 p.1 refl
    (c.put.ensures ∙ ap (sets _ _) c.message_octets.ensures)
