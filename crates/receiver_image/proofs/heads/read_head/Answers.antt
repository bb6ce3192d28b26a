-- `receiver_image::heads::read_head` meets its contract: each part is read by its own octets. Assumes nothing.
use Rattle.image.specs.Spelling.{rest_of}
use Rattle.receiver_image.specs.Heads.{head_of}
use Rattle.receiver_image.proofs.heads.read_head.Goals as goal

pub returns : goal.returns
unfolding head_of
returns c =
    let l = c.args.l.now in
    rw (c.get_marks.ensures.0, rest_of 59 l, c.read_progress.ensures, rest_of 24 l, c.read_terms.ensures, rest_of 1 l)
