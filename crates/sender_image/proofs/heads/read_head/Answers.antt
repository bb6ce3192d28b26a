-- `sender_image::heads::read_head` meets its contract: each part is read by its own octets. Assumes nothing.
use Rattle.image.specs.Spelling.{rest_of}
use Rattle.sender_image.specs.Heads.{head_of}
use Rattle.sender_image.proofs.heads.read_head.Goals as goal

pub returns : goal.returns
unfolding head_of
returns c =
    let l = c.args.l.now in
    rw (c.read_progress.ensures, rest_of 23 l, c.read_terms.ensures, rest_of 1 l)
