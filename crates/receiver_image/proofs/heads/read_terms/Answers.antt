-- `receiver_image::heads::read_terms` meets its contract: each part is read by its own octets. Assumes nothing.
use Rattle.image.specs.Spelling.{rest_of}
use Rattle.receiver_image.specs.Heads.{terms_of}
use Rattle.receiver_image.proofs.heads.read_terms.Goals as goal

pub returns : goal.returns
unfolding terms_of
returns c =
    let l = c.args.l.now in
    rw (c.read-maximum.ensures.reads, c.read_protocol.ensures, rest_of 10 l, c.get_peer.ensures.0)
