-- `image_link::get_peer` meets its contract: two octets and a number that passes its test. Assumes nothing.
use Rattle.image_link.specs.Peers.{peer_of, peer_spells}
use Rattle.image_link.proofs.get_peer.Goals as goal

pub returns : goal.returns
unfolding peer_of
returns c =
    let n = c.read.ensures in
    (rw n.reads, peer_spells c.args.l.now c.requires n.passes)
