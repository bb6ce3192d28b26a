-- `receiver_image::heads::put_terms` meets its contract: the peer, five octets, and the maximum. Assumes nothing.
use mathlib.Core.Path.{ap, ◌∙◌}
use lib.Seq.{sets}
use Rattle.receiver_image.specs.Heads.{terms_put}
use Rattle.receiver_image.proofs.heads.put_terms.Goals as goal

pub returns : goal.returns
returns c =
    let x = c.args in
    let a = c.peer_octets.ensures in
    let n = c.put-3.ensures in (
      terms_put x.dst.now x.at x.t _ _ _ _ c.protocol_octets.ensures (c.put.ensures ∙ ap (sets x.dst.now x.at) a.0) c.put-2.ensures n.0,
      record { peer = a.1; maximum = n.1 },
    )
