-- `sender_image::heads::put_standing` meets its contract: its three parts, one behind another. Assumes nothing.
use mathlib.Core.Path.{ap, ◌∙◌}
use lib.Seq.{sets}
use Rattle.sender_image.specs.Heads.{standing_put}
use Rattle.sender_image.proofs.heads.put_standing.Goals as goal

pub returns : goal.returns
returns c =
    let x = c.args in
    let a = c.put_current.ensures in
    let b = c.put-2.ensures in
    (standing_put x.dst.now x.at x.p _ _ _ (c.put.ensures ∙ ap (sets _ _) c.state_octets.ensures) a.0 b.0, record { current = a.1; ticket = b.1 })
