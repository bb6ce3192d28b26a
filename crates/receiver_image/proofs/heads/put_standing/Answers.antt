-- `receiver_image::heads::put_standing` meets its contract: its four parts, one behind another. Assumes nothing.
use mathlib.Core.Path.{ap, ◌∙◌}
use lib.Seq.{sets}
use Rattle.receiver_image.specs.Heads.{standing_put}
use Rattle.receiver_image.proofs.heads.put_standing.Goals as goal

pub returns : goal.returns
returns c =
    let x = c.args in
    let n = c.length_octets.ensures in (
      standing_put x.dst.now x.at x.p _ _ _ _ (c.put.ensures ∙ ap (sets _ _) c.state_octets.ensures) (c.put-2.ensures ∙ ap (sets _ _) c.optional_octets.ensures)
          (c.put-3.ensures ∙ ap (sets _ _) c.end_octets.ensures) (c.put-4.ensures ∙ ap (sets _ _) n.0),
      n.1,
    )
