-- `sender_image::heads::put_times` meets its contract: its three parts, one behind another. Assumes nothing.
use mathlib.Core.Path.{ap, ◌∙◌}
use lib.Seq.{sets}
use Rattle.sender_image.specs.Heads.{times_put}
use Rattle.sender_image.proofs.heads.put_times.Goals as goal

pub returns : goal.returns
returns c =
    let x = c.args in
    let d = c.deadline_octets.ensures in
    let a = c.put-2.ensures in
    let b = c.put-3.ensures in
    (times_put x.dst.now x.at x.p _ _ _ (c.put.ensures ∙ ap (sets _ _) d.0) a.0 b.0, record { deadline = d.1; last = a.1; submissions = b.1 })
