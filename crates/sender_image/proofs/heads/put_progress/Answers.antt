-- `sender_image::heads::put_progress` meets its contract: its three parts, one behind another. Assumes nothing.
use Rattle.sender_image.specs.Heads.{progress_put}
use Rattle.sender_image.proofs.heads.put_progress.Goals as goal

pub returns : goal.returns
returns c =
    let x = c.args in
    let a = c.put_standing.ensures in
    let b = c.put_marked.ensures in
    let d = c.put_times.ensures in
    (progress_put x.dst.now x.at x.p _ _ _ a.0 b.0 d.0, record { standing = a.1; marks = b.1; times = d.1 })
