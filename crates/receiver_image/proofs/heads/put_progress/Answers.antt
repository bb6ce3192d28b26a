-- `receiver_image::heads::put_progress` meets its contract: its two halves, one behind the other. Assumes nothing.
use Rattle.receiver_image.specs.Heads.{progress_put}
use Rattle.receiver_image.proofs.heads.put_progress.Goals as goal

pub returns : goal.returns
returns c =
    let x = c.args in
    let a = c.put_standing.ensures in
    let b = c.put_times.ensures in
    (progress_put x.dst.now x.at x.p _ _ a.0 b.0, record { stated = a.1; stored = b.1.stored; deadline = b.1.deadline; last = b.1.last })
