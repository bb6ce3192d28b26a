-- `receiver_image::heads::read_progress` meets its contract: each part is read by its own octets. Assumes nothing.
use mathlib.Core.Path.{sym}
use Rattle.receiver_image.specs.Heads.{progress_flat}
use Rattle.receiver_image.proofs.heads.read_progress.Goals as goal

pub returns : goal.returns
returns c =
    let l = c.args.l.now in
    rw (c.read-3.ensures.reads, c.deadline_of.ensures, c.read-2.ensures.reads, c.read-stored.ensures.reads, c.length_of.ensures, c.read.ensures.reads, c.end_of.ensures, c.optional_of.ensures, c.state_of.ensures)
    (sym (progress_flat l))
