-- `sender_image::heads::read_progress` meets its contract: each part is read by its own octets. Assumes nothing.
use mathlib.Core.Path.{sym}
use native.Mathlib.Omega.{arith}
use Rattle.image.specs.Spelling.{rest_of}
use Rattle.sender_image.specs.Heads.{progress_flat}
use Rattle.sender_image.proofs.heads.read_progress.Goals as goal

pub read-requires-3 : goal.read-requires-3
read-requires-3 c = omega (arith, c.requires)

pub read-requires-4 : goal.read-requires-4
read-requires-4 c = omega (arith, c.requires)

pub returns : goal.returns
returns c =
    let l = c.args.l.now in
    rw (c.read-4.ensures.reads, c.read-3.ensures.reads, c.deadline_of.ensures, c.read-2.ensures.reads, c.get_marks-3.ensures.0, rest_of 94 l, c.get_marks-2.ensures.0, rest_of 62 l, c.get_marks.ensures.0, rest_of 30 l, c.read.ensures.reads, c.read_current.ensures, rest_of 4 l, c.state_of.ensures)
    (sym (progress_flat l))
