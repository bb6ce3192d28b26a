-- `image::segments::read_kind` meets its contract: each part is read by its own octets. Assumes nothing.
use Rattle.std.proofs.Common.{sym}
use Rattle.image.specs.Segments.{kind_flat}
use Rattle.image.proofs.segments.read_kind.Goals as goal

pub returns : goal.returns
returns c =
    rw (c.kind_of.ensures, c.crc_of.ensures, c.read-3.ensures.reads, c.read-2.ensures.reads, c.services_of.ensures, c.optional_of.ensures, c.length_of.ensures, c.read.ensures.reads)
    (sym (kind_flat c.args.l.now))
