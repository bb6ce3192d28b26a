-- `sender_image::parts::read_current` meets its contract: each part is read by its own octets. Assumes nothing.
use Rattle.std.specs.Prelude.{eqb, get_or}
use Rattle.std.proofs.Common.{sym, ◌∙◌}
use Rattle.image.proofs.Read.{flagged}
use Rattle.sender_image.specs.Parts.{current_flat}
use Rattle.sender_image.proofs.parts.read_current.Goals as goal

pub returns : goal.returns
returns c =
    let l = c.args.l.now in
    c.then_some.ensures
    ∙ flagged (eqb (get_or l 0 0) 0) _
    ∙ rw (c.read-2.ensures.reads, c.read.ensures.reads) (sym (current_flat l))
