-- `image_link::read_response` meets its contract: each part is read by its own octets. Assumes nothing.
use Rattle.std.proofs.Common.{sym}
use Rattle.image.specs.Spelling.{rest_of}
use Rattle.image_link.specs.Responses.{response_flat}
use Rattle.image_link.proofs.read_response.Goals as goal

pub returns : goal.returns
returns c =
    let l = c.args.l.now in
    rw (c.status_of.ensures, c.support_of.ensures, c.read.ensures.reads, c.get_marks.ensures.0, rest_of 4 l) (sym (response_flat l))
