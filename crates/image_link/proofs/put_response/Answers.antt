-- `image_link::put_response` meets its contract: four octets, the marks, and the support list. Assumes nothing.
use Rattle.std.proofs.Common.{ap, ◌∙◌}
use Rattle.std.proofs.lemmas.List.Edits.{sets}
use Rattle.image_link.specs.Responses.{response_front, response_put}
use Rattle.image_link.proofs.put_response.Goals as goal

pub returns : goal.returns
returns c =
    let x = c.args in
    let n = c.octets.ensures in
    let m = c.put_marks.ensures in
    let s = c.support_octets.ensures in (
      response_put x.dst.now x.at x.r _ _ _ _ (response_front x.r _ _ c.from.ensures n.octets) c.put.ensures m.0 (c.put-2.ensures ∙ ap (sets _ _) s),
      record { entries = n.fits; marks = m.1 },
    )
