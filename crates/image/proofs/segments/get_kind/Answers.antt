-- `image::segments::get_kind` meets its contract: the kind that is read is spelled again, and compared. Assumes nothing.
use Rattle.std.specs.Bool.{then_some}
use Rattle.std.proofs.Common.{ap₂, ◌∙◌}
use Rattle.image.specs.Spelling.{spelled_again}
use Rattle.image.specs.Segments.{kind_layout}
use Rattle.image.proofs.segments.get_kind.Goals as goal

pub returns : goal.returns
returns c =
    let x = c.args in
    let k = c.read_kind-kind in
    c.then_some.ensures ∙ ap₂ then_some (c.same.ensures ∙ spelled_again kind_layout x.l.now c.kind_octets.result k.result k.ensures c.kind_octets.ensures.0) k.ensures
