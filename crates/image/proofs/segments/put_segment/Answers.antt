-- `image::segments::put_segment` meets its contract: two octets, and the kind behind them. Assumes nothing.
use mathlib.Core.Path.{◌∙◌}
use native.Mathlib.Omega.{arith}
use lib.ListN.{length-set}
use lib.Seq.{length-sets}
use Rattle.image.specs.Spelling.{sets_two}
use Rattle.image.specs.Segments.{segment_image, kind_image}
use Rattle.image.proofs.segments.put_segment.Goals as goal

pub bounds-dst-at-2 : goal.bounds-dst-at-2
bounds-dst-at-2 c =
    let x = c.args in
    omega (arith, length-set x.dst.now x.at x.segment.transaction_id)

pub shape_of-dst : goal.shape_of-dst
shape_of-dst c =
    let x = c.args in
    simp (c.put_kind.ensures.0, length-sets, length-set)

pub returns : goal.returns
unfolding segment_image
returns c =
    let x = c.args in
    (c.put_kind.ensures.0 ∙ sets_two x.dst.now x.at x.segment.transaction_id x.segment.sequence_number (kind_image x.segment.kind), c.put_kind.ensures.1)
