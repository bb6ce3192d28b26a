-- `image::segments::put_head` meets its contract: the segment, and the number behind it. Assumes nothing.
use mathlib.Core.Path.{◌≡◌, ap, ◌∙◌}
use mathlib.Core.List.{List}
use Prim.Native.Nat.{ℕ, ◌+◌}
use lib.Seq.{sets}
use Rattle.image.specs.Numbers.{spell}
use Rattle.image.specs.Spelling.{sets_then}
use Rattle.image.specs.Segments.{segment_image, head_image, segment_layout}
use Rattle.image.proofs.segments.put_head.Goals as goal

pub returns : goal.returns
unfolding head_image
returns c =
    let x = c.args in
    let s = c.put_segment.ensures in
    let n = c.put.ensures in
    let e : _ ≡ sets x.dst.now x.at (head_image x.head) =
    n.0 ∙ ap (λ (l : List ℕ). sets l (x.at + 15) (spell 8 x.head.segment_data_length)) s.0
    ∙ sets_then x.dst.now x.at (segment_image x.head.segment) (spell 8 x.head.segment_data_length) 15 (segment_layout.wide x.head.segment s.1) in
    (e, record { segment = s.1; octets = n.1 })
