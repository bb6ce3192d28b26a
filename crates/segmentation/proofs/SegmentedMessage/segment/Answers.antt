-- `SegmentedMessage::segment` meets its contract: each test is one of has_segment. Assumes nothing.
use mathlib.Core.Path.{◌≡◌, sym, ap, ap₂, ◌∙◌, subst}
use native.Mathlib.Omega.{arith}
use Rattle.std.specs.Prelude.{◌<◌}
use Rattle.segmentation.specs.Plan.{longer, part_start, planned_head, Sized}
use Rattle.segmentation.proofs.Parts.{no_segment, with_segment}
use Rattle.segmentation.proofs.SegmentedMessage.segment.Goals as goal
use Rattle.segmentation.proofs.SegmentedMessage.segment.Goals.{In_ok-part}

-- the part is the one that is asked for
is_part : (c : In_ok-part) → (c.in_ok-part.part.plan ≡ c.args.self) × (c.in_ok-part.part.index ≡ c.args.index) × (c.args.index < c.args.self.count)
is_part c = c.in_ok-part.ensures.some

pub returns-then-self-min-gt-MAX_SEGMENT_DATA_OCTETS : goal.returns-then-self-min-gt-MAX_SEGMENT_DATA_OCTETS
returns-then-self-min-gt-MAX_SEGMENT_DATA_OCTETS c =
    let i = is_part (goal.at.returns-then-self-min-gt-MAX_SEGMENT_DATA_OCTETS c).In_ok-part in
    let l : c.longer.result ≡ longer c.args.self = c.longer.ensures ∙ ap longer i.0 in
    sym (no_segment c.args.self c.args.index (λ h. omega arith))

pub returns-then-self-offset : goal.returns-then-self-offset
returns-then-self-offset c =
    let i = is_part (goal.at.returns-then-self-offset c).In_ok-part in
    let s : c.start-offset.result ≡ part_start c.args.self c.args.index = c.start-offset.ensures ∙ ap₂ part_start i.0 i.1 in
    sym (no_segment c.args.self c.args.index (λ h. omega arith))

pub returns : goal.returns
returns c =
    let i = is_part (goal.at.returns c).In_ok-part in
    let l : c.longer.result ≡ longer c.args.self = c.longer.ensures ∙ ap longer i.0 in
    let s : c.start-offset.result ≡ part_start c.args.self c.args.index = c.start-offset.ensures ∙ ap₂ part_start i.0 i.1 in
    let h : c.head.result ≡ planned_head c.args.self c.args.index = c.head.ensures ∙ ap₂ planned_head i.0 i.1 in
    let z : Sized c.args.self = subst Sized i.0 c.in_ok-part.part.sized in
    simp (h, s) (sym (with_segment c.args.self c.args.index (omega arith) (omega arith) (omega arith) (omega arith) (omega arith)))
