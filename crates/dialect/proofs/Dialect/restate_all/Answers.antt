-- `Dialect::restate_all` meets its contract. The loop's invariant: the heads in front are restated, the others as they were. Assumes nothing.
use mathlib.Core.Path.{ap, ◌∙◌}
use mathlib.Core.List.{List}
use lib.ListN.{set}
use Rattle.tsar.specs.declared.SegmentHead.{SegmentHead}
use Rattle.segmentation.specs.Frozen.{head_at}
use Rattle.dialect.specs.Convert.{restated}
use Rattle.dialect.proofs.Calls.{restate_more}
use Rattle.dialect.proofs.Dialect.restate_all.Goals as goal

pub loop-head-preserved : goal.loop-head-preserved
loop-head-preserved c =
    let l = c.loop-head in
    let a = c.args in
    ap (set l.later l.head-index) c.restated.ensures
    ∙ ap (λ (h : List SegmentHead). set h l.head-index (restated a.self a.message_octets (head_at h l.head-index))) l.invariant
    ∙ restate_more (restated a.self a.message_octets) l.head-index a.later.now c.loop-head-test.true
