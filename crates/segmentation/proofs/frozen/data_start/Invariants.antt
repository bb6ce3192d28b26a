use Rattle.std.proofs.Common.{◌≡◌, ◌≤◌}
use Rattle.segmentation.specs.Frozen.{data_before}
use Rattle.segmentation.proofs.frozen.data_start.Given as goal

abbrev pub invariant-loop-head : goal.invariant-loop-head
invariant-loop-head l = (l.offset ≤ l.limit) × (l.offset ≡ data_before l.before l.head-index)
