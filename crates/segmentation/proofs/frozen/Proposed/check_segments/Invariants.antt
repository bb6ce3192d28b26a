use Rattle.std.proofs.Common.{◌≡◌, ◌-◌}
use Rattle.segmentation.specs.Frozen.{data_before, segments_from, proposed_by}
use Rattle.segmentation.proofs.frozen.Proposed.check_segments.Given as goal

abbrev pub invariant-loop-index : goal.invariant-loop-index
invariant-loop-index l =
    let q = proposed_by l.self.heads.now l.self.joined.now l.self.message.now l.self.payload_budget_octets l.self.version in
    (l.offset ≡ data_before q.heads l.index) × (segments_from q (q.count - l.index) l.index ≡ segments_from q q.count 0)
