use Rattle.std.specs.Prelude.{◌*◌}
use Rattle.receiver.specs.Steps.{Upto}
use Rattle.receiver.proofs.faults.scan.Given as goal

abbrev pub invariant-loop-k : goal.invariant-loop-k
invariant-loop-k l = Upto l.held l.lengths (64 * l.k) l.found
