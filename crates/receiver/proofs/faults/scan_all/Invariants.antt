use Rattle.std.specs.Prelude.{◌+◌, get_or}
use Rattle.receiver.specs.Steps.{Added}
use Rattle.receiver.proofs.faults.scan_all.Given as goal

abbrev pub invariant-loop-j : goal.invariant-loop-j
invariant-loop-j l = Added (λ j. get_or l.lengths (l.from + j) 0) l.j l.fn.found l.all
