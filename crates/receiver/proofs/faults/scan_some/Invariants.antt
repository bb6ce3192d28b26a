use Rattle.receiver.specs.Steps.{Added, word_length}
use Rattle.receiver.proofs.faults.scan_some.Given as goal

abbrev pub invariant-loop-j : goal.invariant-loop-j
invariant-loop-j l = Added (word_length l.marks l.lengths l.from) l.j l.fn.found l.all
