use Rattle.words.proofs.Wordwise.{ClearTo}
use Rattle.words.proofs.Words.lowest.Given as goal

abbrev pub invariant-loop-k : goal.invariant-loop-k
invariant-loop-k l = ClearTo l.self l.k
