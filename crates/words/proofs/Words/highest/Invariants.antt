use Rattle.words.proofs.Wordwise.{ClearFrom}
use Rattle.words.proofs.Words.highest.Given as goal

abbrev pub invariant-loop-k : goal.invariant-loop-k
invariant-loop-k l = ClearFrom l.self l.k
