use Rattle.orders.proofs.Steps.{Halfway}
use Rattle.orders.proofs.arrange.Given as goal

abbrev pub invariant-loop-i : goal.invariant-loop-i
invariant-loop-i l = Halfway l.initial.left l.number l.left l.rest l.i
