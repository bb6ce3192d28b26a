use Rattle.std.proofs.Common.{◌≡◌, ◌++◌, drop}
use Rattle.orders.specs.Orders.{count_from}
use Rattle.orders.proofs.count_up.Given as goal

abbrev pub invariant-loop-i : goal.invariant-loop-i
invariant-loop-i l = l.places ≡ count_from 0 l.i ++ drop l.i l.initial.places
