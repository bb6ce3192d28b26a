-- The digits from the index on, after a sum of 64 bits, are worth what all are worth.
use Rattle.std.proofs.Common.{◌≡◌, ◌<◌, drop}
use Rattle.capture.specs.Decimal.{value_from, value_of}
use Rattle.capture.proofs.number.value.Given as goal

abbrev pub invariant-loop-x : goal.invariant-loop-x
invariant-loop-x l = (l.sum < 18446744073709551616) × (value_from l.sum (drop l.x-index l.s) ≡ value_of l.s)
