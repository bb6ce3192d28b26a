use Rattle.std.proofs.Common.{◌≡◌, ◌++◌, map, take, drop}
use Rattle.dialect.specs.Convert.{restated}
use Rattle.dialect.proofs.Dialect.restate_all.Given as goal

abbrev pub invariant-loop-head : goal.invariant-loop-head
invariant-loop-head l = l.later ≡ map (restated l.self l.message_octets) (take l.head-index l.initial.later) ++ drop l.head-index l.initial.later
