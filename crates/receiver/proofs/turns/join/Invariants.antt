use Rattle.std.specs.Prelude.{◌≡◌, ◌*◌, ◌≤◌, length}
use Rattle.std.proofs.lemmas.List.Edits.{sets}
use Rattle.receiver.specs.Record.{joined}
use Rattle.receiver.proofs.turns.join.Given as goal

abbrev pub invariant-loop-t : goal.invariant-loop-t
invariant-loop-t l = (l.at ≤ 65535 * l.t) × (l.at ≡ length (joined l.lengths l.store l.t)) × (l.output ≡ sets l.initial.output 0 (joined l.lengths l.store l.t))
