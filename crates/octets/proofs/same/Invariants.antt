use Rattle.std.specs.Prelude.{◌≡◌, length, take}
use Rattle.octets.proofs.same.Given as goal

abbrev pub invariant-loop-i : goal.invariant-loop-i
invariant-loop-i l = (length l.a ≡ length l.b) × (take l.i l.a ≡ take l.i l.b)
