use Rattle.std.specs.Prelude.{◌≡◌, length, take}
use Rattle.image.specs.Many.{read_all}
use Rattle.image.specs.Segments.{head_of}
use Rattle.plan_image.proofs.read_heads.Given as goal

abbrev pub invariant-loop-i : goal.invariant-loop-i
invariant-loop-i l = (length l.head-items ≡ 256) × (take l.i l.head-items ≡ read_all head_of 23 l.i l.l)
