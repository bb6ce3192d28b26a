use Rattle.std.specs.Prelude.{◌≡◌, true, length, take}
use Rattle.image.specs.Many.{read_all, all_pass}
use Rattle.image.specs.Segments.{head_of, head_ok}
use Rattle.plan_image.proofs.get_heads.Given as goal

abbrev pub invariant-loop-i : goal.invariant-loop-i
invariant-loop-i l = (length l.head-items ≡ 256) × (take l.i l.head-items ≡ read_all head_of 23 l.i l.l) × (all_pass head_ok 23 l.i l.l ≡ true)
