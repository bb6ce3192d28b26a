use Prim.Native.Nat.{ℕ, ◌<◌}
use mathlib.Core.Path.{◌≡◌}
use lib.ListN.{get_or, take}
use lib.Seq.{sets}
use Rattle.image.specs.Numbers.{spell}
use Rattle.image.specs.Many.{spell_all}
use Rattle.receiver_image.specs.Images.{LengthFits}
use Rattle.receiver_image.proofs.slots.put_lengths.Given as goal

abbrev pub invariant-loop-i : goal.invariant-loop-i
invariant-loop-i l = (l.dst ≡ sets l.initial.dst 91 (spell_all (spell 2) (take l.i l.n-items))) × ((k : ℕ) → k < l.i → LengthFits (get_or l.n-items k 0))
