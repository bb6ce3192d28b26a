use Prim.Native.Nat.{ℕ, ◌*◌, ◌<◌}
use mathlib.Core.Path.{◌≡◌}
use lib.ListN.{length, take}
use mathlib.Core.Bool.{true}
use lib.ListN.{drop}
use Rattle.image.specs.Spelling.{spells}
use Rattle.image.specs.Numbers.{spell, number_of}
use Rattle.image.specs.Many.{read_all}
use Rattle.receiver_image.proofs.slots.get_lengths.Given as goal

abbrev pub invariant-loop-i : goal.invariant-loop-i
invariant-loop-i l = (length l.n-items ≡ 256) × (take l.i l.n-items ≡ read_all (number_of 2) 2 l.i l.l) × ((k : ℕ) → k < l.i → spells (spell 2) (number_of 2) 2 (drop (2 * k) l.l) ≡ true)
