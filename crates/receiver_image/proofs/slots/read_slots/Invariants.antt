use mathlib.Core.Path.{◌≡◌}
use lib.ListN.{length, take}
use Rattle.image.specs.Many.{read_all}
use Rattle.receiver_image.specs.Images.{slot_of}
use Rattle.receiver_image.proofs.slots.read_slots.Given as goal

abbrev pub invariant-loop-i : goal.invariant-loop-i
invariant-loop-i l = (length l.slot-items ≡ 256) × (take l.i l.slot-items ≡ read_all slot_of 13 l.i l.l)
