use mathlib.Core.Path.{◌≡◌}
use mathlib.Core.Bool.{true}
use lib.ListN.{length, take}
use Rattle.image.specs.Segments.{kind_ok}
use Rattle.image.specs.Many.{read_all, all_pass}
use Rattle.receiver_image.specs.Images.{slot_of}
use Rattle.receiver_image.proofs.slots.get_slots.Given as goal

abbrev pub invariant-loop-i : goal.invariant-loop-i
invariant-loop-i l = (length l.slot-items ≡ 256) × (take l.i l.slot-items ≡ read_all slot_of 13 l.i l.l) × (all_pass kind_ok 13 l.i l.l ≡ true)
