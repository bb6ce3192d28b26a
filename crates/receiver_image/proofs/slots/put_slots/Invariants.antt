use Prim.Native.Nat.{ℕ, ◌<◌}
use mathlib.Core.Path.{◌≡◌}
use lib.ListN.{get_or, take}
use lib.Seq.{sets}
use Rattle.receiver.specs.Record.{no_slot}
use Rattle.image.specs.Many.{spell_all}
use Rattle.receiver_image.specs.Images.{slot_image, SlotFits}
use Rattle.receiver_image.proofs.slots.put_slots.Given as goal

abbrev pub invariant-loop-i : goal.invariant-loop-i
invariant-loop-i l = (l.dst ≡ sets l.initial.dst 603 (spell_all slot_image (take l.i l.slot-items))) × ((k : ℕ) → k < l.i → SlotFits (get_or l.slot-items k no_slot))
