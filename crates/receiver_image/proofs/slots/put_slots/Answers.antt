-- `receiver_image::slots::put_slots` meets its contract. The loop's invariant: the first i slots are written, and fit. Assumes nothing.
use Prim.Native.Nat.{ℕ, ◌+◌, ◌*◌}
use mathlib.Core.Path.{◌≡◌, ap, ◌∙◌}
use mathlib.Core.List.{List}
use native.Mathlib.Omega.{arith}
use borrow.Author.Count.{below_more}
use lib.ListN.{length, get_or, take}
use lib.Seq.{sets, length-sets, take_all}
use Rattle.receiver.specs.Record.{no_slot}
use Rattle.receiver.specs.declared.Slot.{Slot}
use Rattle.image.specs.Segments.{kind_wide}
use Rattle.image.specs.Many.{spell_all, spell_none, put_turn}
use Rattle.receiver_image.specs.Images.{slot_image}
use Rattle.receiver_image.proofs.slots.put_slots.Goals as goal
use Rattle.receiver_image.proofs.slots.put_slots.Goals.{Start}

-- there are 256 slots
slots_256 : (c : Start) → length c.args.slots ≡ 256
slots_256 c = c.well_formed.1.0.1.0.1

pub loop-i-init : goal.loop-i-init
loop-i-init c =
    let x = c.args in
    (spell_none slot_image x.dst.now 603 x.slots, λ k h. absurd (omega arith))

pub loop-i-preserved : goal.loop-i-preserved
loop-i-preserved c =
    let x = c.args in
    let v = c.loop-i.invariant in
    let i = c.loop-i.i in
    let p = c.put_kind.ensures in
    let m : length x.slots ≡ 256 = slots_256 (goal.at.loop-i-preserved c).Start in (
      p.0 ∙ ap (λ (l : List ℕ). sets l (603 + 13 * i) (slot_image (get_or x.slots i no_slot))) v.0
          ∙ put_turn slot_image 13 no_slot x.dst.now 603 x.slots i (λ k h. kind_wide (get_or x.slots k no_slot).kind) (omega arith),
      below_more _ _ v.1 p.1,
    )

pub shape_of-dst : goal.shape_of-dst
shape_of-dst c =
    let x = c.args in
    ap length c.loop-i.invariant.0 ∙ length-sets x.dst.now 603 (spell_all slot_image (take c.loop-i.i x.slots))

pub returns : goal.returns
returns c =
    let x = c.args in
    let v = c.loop-i.invariant in
    let i = c.loop-i.i in
    let m : length x.slots ≡ 256 = slots_256 (goal.at.returns c).Start in (
      v.0 ∙ ap (λ (l : List Slot). sets x.dst.now 603 (spell_all slot_image l)) (take_all i x.slots (omega arith)),
      record { many = m; each = λ k h. v.1 k (omega arith) },
    )
