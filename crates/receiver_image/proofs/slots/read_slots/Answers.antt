-- `receiver_image::slots::read_slots` meets its contract. The loop's invariant: the first i slots are read. Assumes nothing.
use Rattle.std.specs.Prelude.{◌*◌, replicate}
use Rattle.std.proofs.Common.{ap, ◌∙◌, arith, length-set}
use Rattle.std.proofs.lemmas.List.{length-replicate}
use Rattle.tsar.specs.declared.SegmentKind.{SegmentKind}
use Rattle.receiver.specs.Record.{no_slot}
use Rattle.receiver.specs.declared.Slot.{Slot}
use Rattle.image.specs.Spelling.{rest_of}
use Rattle.image.specs.Segments.{kind_of}
use Rattle.image.specs.Many.{read_none, get_turn, get_last}
use Rattle.receiver_image.specs.Images.{slot_of}
use Rattle.receiver_image.proofs.slots.read_slots.Goals as goal

pub loop-i-init : goal.loop-i-init
loop-i-init c =
    let l = c.args.l.now in
    (length-replicate {A = Slot} 256 no_slot, read_none slot_of 13 l (replicate 256 no_slot))

pub loop-i-preserved : goal.loop-i-preserved
loop-i-preserved c =
    let l = c.args.l.now in
    let t = c.loop-i in
    let slot : Slot = record { kind = c.read_kind-slot.result } in (
      length-set t.slot-items t.i slot ∙ t.invariant.0,
      get_turn slot_of 13 l t.slot-items t.i slot (omega (arith, c.loop-i-test.true, t.invariant.0)) t.invariant.1 (ap (λ (x : SegmentKind). record { kind = x }) (c.read_kind-slot.ensures ∙ ap kind_of (rest_of (13 * t.i) l))),
    )

pub returns : goal.returns
returns c =
    let l = c.args.l.now in
    let t = c.loop-i in
    get_last slot_of 13 256 l t.slot-items t.i (omega arith) t.invariant.0 t.invariant.1
