-- `receiver_image::slots::get_slots` meets its contract. The loop's invariant: the first i slots are read, and each of them passes. Assumes nothing.
use Rattle.std.specs.Prelude.{◌≡◌, true, ℕ, ◌*◌, replicate}
use Rattle.std.proofs.Common.{sym, ap, ◌∙◌, arith, length-set}
use Rattle.std.proofs.lemmas.List.{length-replicate}
use Rattle.tsar.specs.declared.SegmentKind.{SegmentKind}
use Rattle.receiver.specs.Record.{no_slot}
use Rattle.receiver.specs.declared.Slot.{Slot}
use Rattle.image.specs.Spelling.{rest_of}
use Rattle.image.specs.Segments.{kind_of, kind_ok}
use Rattle.image.specs.Many.{all_pass, read_none, get_turn, get_last, pass_none, pass_turn, pass_fails}
use Rattle.image.proofs.Read as read
use Rattle.receiver_image.specs.Images.{slot_of}
use Rattle.receiver_image.proofs.slots.get_slots.Goals as goal

pub loop-i-init : goal.loop-i-init
loop-i-init c =
    let l = c.args.l.now in
    (length-replicate {A = Slot} 256 no_slot, read_none slot_of 13 l (replicate 256 no_slot), sym (pass_none kind_ok 13 l))

pub returns-in_err-slot : goal.returns-in_err-slot
returns-in_err-slot c =
    let l = c.args.l.now in
    let t = c.loop-i in
    let k = read.read_none _ _ (sym c.get_kind.ensures ∙ c.in_err-slot.was) in
    read.gives_none _ _ _ (pass_fails kind_ok 13 256 l t.i c.loop-i-test.true (sym (ap kind_ok (rest_of (13 * t.i) l)) ∙ k)) c.from_residual.ensures

pub loop-i-preserved : goal.loop-i-preserved
loop-i-preserved c =
    let l = c.args.l.now in
    let t = c.loop-i in
    let k = read.read_some _ _ _ (sym c.get_kind.ensures ∙ c.in_ok-slot.was) in
    let e = rest_of (13 * t.i) l in
    let slot : Slot = record { kind = c.in_ok-slot.field-0 } in (
      length-set t.slot-items t.i slot ∙ t.invariant.0,
      get_turn slot_of 13 l t.slot-items t.i slot (omega (arith, c.loop-i-test.true, t.invariant.0)) t.invariant.1 (ap (λ (x : SegmentKind). record { kind = x }) (sym k.1 ∙ ap kind_of e)),
      sym (pass_turn kind_ok 13 l t.i true true (sym t.invariant.2) (sym k.0 ∙ ap kind_ok e)),
    )

pub returns : goal.returns
returns c =
    let l = c.args.l.now in
    let t = c.loop-i in
    let e : t.i ≡ 256 = omega arith in
    read.gives_some _ _ _ (ap (λ (n : ℕ). all_pass kind_ok 13 n l) (sym e) ∙ t.invariant.2) (get_last slot_of 13 256 l t.slot-items t.i e t.invariant.0 t.invariant.1)
