-- `receiver_image::get_receiver` meets its contract: the test of a receiver is that of its head and of each slot, since octets always spell lengths.
-- Assumes nothing.
use Rattle.std.specs.Prelude.{List, drop}
use Rattle.std.proofs.Common.{sym, ◌∙◌}
use Rattle.receiver.specs.declared.Slot.{Slot}
use Rattle.image.specs.Spelling.{rest_of}
use Rattle.image.proofs.Read.{first_none, second_none, both_some}
use Rattle.receiver_image.specs.declared.Head.{Head}
use Rattle.receiver_image.specs.Heads.{head_of}
use Rattle.receiver_image.specs.Images.{record_of, receiver_of, slots_of, image_spells}
use Rattle.receiver_image.proofs.get_receiver.Goals as goal

pub returns-in_err-head : goal.returns-in_err-head
returns-in_err-head c =
    let l = c.args.l.now in
    let n = rw (rest_of 91 l) at c.get_lengths-lengths.ensures in
    first_none _ _ _ (image_spells l c.requires n.1) (head_of l) (slots_of (drop 603 l)) (record_of l) _ (sym c.get_head.ensures ∙ c.in_err-head.was) c.from_residual.ensures

pub returns-in_err-slots : goal.returns-in_err-slots
returns-in_err-slots c =
    let l = c.args.l.now in
    let n = rw (rest_of 91 l) at c.get_lengths-lengths.ensures in
    second_none _ _ _ (image_spells l c.requires n.1) (head_of l) (slots_of (drop 603 l)) (record_of l) _ (rw (rest_of 603 l) at (sym c.get_slots.ensures ∙ c.in_err-slots.was))
    c.from_residual-in_err-slots.ensures

pub returns : goal.returns
unfolding record_of
returns c =
    let l = c.args.l.now in
    let n = rw (rest_of 91 l) at c.get_lengths-lengths.ensures in
    both_some _ _ _ (image_spells l c.requires n.1) (head_of l) (slots_of (drop 603 l)) (record_of l) _ _ (λ (h : Head) (s : List Slot). receiver_of h c.get_lengths-lengths.result s)
    (sym c.get_head.ensures ∙ c.in_ok-head.was) (rw (rest_of 603 l) at (sym c.get_slots.ensures ∙ c.in_ok-slots.was)) (rw n.0)
