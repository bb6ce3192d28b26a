-- `receiver_image::read_receiver` meets its contract: each part is read by its own octets. Assumes nothing.
use Rattle.std.specs.Prelude.{List, ℕ, drop}
use Rattle.std.proofs.Common.{ap, ap₂, ◌∙◌}
use Rattle.receiver.specs.declared.Slot.{Slot}
use Rattle.image.specs.Spelling.{rest_of}
use Rattle.receiver_image.specs.declared.Head.{Head}
use Rattle.receiver_image.specs.Heads.{head_of}
use Rattle.receiver_image.specs.Images.{record_of, receiver_of, lengths_of, slots_of}
use Rattle.receiver_image.proofs.read_receiver.Goals as goal

pub returns : goal.returns
unfolding record_of
returns c =
    let l = c.args.l.now in
    ap₂ (λ (h : Head) (s : List Slot). receiver_of h c.get_lengths.result s) c.read_head-head.ensures (c.read_slots.ensures ∙ ap slots_of (rest_of 603 l))
    ∙ ap (λ (n : List ℕ). receiver_of (head_of l) n (slots_of (drop 603 l))) (c.get_lengths.ensures.0 ∙ ap lengths_of (rest_of 91 l))
