-- `sender_image::get_sender` meets its contract: the test of a sender is that of its head and that of its plan. Assumes nothing.
use Rattle.std.specs.Prelude.{drop, refl}
use Rattle.std.proofs.Common.{sym, ◌∙◌}
use Rattle.image.specs.Spelling.{rest_of}
use Rattle.image.proofs.Read.{first_none, second_none, both_some}
use Rattle.plan_image.specs.Plans.{body_of}
use Rattle.sender_image.specs.Heads.{head_of}
use Rattle.sender_image.specs.Images.{record_of, sender_of, image_spells}
use Rattle.sender_image.proofs.get_sender.Goals as goal

pub returns-in_err-head : goal.returns-in_err-head
returns-in_err-head c =
    let l = c.args.l.now in
    first_none _ _ _ (image_spells l c.requires) (head_of l) (body_of (drop 174 l)) (record_of l) _ (sym c.get_head.ensures ∙ c.in_err-head.was) c.from_residual.ensures

pub returns-in_err-plan : goal.returns-in_err-plan
returns-in_err-plan c =
    let l = c.args.l.now in
    second_none _ _ _ (image_spells l c.requires) (head_of l) (body_of (drop 174 l)) (record_of l) _ (rw (rest_of 174 l) at (sym c.get_body.ensures ∙ c.in_err-plan.was))
    c.from_residual-in_err-plan.ensures

pub returns : goal.returns
unfolding record_of
returns c =
    let l = c.args.l.now in
    both_some _ _ _ (image_spells l c.requires) (head_of l) (body_of (drop 174 l)) (record_of l) _ _ sender_of (sym c.get_head.ensures ∙ c.in_ok-head.was)
    (rw (rest_of 174 l) at (sym c.get_body.ensures ∙ c.in_ok-plan.was)) refl
