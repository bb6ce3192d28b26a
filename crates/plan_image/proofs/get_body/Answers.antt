-- `plan_image::get_body` meets its contract: its test is that of the form and that of the record of the frozen check. Assumes nothing.
use Rattle.std.specs.Prelude.{drop, refl}
use Rattle.std.proofs.Common.{sym, ◌∙◌, arith}
use Rattle.segmentation.specs.declared.FrozenMessage.{FrozenMessage}
use Rattle.sender.specs.declared.PlanForm.{PlanForm}
use Rattle.image.specs.Spelling.{rest_of}
use Rattle.image.proofs.Read.{first_none, second_none, both_some}
use Rattle.plan_image.specs.Frozen.{frozen_of}
use Rattle.plan_image.specs.Plans.{form_of, body_of, body_spells}
use Rattle.plan_image.proofs.get_body.Goals as goal

pub returns-in_err-form : goal.returns-in_err-form
returns-in_err-form c =
    let l = c.args.l.now in
    first_none _ _ _ (body_spells l (omega (arith, c.requires))) (form_of l) (frozen_of (drop 44 l)) (body_of l) _ (sym c.get_form.ensures ∙ c.in_err-form.was) c.from_residual.ensures

pub returns-in_err-frozen : goal.returns-in_err-frozen
returns-in_err-frozen c =
    let l = c.args.l.now in
    second_none _ _ _ (body_spells l (omega (arith, c.requires))) (form_of l) (frozen_of (drop 44 l)) (body_of l) _ (rw (rest_of 44 l) at (sym c.get_frozen.ensures ∙ c.in_err-frozen.was)) c.from_residual-in_err-frozen.ensures

pub returns : goal.returns
unfolding body_of
returns c =
    let l = c.args.l.now in
    both_some _ _ _ (body_spells l (omega (arith, c.requires))) (form_of l) (frozen_of (drop 44 l)) (body_of l) _ _ (λ (y : PlanForm) (z : FrozenMessage). record { form = y; frozen = z })
    (sym c.get_form.ensures ∙ c.in_ok-form.was) (rw (rest_of 44 l) at (sym c.get_frozen.ensures ∙ c.in_ok-frozen.was)) refl
