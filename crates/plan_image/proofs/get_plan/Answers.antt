-- `plan_image::get_plan` meets its contract: its test is that of the version of the layout and that of the body. Assumes nothing.
use Rattle.std.specs.Prelude.{Bool, ◌&&◌, get_or, drop, refl}
use Rattle.std.specs.Bool.{then_some}
use Rattle.std.proofs.Common.{sym, ap, ap₂, ◌∙◌, arith, eq-eqb, ne_eqb}
use Rattle.image.specs.Spelling.{rest_of}
use Rattle.image.proofs.Read.{gives_none, and_left}
use Rattle.plan_image.specs.Plans.{body_of, body_ok, plan_of, plan_spells}
use Rattle.plan_image.proofs.get_plan.Goals as goal

pub returns-then-l-ne-LAYOUT_VERSION : goal.returns-then-l-ne-LAYOUT_VERSION
returns-then-l-ne-LAYOUT_VERSION c =
    let l = c.args.l.now in
    gives_none _ _ _ (plan_spells l (omega (arith, c.requires)) ∙ and_left _ _ (ne_eqb 1 (get_or l 0 0) (λ e. c.if-l-ne-LAYOUT_VERSION.true (sym e)))) refl

pub returns : goal.returns
unfolding plan_of
returns c =
    let l = c.args.l.now in
    let v = plan_spells l (omega (arith, c.requires)) ∙ ap (λ (t : Bool). t && body_ok (drop 1 l)) (eq-eqb 1 (get_or l 0 0) (sym c.if-l-ne-LAYOUT_VERSION.false)) in
    c.get_body.ensures ∙ ap₂ then_some (ap body_ok (rest_of 1 l) ∙ sym v) (ap body_of (rest_of 1 l))
