-- `plan::plan_message` meets its contract, step by step as `plan_steps` has plan_message: what `validate` says of the bare Begin is the codec's rows.
-- Assumes nothing.
use mathlib.Core.Path.{◌≡◌, ap, sym, ◌∙◌}
use Rattle.std.specs.Prelude.{Err}
use borrow.Author.Tests.{lt-ltb, le-ltb, le-leb, lt-leb}
use Rattle.std.proofs.lemmas.Result.{err_from_is_err_and}
use Rattle.tsar.specs.Rows.{refusal}
use Rattle.tsar.specs.Numbers.{validated_by}
use Rattle.tsar.specs.Writing.{codec_rows}
use Rattle.tsar.specs.declared.Segment.{Segment}
use Rattle.segmentation.specs.Plan.{bare_begin, cut_by, planned_by}
use Rattle.segmentation.proofs.Capacity.{plan_steps}
use Rattle.segmentation.proofs.plan.plan_message.Goals as goal
use Rattle.segmentation.proofs.plan.plan_message.Goals.{After-validate}

-- what the codec says of the bare Begin
codec_said : (c : After-validate) → refusal (codec_rows c.args.version (bare_begin c.args.transaction_id c.args.acknowledgment_window) 0) ≡ validated_by c.validate.result
codec_said c = sym (c.validate.ensures ∙ ap (λ (s : Segment). refusal (codec_rows c.args.version s 0)) c.bare_begin.ensures)

pub returns-then-ceiling-payload_budget_octets : goal.returns-then-ceiling-payload_budget_octets
returns-then-ceiling-payload_budget_octets c = simp (plan_steps, lt-ltb _ _ c.if-ceiling-payload_budget_octets.true)

pub returns-then-request-payload_budget_octets : goal.returns-then-request-payload_budget_octets
returns-then-request-payload_budget_octets c = simp (plan_steps, le-ltb _ _ c.if-ceiling-payload_budget_octets.false, le-leb _ _ c.if-request-payload_budget_octets.true)

pub returns-then-is_exceptions : goal.returns-then-is_exceptions
returns-then-is_exceptions c =
    simp (plan_steps, le-ltb _ _ c.if-ceiling-payload_budget_octets.false, lt-leb _ _ c.if-request-payload_budget_octets.false, sym c.is_exceptions.ensures ∙ c.if-is_exceptions.true)

pub returns-in_err-validate : goal.returns-in_err-validate
returns-in_err-validate c =
    let e = codec_said (goal.at.returns-in_err-validate c).After-validate ∙ ap validated_by c.in_err-validate.was in
    let r = err_from_is_err_and c.from_residual.result c.from_residual.ensures.1 in
    ap planned_by (r.1 ∙ ap Err r.2)
    ∙ simp (plan_steps, le-ltb _ _ c.if-ceiling-payload_budget_octets.false, lt-leb _ _ c.if-request-payload_budget_octets.false, sym c.is_exceptions.ensures ∙ c.if-is_exceptions.false, e)

pub returns-in_err-plan : goal.returns-in_err-plan
returns-in_err-plan c =
    let e = codec_said (goal.at.returns-in_err-plan c).After-validate ∙ ap validated_by c.in_ok-validate.was in
    let r = err_from_is_err_and c.from_residual-in_err-plan.result c.from_residual-in_err-plan.ensures.1 in
    ap planned_by (r.1 ∙ ap Err r.2)
    ∙ simp (plan_steps, le-ltb _ _ c.if-ceiling-payload_budget_octets.false, lt-leb _ _ c.if-request-payload_budget_octets.false, sym c.is_exceptions.ensures ∙ c.if-is_exceptions.false, e)
    (sym (ap cut_by c.in_err-plan.was) ∙ c.plan.ensures)

pub returns : goal.returns
returns c =
    let e = codec_said (goal.at.returns c).After-validate ∙ ap validated_by c.in_ok-validate.was in
    simp (plan_steps, le-ltb _ _ c.if-ceiling-payload_budget_octets.false, lt-leb _ _ c.if-request-payload_budget_octets.false, sym c.is_exceptions.ensures ∙ c.if-is_exceptions.false, e)
    (sym (ap cut_by c.in_ok-plan.was) ∙ c.plan.ensures)
