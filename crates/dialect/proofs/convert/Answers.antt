-- `dialect::convert` meets its contract: the check's refusal, or what its plan is converted to. Assumes nothing.
use mathlib.Core.Path.{◌≡◌, ap, sym, ◌∙◌}
use Rattle.std.specs.Prelude.{Result}
use Rattle.segmentation.specs.declared.FrozenMessage.{FrozenMessage}
use Rattle.segmentation.specs.declared.PlanningError.{PlanningError}
use Rattle.segmentation.specs.Numbers.{planning_number}
use Rattle.segmentation.specs.Frozen.{Proposal, answer_by, try_from_frozen}
use Rattle.dialect.specs.Convert.{converted_by, plan_by}
use Rattle.dialect.proofs.Calls.{refused_first, answered, plan_converted, plan_counted, plan_stated}
use Rattle.dialect.proofs.convert.Goals as goal
use Rattle.dialect.proofs.convert.Goals.{After-try_from_frozen-check, in-Ok, in-Err}

-- what is proposed to a call, and the plan that the check gave
abbrev asked : After-try_from_frozen-check → Proposal
asked c =
    record {
      heads = c.args.heads;
      count = c.args.count;
      joined = c.args.joined.now;
      message = c.args.message.now;
      budget = c.args.payload_budget_octets;
      version = c.args.version;
      ceiling = c.args.ceiling;
    }

abbrev given : After-try_from_frozen-check → FrozenMessage
given c = c.try_from_frozen-check.result.plan

said : (c : After-try_from_frozen-check) (a : Result Unit PlanningError) → c.try_from_frozen-check.result.answer ≡ a → record { refused = answer_by a; plan = given c } ≡ try_from_frozen (asked c)
said c a e = ap (λ (r : Result Unit PlanningError). record { refused = answer_by r; plan = given c }) (sym e) ∙ c.try_from_frozen-check.ensures

pub converted-requires-clause-counted : goal.converted-requires-clause-counted
converted-requires-clause-counted c =
    let t = (goal.at.converted-requires-clause-counted c).After-try_from_frozen-check in
    plan_counted c.args.read (asked t) (given t) (said t _ c.in-Ok.is)

pub converted-requires-clause-stated : goal.converted-requires-clause-stated
converted-requires-clause-stated c =
    let t = (goal.at.converted-requires-clause-stated c).After-try_from_frozen-check in
    plan_stated c.args.read (asked t) (given t) (said t _ c.in-Ok.is)

pub returns : goal.returns
returns c =
    let t = (goal.at.returns c).After-try_from_frozen-check in
    ap converted_by c.from.ensures
    ∙ answered c.match-check.from
    ∙ elim c.match-check.branch [
      | in-Ok w ↦ ap plan_by w.from-is ∙ w.converted.ensures ∙ plan_converted c.args.read (asked t) (given t) (said t _ w.in-Ok.is)
      | in-Err w ↦ ap plan_by w.from-is ∙ refused_first c.args.read (asked t) (planning_number w.in-Err.error) (given t) (said t _ w.in-Err.is)
    ]
