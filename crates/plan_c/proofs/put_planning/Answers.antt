-- `plan_c::put_planning` meets its contract: nothing is written beside Unsegmented and a refusal, and else the plan as a sender has it,
-- which its octets then spell. Assumes nothing.
use mathlib.Core.Path.{sym, ap, ◌∙◌}
use Rattle.std.specs.Prelude.{Ok, Result}
use Rattle.segmentation.specs.Plan.{planned_by}
use Rattle.segmentation.specs.declared.MessagePlan.{MessagePlan}
use Rattle.segmentation.specs.declared.PlanningError.{PlanningError}
use Rattle.sender.specs.declared.Plan.{Plan}
use Rattle.plan_c.specs.Calls.{plan_written, planning_gives}
use Rattle.plan_c.specs.Laws.{writes}
use Rattle.plan_c.proofs.put_planning.Goals as goal

pub returns-in-Ok-Segmented : goal.returns-in-Ok-Segmented
returns-in-Ok-Segmented c =
    let plan = c.args.plan.now in
    let put = c.put_plan.ensures in
    writes plan _ _ c.requires put.1 put.0
    ∙ ap (λ (p : Plan). plan_written p plan) c.planned.ensures
    ∙ ap (λ (g : Result MessagePlan PlanningError). planning_gives (planned_by g) plan) (sym (c.in-Ok-Segmented.is ∙ ap Ok (rw c.in-Ok-Segmented.is at c.in-Ok-Segmented.field-0-is)))
