-- `plan_c::put_checked` meets its contract: a plan that is accepted is put, which its octets then spell. Assumes nothing.
use Rattle.std.specs.Prelude.{Result}
use Rattle.std.proofs.Common.{sym, ◌∙◌}
use Rattle.std.proofs.Math.Path.{ap}
use Rattle.sender.specs.declared.Plan.{Plan}
use Rattle.plan_c.specs.Calls.{plan_written, frozen_gives, refused_by}
use Rattle.plan_c.specs.Laws.{writes}
use Rattle.plan_c.proofs.put_checked.Goals as goal

pub returns-in-Ok : goal.returns-in-Ok
returns-in-Ok g c =
    let plan = c.args.plan.now in
    let put = c.put_plan.ensures in
    writes plan _ _ c.requires put.1 put.0
    ∙ ap (λ (p : Plan). plan_written p plan) c.frozen.ensures
    ∙ ap (λ (a : Result Unit g.row.E.Denot). frozen_gives (refused_by g.E.Refuses.number a) c.args.checked.plan plan) (sym c.in-Ok.is)
