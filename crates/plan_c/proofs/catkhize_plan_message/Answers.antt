-- `plan_c::catkhize_plan_message` meets its contract: `give_planning`, by `plan_message`. Assumes nothing.
use Rattle.std.specs.Prelude.{length}
use Rattle.std.proofs.Common.{rules}
use Rattle.segmentation.specs.Plan.{plan_message}
use Rattle.image.specs.Cases.{window_of}
use Rattle.plan_c.proofs.catkhize_plan_message.Goals as goal

pub returns : goal.returns
returns c = let x = c.args in c.give_planning.ensures (plan_message (length x.message.now) x.budget x.transaction (window_of x.window) x.version x.ceiling) (λ r p. search rules)
