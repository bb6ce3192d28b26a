-- `sender_c::catkhize_sender_cancel` meets its contract: `on_sender`, by the step. Assumes nothing.
use Rattle.std.specs.Prelude.{[], refl}
use Rattle.std.proofs.Common.{rules}
use Rattle.sender_c.specs.Calls.{cancel_step}
use Rattle.sender_c.proofs.catkhize_sender_cancel.Goals as goal

pub returns : goal.returns
returns c = let x = c.args in c.on_sender.ensures [] (cancel_step x.«record».now x.reading) refl (λ r p. search rules)
