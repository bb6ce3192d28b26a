-- `sender_c::catkhize_sender_accepted` meets its contract: `on_sender`, by the step. Assumes nothing.
use Rattle.std.specs.Prelude.{[], refl}
use Rattle.std.proofs.Common.{rules}
use Rattle.sender_c.specs.Calls.{accepted_step}
use Rattle.sender_c.proofs.catkhize_sender_accepted.Goals as goal

pub returns : goal.returns
returns c = let x = c.args in c.on_sender.ensures [] (accepted_step x.«record».now x.number x.ticket x.reading) refl (λ r p. search rules)
