-- `sender_c::catkhize_sender_submitted` meets its contract: `on_sender`, by the step. Assumes nothing.
use Rattle.std.specs.Prelude.{[], refl}
use Rattle.std.proofs.Common.{rules}
use Rattle.sender_c.specs.Calls.{submitted_step}
use Rattle.sender_c.proofs.catkhize_sender_submitted.Goals as goal

pub returns : goal.returns
returns c = let x = c.args in c.on_sender.ensures [] (submitted_step x.«record».now x.number x.ticket x.queued x.observed) refl (λ r p. search rules)
