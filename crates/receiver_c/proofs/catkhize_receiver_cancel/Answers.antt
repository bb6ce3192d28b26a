-- `receiver_c::catkhize_receiver_cancel` meets its contract: `close`, by `cancel_of`. Assumes nothing.
use Rattle.std.proofs.Common.{rules}
use Rattle.receiver.specs.Advance.{cancel_of}
use Rattle.receiver_c.specs.Calls.{cancel_call}
use Rattle.receiver_c.proofs.catkhize_receiver_cancel.Goals as goal

pub returns : goal.returns
unfolding cancel_call
returns c = c.close.ensures cancel_of (λ r s x t p. search rules)
