-- `receiver_c::catkhize_receiver_release` meets its contract: `close`, by `release_of`. Assumes nothing.
use Rattle.std.proofs.Common.{rules}
use Rattle.receiver.specs.Advance.{release_of}
use Rattle.receiver_c.specs.Calls.{release_call}
use Rattle.receiver_c.proofs.catkhize_receiver_release.Goals as goal

pub returns : goal.returns
unfolding release_call
returns c = c.close.ensures release_of (λ r s x t p. search rules)
