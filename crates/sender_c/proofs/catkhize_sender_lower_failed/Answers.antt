-- `sender_c::catkhize_sender_lower_failed` meets its contract: `on_sender`, by the step. Assumes nothing.
use Rattle.std.proofs.Common.{rules}
use borrow.Author.Tests.{le-ltb}
use Rattle.tsar.specs.Rows.{refusal_pass}
use Rattle.sender_c.specs.Calls.{failed_own, failed_step}
use Rattle.sender_c.proofs.catkhize_sender_lower_failed.Goals as goal

pub returns : goal.returns
returns c =
    let x = c.args in
    c.on_sender.ensures (failed_own x.failure) (failed_step x.«record».now x.number x.ticket x.failure x.cause x.reading)
    (refusal_pass (failed_own x.failure) (le-ltb 2 x.failure c.if-failure-gt-MAX_FAILURE.false, tt)) (λ r p. search rules)
