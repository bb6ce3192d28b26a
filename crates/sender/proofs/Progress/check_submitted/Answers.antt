-- `sender::Progress::check_submitted` meets its contract: where the clock refuses, so does the call. Assumes nothing.
use Rattle.sender.specs.Calls.{clock_rows, offer_rows}
use Rattle.sender.proofs.Turning.{refused_first}
use Rattle.sender.proofs.Progress.check_submitted.Goals as goal

pub returns-in_err-course-clause-rows : goal.returns-in_err-course-clause-rows
returns-in_err-course-clause-rows c =
    let x = c.args in
    refused_first (clock_rows x.outline x.self x.observed_monotonic_ms) (offer_rows x.token.own x.self x.token.number x.token.ticket x.queued_monotonic_ms x.observed_monotonic_ms) c.check_clock.result c.in_err-course.field-0.0 c.from_residual.result c.check_clock.ensures.rows c.in_err-course.was c.from_residual.ensures.1
