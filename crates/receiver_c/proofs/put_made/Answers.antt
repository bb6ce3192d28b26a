-- `receiver_c::put_made` meets its contract: a receiver that is made is put into the record. Assumes nothing.
use Rattle.std.specs.Prelude.{Result}
use Rattle.std.proofs.Common.{sym}
use Rattle.std.proofs.Math.Path.{ap}
use Rattle.receiver.specs.Advance.{Made}
use Rattle.receiver.specs.Says.{try_new_says}
use Rattle.receiver.specs.declared.ReceiveError.{ReceiveError}
use Rattle.receiver_c.specs.Laws.{makes}
use Rattle.receiver_c.proofs.put_made.Goals as goal

pub returns-in-Ok : goal.returns-in-Ok
returns-in-Ok c =
    let x = c.args in
    let p = c.put_receiver.ensures in
    let made : Result Unit ReceiveError → Made = λ a. record { refused = try_new_says a; receiver = x.given.receiver } in
    makes x.«record».now _ (made x.given.answer) x.given.receiver c.requires p.1 p.0 (ap made (sym c.in-Ok.is))
