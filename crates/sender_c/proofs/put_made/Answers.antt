-- `sender_c::put_made` meets its contract: a refusal writes nothing, and else the sender is put, by `made_put`. Assumes nothing.
use Rattle.std.specs.Prelude.{Result}
use Rattle.std.proofs.Math.Path.{ap}
use Rattle.sender.specs.declared.SenderError.{SenderError}
use Rattle.sender.specs.declared.SenderState.{SenderState}
use Rattle.sender.specs.Says.{sender_says, sent}
use Rattle.sender_answers.specs.Answers.{is_refused}
use Rattle.sender_c.specs.Laws.{made_put}
use Rattle.sender_c.proofs.put_made.Goals as goal

pub returns-in-Ok : goal.returns-in-Ok
returns-in-Ok c =
    let x = c.args in
    let p = c.put_sender in
    made_put x.«record».now (sent x.given) p.new.dst (ap (λ (a : Result SenderState SenderError). is_refused (sender_says a)) c.in-Ok.is) p.ensures.0 c.requires p.ensures.1
