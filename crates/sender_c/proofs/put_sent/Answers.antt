-- `sender_c::put_sent` meets its contract: the sender, and then the answer, by `step_put`. Assumes nothing.
use Rattle.sender.specs.Says.{sent}
use Rattle.sender_c.specs.Laws.{step_put}
use Rattle.sender_c.proofs.put_sent.Goals as goal

pub returns : goal.returns
returns c =
    let x = c.args in
    let p = c.put_sender in
    let q = c.put_answer in
    step_put x.«record».now (sent x.given) x.answer.now p.new.dst q.new.answer q.result q.ensures.0 p.ensures.0 q.ensures.1 c.requires p.ensures.1
