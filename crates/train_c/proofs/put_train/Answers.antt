-- `train_c::put_train` meets its contract: the number of segments and the reception are put one behind the other. Assumes nothing.
use Rattle.train_c.specs.Laws.{train_put}
use Rattle.train_c.proofs.put_train.Goals as goal

pub returns : goal.returns
returns c =
    let x = c.args in
    train_put x.answer.now c.put.new.dst c.put_received.new.dst x.received x.reception.response x.reception.message c.put.ensures.0 c.put_received.ensures
