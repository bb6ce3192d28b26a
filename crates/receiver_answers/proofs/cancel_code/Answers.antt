-- `receiver_answers::cancel_code` meets its contract, case by case. Assumes nothing.
use Rattle.receiver_answers.proofs.cancel_code.Goals as goal

pub returns-in-Err : goal.returns-in-Err
returns-in-Err c = rw c.in-Err.is c.error_code.ensures
