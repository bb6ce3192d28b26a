-- `receiver_answers::put_reception` meets its contract, case by case: a refusal writes nothing. Assumes nothing.
use mathlib.Core.Path.{refl}
use Rattle.receiver_answers.proofs.put_reception.Goals as goal

pub returns-in-Err : goal.returns-in-Err
returns-in-Err c = rw c.in-Err.is (c.error_code.ensures, refl)

pub returns-in-Ok : goal.returns-in-Ok
returns-in-Ok c = rw c.in-Ok.is (refl, c.put_received.ensures)
