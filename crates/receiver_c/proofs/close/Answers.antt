-- `receiver_c::close` meets its contract: the receiver that the step leaves is put back, and past the tests the call is the step's. Assumes nothing.
use Rattle.std.specs.Prelude.{refl, []}
use Rattle.std.proofs.Common.{sym, ◌∙◌}
use Rattle.std.proofs.Math.Path.{ap}
use Rattle.receiver.specs.Answers.{Step}
use Rattle.receiver.specs.Says.{canceled}
use Rattle.receiver_answers.specs.Answers.{no_octets}
use Rattle.receiver_c.specs.Calls.{step_call}
use Rattle.receiver_c.specs.Laws.{read_none, read_same, read_room, steps, closing_passed}
use Rattle.receiver_c.proofs.close.Goals as goal

pub returns-in-Ok : goal.returns-in-Ok
returns-in-Ok g c step h =
    let image = c.args.«record».now in
    let r = c.in-Ok.receiver in
    let e = sym c.read_receiver.ensures ∙ c.in-Ok.is in
    let q = c.step-closed in
    let p = c.put_receiver.ensures in
    let s : Step = canceled q.result q.new.arg4 in
    steps no_octets image [] s _ _ [] (read_room image [] 0 r e) p.1 c.cancel_code.ensures p.0 refl
    ∙ ap (step_call no_octets image []) (h r _ q.result _ q.ensures)
    ∙ closing_passed step image c.args.store.now c.args.reading r (read_none image [] 0 r e) (read_same image [] 0 r e)
