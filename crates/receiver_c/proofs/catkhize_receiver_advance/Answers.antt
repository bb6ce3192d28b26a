-- `receiver_c::catkhize_receiver_advance` meets its contract: the receiver that `advance` leaves is put back, and the answer written. Assumes nothing.
use Rattle.std.proofs.Common.{sym, ◌∙◌}
use Rattle.std.proofs.Math.Path.{ap}
use Rattle.receiver.specs.Answers.{Step}
use Rattle.receiver.specs.Says.{advanced}
use Rattle.receiver_answers.specs.Answers.{reply_octets}
use Rattle.receiver_c.specs.Calls.{step_call}
use Rattle.receiver_c.specs.Laws.{read_none, read_same, read_room, steps, advance_passed}
use Rattle.receiver_c.proofs.catkhize_receiver_advance.Goals as goal

pub returns-in-Ok : goal.returns-in-Ok
returns-in-Ok c =
    let image = c.args.«record».now in
    let answer = c.args.answer.now in
    let r = c.in-Ok.receiver in
    let e = sym c.read_receiver.ensures ∙ c.in-Ok.is in
    let g = c.advance-advanced in
    let p = c.put_receiver.ensures in
    let a = c.put_advance.ensures in
    let s : Step = advanced g.result g.new.store in
    steps reply_octets image answer s _ _ _ (read_room image answer 46 r e) p.1 a.0 p.0 a.1
    ∙ ap (step_call reply_octets image answer) g.ensures
    ∙ advance_passed image c.args.store.now c.args.reading answer r (read_none image answer 46 r e) (read_same image answer 46 r e)
