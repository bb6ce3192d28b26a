-- `receiver_c::catkhize_receiver_receive` meets its contract: the receiver that `receive` leaves is put back, and the answer written. Assumes nothing.
use Rattle.std.specs.Prelude.{not}
use Rattle.std.proofs.Common.{sym, ◌∙◌}
use Rattle.std.proofs.Math.Path.{ap}
use Rattle.std.proofs.lemmas.Bool.{le-ltb}
use Rattle.image.proofs.Read.{read_some}
use Rattle.tsar.specs.Rows.{refusal_pass, refusal_none}
use Rattle.receiver.specs.Answers.{Step}
use Rattle.receiver.specs.Says.{received}
use Rattle.receiver_answers.specs.Answers.{reception_octets}
use Rattle.receiver_c.specs.Calls.{step_call, front_tests, receive_tests}
use Rattle.receiver_c.specs.Laws.{read_none, read_same, read_room, steps, receive_passed}
use Rattle.receiver_c.proofs.catkhize_receiver_receive.Goals as goal

pub returns-else-protocol-gt-LAST_PROTOCOL : goal.returns-else-protocol-gt-LAST_PROTOCOL
returns-else-protocol-gt-LAST_PROTOCOL c =
    let x = c.args in
    let image = x.«record».now in
    let answer = x.answer.now in
    let r = c.in-Ok.receiver in
    let e = sym c.read_receiver.ensures ∙ c.in-Ok.is in
    let g = c.receive-received in
    let p = c.put_receiver.ensures in
    let a = c.put_reception.ensures in
    let b = read_some _ _ _ (sym c.get_segment.ensures ∙ c.in-Some.is) in
    let v = c.protocol_of-served in
    let s : Step = received g.result g.new.store g.new.output in
    let none = read_none image answer 55 r e in
    let front = refusal_none (front_tests image answer 55) none in
    let past =
    refusal_pass (receive_tests image x.protocol x.segment.now answer)
    (front 0, (le-ltb _ _ c.if-segment-lt-SEGMENT_OCTETS.false, (front 1, (front 2, (ap not b.0, (le-ltb _ _ c.if-protocol-gt-LAST_PROTOCOL.false, tt)))))) in
    steps reception_octets image answer s _ _ _ (read_room image answer 55 r e) p.1 a.0 p.0 a.1
    ∙ ap (step_call reception_octets image answer) g.ensures
    ∙ receive_passed image x.store.now x.output.now x.peer_kind x.peer_width x.peer_value x.protocol x.protocol_octet x.segment.now x.«data».now x.unparsed x.reading answer r v.result
    c.in-Some.arrived past (read_same image answer 55 r e) v.ensures (sym b.1)
