-- `train_c::catkhize_receiver_train` meets its contract: its own tests are the rows of `train_tests`, in order, and past them `walk` gives the train,
-- of which record and answer are written. Assumes nothing.
use borrow.Author.Tests.{lt-ltb, le-ltb}
use mathlib.Core.Path.{sym, ap, ◌∙◌}
use mathlib.Core.Bool.{not}
use Rattle.image.proofs.Read.{read_some, read_none}
use Rattle.tsar.specs.Rows.{start, skip, stop}
use Rattle.codec_c.specs.Codes.{short, misspelled, unnamed}
use Rattle.train_c.specs.Walk.{Train, walked}
use Rattle.train_c.specs.Calls.{Asked, train_tests}
use Rattle.train_c.specs.Laws.{train_refused, train_walked, train_done_lem}
use Rattle.train_c.proofs.catkhize_receiver_train.Goals as goal
use Rattle.train_c.proofs.catkhize_receiver_train.Goals.{After-walk-end, Else-answer-lt-TRAIN_OCTETS, Else-protocol-gt-LAST_PROTOCOL, Else-record-lt-RECEIVER_OCTETS, Start}

-- what a call is asked
abbrev asked : Start → Asked
asked s =
    record {
      image = s.args.«record».now;
      store = s.args.store.now;
      output = s.args.output.now;
      peer = record { kind = s.args.peer_kind; width = s.args.peer_width; value = s.args.peer_value };
      protocol = s.args.protocol;
      octet = s.args.protocol_octet;
      octets = s.args.octets.now;
      lengths = s.args.lengths.now;
      reading = s.args.reading;
      answer = s.args.answer.now;
    }

-- where the train ended
abbrev ended : After-walk-end → Train
ended c = walked c.walk-end.result c.walk-end.new.store c.walk-end.new.output

pub returns-then-record-lt-RECEIVER_OCTETS : goal.returns-then-record-lt-RECEIVER_OCTETS
returns-then-record-lt-RECEIVER_OCTETS c = train_refused (asked (goal.at.returns-then-record-lt-RECEIVER_OCTETS c).Start) short (stop short (start (train_tests (asked (goal.at.returns-then-record-lt-RECEIVER_OCTETS c).Start))) (lt-ltb _ _ c.if-record-lt-RECEIVER_OCTETS.true))

pub returns-then-answer-lt-TRAIN_OCTETS : goal.returns-then-answer-lt-TRAIN_OCTETS
returns-then-answer-lt-TRAIN_OCTETS c = train_refused (asked (goal.at.returns-then-answer-lt-TRAIN_OCTETS c).Start) short (stop short (skip (start (train_tests (asked (goal.at.returns-then-answer-lt-TRAIN_OCTETS c).Start))) (le-ltb _ _ c.if-record-lt-RECEIVER_OCTETS.false)) (lt-ltb _ _ c.if-answer-lt-TRAIN_OCTETS.true))

pub returns-in_default : goal.returns-in_default
returns-in_default c =
    train_refused (asked (goal.at.returns-in_default c).Start) misspelled (stop short (skip (skip (start (train_tests (asked (goal.at.returns-in_default c).Start))) (le-ltb _ _ c.if-record-lt-RECEIVER_OCTETS.false)) (le-ltb _ _ c.if-answer-lt-TRAIN_OCTETS.false)) (ap not (read_none _ _ (sym c.get_receiver.ensures ∙ c.in_default.is))))

pub returns-then-protocol-gt-LAST_PROTOCOL : goal.returns-then-protocol-gt-LAST_PROTOCOL
returns-then-protocol-gt-LAST_PROTOCOL c = train_refused (asked (goal.at.returns-then-protocol-gt-LAST_PROTOCOL c).Start) unnamed (stop short (skip (skip (skip (start (train_tests (asked (goal.at.returns-then-protocol-gt-LAST_PROTOCOL c).Start))) (le-ltb _ _ c.if-record-lt-RECEIVER_OCTETS.false)) (le-ltb _ _ c.if-answer-lt-TRAIN_OCTETS.false)) (ap not (read_some _ _ _ (sym c.get_receiver.ensures ∙ c.in-Some.is)).0)) (lt-ltb _ _ c.if-protocol-gt-LAST_PROTOCOL.true))

pub returns : goal.returns
returns c =
    let a = asked (goal.at.returns c).Start in
    train_done_lem a (ended (goal.at.returns c).After-walk-end) c.put_receiver.new.dst c.put_train.new.answer ((skip (skip (skip (skip (start (train_tests (asked (goal.at.returns c).Start))) (le-ltb _ _ c.if-record-lt-RECEIVER_OCTETS.false)) (le-ltb _ _ c.if-answer-lt-TRAIN_OCTETS.false)) (ap not (read_some _ _ _ (sym c.get_receiver.ensures ∙ c.in-Some.is)).0)) (le-ltb _ _ c.if-protocol-gt-LAST_PROTOCOL.false)).rest) c.if-record-lt-RECEIVER_OCTETS.false
    (train_walked a (ended (goal.at.returns c).After-walk-end) c.in-Some.receiver c.protocol_of.result (sym (read_some _ _ _ (sym c.get_receiver.ensures ∙ c.in-Some.is)).1) c.protocol_of.ensures c.walk-end.ensures) c.put_receiver.ensures.1 c.put_receiver.ensures.0
    c.put_train.ensures
