-- `codec_c::catkhize_decode` meets its contract: the test of its answer, then what decode_segment told. Assumes nothing.
use borrow.Author.Tests.{lt-ltb, le-ltb}
use mathlib.Core.Path.{sym, ap, ◌∙◌}
use mathlib.Core.List.{List}
use Prim.Native.Nat.{ℕ, ◌≤◌}
use lib.ListN.{length}
use Rattle.tsar.specs.Rows.{Passed, start, skip, stop}
use Rattle.tsar.specs.Reading.{told_by}
use Rattle.std.specs.Prelude.{Result}
use Rattle.tsar.specs.declared.DecodedSegment.{DecodedSegment}
use Rattle.tsar.specs.declared.Error.{Error}
use Rattle.codec_c.specs.Codes.{short}
use Rattle.codec_c.specs.Calls.{decode_call, decode_gives, decode_tests}
use Rattle.codec_c.specs.Laws.{decode_refused, decode_passed}
use Rattle.codec_c.proofs.catkhize_decode.Goals as goal

-- the row of a call was passed
passed_1 : (answer : List ℕ) → 31 ≤ length answer → Passed (decode_tests answer) 1
passed_1 answer h = skip (start (decode_tests answer)) (le-ltb _ _ h)

pub returns-then-answer-lt-PART_OCTETS : goal.returns-then-answer-lt-PART_OCTETS
returns-then-answer-lt-PART_OCTETS c =
    let x = c.args in
    decode_refused x.octets.now x.version x.answer.now short (stop short (start (decode_tests x.answer.now)) (lt-ltb _ _ c.if-answer-lt-PART_OCTETS.true))

pub returns-in-Err : goal.returns-in-Err
returns-in-Err c =
    let x = c.args in
    let d = c.decode_segment in
    ap (λ (n : ℕ). decode_call n x.answer.now) c.error_code.ensures
    ∙ ap (λ (r : Result DecodedSegment Error). decode_gives (told_by r) x.answer.now) (sym c.in-Err.is)
    ∙ decode_passed x.octets.now x.version x.answer.now (told_by d.result) (passed_1 x.answer.now c.if-answer-lt-PART_OCTETS.false).rest d.ensures

pub returns-in-Ok : goal.returns-in-Ok
returns-in-Ok c =
    let x = c.args in
    let d = c.decode_segment in
    ap (decode_call 0) c.put_part.ensures
    ∙ ap (λ (r : Result DecodedSegment Error). decode_gives (told_by r) x.answer.now) (sym c.in-Ok.is)
    ∙ decode_passed x.octets.now x.version x.answer.now (told_by d.result) (passed_1 x.answer.now c.if-answer-lt-PART_OCTETS.false).rest d.ensures
