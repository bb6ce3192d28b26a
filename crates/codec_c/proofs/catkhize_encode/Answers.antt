-- `codec_c::catkhize_encode` meets its contract: its own tests are the rows of `encode_tests`, in order, and past them it is `encode_into`.
-- Assumes nothing.
use borrow.Author.Tests.{lt-ltb, le-ltb}
use mathlib.Core.Path.{sym, ap, ◌∙◌}
use mathlib.Core.Bool.{not}
use mathlib.Core.List.{List}
use native.Mathlib.Omega.{arith}
use Prim.Native.Nat.{ℕ, ◌≤◌}
use lib.ListN.{length}
use Rattle.tsar.specs.Rows.{Passed, start, skip, stop}
use Rattle.image.proofs.Read.{read_some, read_none}
use Rattle.codec_c.specs.Codes.{short, misspelled}
use Rattle.codec_c.specs.Calls.{encode_tests}
use Rattle.codec_c.specs.Laws.{encode_refused, encode_passed}
use Rattle.codec_c.proofs.catkhize_encode.Goals as goal

-- one row after another was passed
passed_1 : (segment answer : List ℕ) → 15 ≤ length segment → Passed (encode_tests segment answer) 1
passed_1 segment answer h = skip (start (encode_tests segment answer)) (le-ltb _ _ h)

passed_2 : (segment answer : List ℕ) → 15 ≤ length segment → 8 ≤ length answer → Passed (encode_tests segment answer) 2
passed_2 segment answer h k = skip (passed_1 segment answer h) (le-ltb _ _ k)

pub returns-then-answer-lt-WRITTEN_OCTETS : goal.returns-then-answer-lt-WRITTEN_OCTETS
returns-then-answer-lt-WRITTEN_OCTETS c =
    let x = c.args in
    encode_refused x.segment.now x.«data».now x.version x.output.now x.answer.now short
    (stop short (passed_1 x.segment.now x.answer.now (omega arith)) (lt-ltb _ _ c.if-answer-lt-WRITTEN_OCTETS.true))

pub returns-in_default : goal.returns-in_default
returns-in_default c =
    let x = c.args in
    encode_refused x.segment.now x.«data».now x.version x.output.now x.answer.now misspelled
    (stop misspelled (passed_2 x.segment.now x.answer.now (omega arith) c.if-answer-lt-WRITTEN_OCTETS.false)
    (ap not (read_none _ _ (sym c.get_segment.ensures ∙ c.in_default.is))))

pub returns : goal.returns
returns c =
    let x = c.args in
    let g = read_some _ _ _ (sym c.get_segment.ensures ∙ c.in-Some.is) in
    c.encode_into.ensures
    ∙ encode_passed x.segment.now x.«data».now x.version x.output.now x.answer.now c.in-Some.segment
    (skip (passed_2 x.segment.now x.answer.now (omega arith) c.if-answer-lt-WRITTEN_OCTETS.false) (ap not g.0)).rest
    (sym g.1)
