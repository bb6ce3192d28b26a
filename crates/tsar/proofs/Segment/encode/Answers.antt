-- `tsar::Segment::encode` meets its contract: a refusal of `validate` is the first row that holds, by `refused_first`, and past the tests only
-- the room counts, by `passed_first`, which is what `write` ensures. Assumes nothing.
use Rattle.std.proofs.Common.{sym, ap, ◌∙◌, Err}
use Rattle.std.proofs.lemmas.Result.{err_from_is_err_and}
use Rattle.tsar.specs.Writing.{leaves}
use Rattle.tsar.specs.Numbers.{validated_by}
use Rattle.tsar.proofs.Passes.{passes_writable}
use Rattle.tsar.proofs.Writes.{refused_first, passed_first}
use Rattle.tsar.proofs.Segment.encode.Goals as goal

pub write-requires : goal.write-requires
write-requires c =
    let a = c.args in
    (passes_writable a.version a.self _ (sym c.validate.ensures ∙ ap validated_by c.in_ok-validate.was)).1

pub returns-in_err-validate : goal.returns-in_err-validate
returns-in_err-validate c =
    let a = c.args in
    let q = err_from_is_err_and c.from_residual.result c.from_residual.ensures.1 in
    ap (λ r. leaves r a.output.now) (q.1 ∙ ap Err q.2)
    ∙ sym (refused_first a.version a.self a.«data».now a.output.now _ (sym c.validate.ensures ∙ ap validated_by c.in_err-validate.was))

pub returns : goal.returns
returns c =
    let a = c.args in
    c.write.ensures
    ∙ sym (passed_first a.version a.self a.«data».now a.output.now (sym c.validate.ensures ∙ ap validated_by c.in_ok-validate.was))
