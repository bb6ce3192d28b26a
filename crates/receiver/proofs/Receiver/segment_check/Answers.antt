-- The codec's rows decide, or those behind them.
use Rattle.std.specs.Prelude.{Some}
use Rattle.std.proofs.Common.{◌∙◌, sym, ap}
use Rattle.std.proofs.lemmas.Result.{err_from_is_err_and}
use Rattle.tsar.specs.Numbers.{validated_by}
use Rattle.tsar.specs.Writing.{codec_rows}
use Rattle.receiver.specs.Numbers.{receive_number}
use Rattle.receiver.specs.Steps.{check_says, taken_rows}
use Rattle.receiver.proofs.InOrder.{front_decides}
use Rattle.receiver.proofs.Receiver.segment_check.Goals as goal

pub returns-in_err-validate : goal.returns-in_err-validate
returns-in_err-validate c =
    let x = c.args in
    let r = err_from_is_err_and c.from_residual.result c.from_residual.ensures.1 in
    ap check_says r.1 ∙ ap (λ e. Some (receive_number e)) r.2
    ∙ front_decides (codec_rows x.self.now.terms.version x.brought.segment x.brought.octets) (taken_rows x.self.now x.brought) _ (sym (ap validated_by c.in_err-validate.was) ∙ c.validate.ensures)
