-- The rows up to 32 decide, or those behind them.
use Rattle.std.specs.Prelude.{Some}
use Rattle.std.proofs.Common.{◌∙◌, sym, ap}
use Rattle.std.proofs.lemmas.Result.{err_from_is_err_and}
use Rattle.receiver.specs.Numbers.{receive_number}
use Rattle.receiver.specs.Steps.{check_says, address_rows, segment_rows}
use Rattle.receiver.proofs.InOrder.{behind_decides, front_decides}
use Rattle.receiver.proofs.Receiver.arrival_check.Goals as goal

pub returns-in_err-address_check : goal.returns-in_err-address_check
returns-in_err-address_check c =
    let x = c.args in
    let r = err_from_is_err_and c.from_residual.result c.from_residual.ensures.1 in
    ap check_says r.1 ∙ ap (λ e. Some (receive_number e)) r.2
    ∙ front_decides (address_rows x.self.now x.brought x.store.now x.output.now) (segment_rows x.self.now x.brought) _ (sym (ap check_says c.in_err-address_check.was) ∙ c.address_check.ensures)

pub returns : goal.returns
returns c =
    let x = c.args in
    behind_decides (address_rows x.self.now x.brought x.store.now x.output.now) (segment_rows x.self.now x.brought) _ (sym (ap check_says c.in_ok-address_check.was) ∙ c.address_check.ensures)
    c.segment_check.ensures
