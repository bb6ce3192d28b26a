-- Refused with nothing changed, late, or settled; a segment that passes the checks is short and early enough to be settled.
use Rattle.std.specs.Prelude.{Err}
use Rattle.std.proofs.Common.{◌∙◌, sym, ap}
use Rattle.std.proofs.lemmas.Result.{err_from_is_err_and}
use Rattle.receiver.specs.Says.{received}
use Rattle.receiver.specs.Steps.{check_says}
use Rattle.receiver.proofs.Calling.{fits, receive_late, receive_refused, receive_settled}
use Rattle.receiver.proofs.Receiver.take.Goals as goal

pub settle-requires : goal.settle-requires
settle-requires c =
    let x = c.args in
    fits x.self.now x.brought x.«data».now x.store.now x.output.now c.requires (sym (ap check_says c.in_ok-arrival_check.was) ∙ c.arrival_check.ensures)

pub returns-in_err-arrival_check : goal.returns-in_err-arrival_check
returns-in_err-arrival_check c =
    let x = c.args in
    let r = err_from_is_err_and c.from_residual.result c.from_residual.ensures.1 in
    ap (λ o. received (record { answer = o; receiver = x.self.now }) x.store.now x.output.now) (r.1 ∙ ap Err r.2)
    ∙ receive_refused x.self.now x.brought x.«data».now x.store.now x.output.now c.requires _ (sym (ap check_says c.in_err-arrival_check.was) ∙ c.arrival_check.ensures)

pub returns-then-late : goal.returns-then-late
returns-then-late c =
    let x = c.args in
    receive_late x.self.now x.brought x.«data».now x.store.now x.output.now c.requires _ (sym (ap check_says c.in_ok-arrival_check.was) ∙ c.arrival_check.ensures) (sym c.late.ensures ∙ c.if-late.true) c.too_late.ensures

pub returns : goal.returns
returns c =
    let x = c.args in
    c.settle.ensures ∙ receive_settled x.self.now x.brought x.«data».now x.store.now x.output.now c.requires (sym (ap check_says c.in_ok-arrival_check.was) ∙ c.arrival_check.ensures) (sym c.late.ensures ∙ c.if-late.false)
