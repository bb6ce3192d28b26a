-- `sender_c::refuse` meets its contract: what the record spells decides, and then the number, by `hands`. Assumes nothing.
use Rattle.std.specs.Prelude.{◌≡◌, refl, ℕ, Result, Err}
use Rattle.std.specs.Result.{MatchResult}
use Rattle.std.proofs.Common.{sym}
use Rattle.std.proofs.Math.Path.{subst}
use Rattle.sender.specs.declared.Sender.{Sender}
use Rattle.sender.specs.declared.Sent.{Sent}
use Rattle.sender_c.specs.Calls.{call, refused_by}
use Rattle.sender_c.specs.Laws.{hands}
use Rattle.sender_c.proofs.refuse.Goals as goal

pub returns-in-Err : goal.returns-in-Err
returns-in-Err c =
    let x = c.args in
    let P = refused_by x.code in
    let r : Result Sent ℕ = Err c.in-Err.earlier in
    hands x.«record».now x.answer.now P c.read_sender.result r (call c.in-Err.earlier x.«record».now x.answer.now) c.read_sender.ensures
    (subst (λ (q : Result Sender ℕ). MatchResult q (λ s. P s r) (λ e. r ≡ Err e)) (sym c.in-Err.is) refl)
    (refl, tt)

pub returns-in-Ok : goal.returns-in-Ok
returns-in-Ok c =
    let x = c.args in
    let P = refused_by x.code in
    let r : Result Sent ℕ = Err x.code in
    hands x.«record».now x.answer.now P c.read_sender.result r (call x.code x.«record».now x.answer.now) c.read_sender.ensures
    (subst (λ (q : Result Sender ℕ). MatchResult q (λ s. P s r) (λ e. r ≡ Err e)) (sym c.in-Ok.is) refl)
    (refl, tt)
