-- `sender_c::on_sender` meets its contract: what the record spells decides, and then what the step gives, by `hands`. Assumes nothing.
use Rattle.std.specs.Prelude.{◌≡◌, refl, ℕ, Result, Ok, Err}
use Rattle.std.specs.Result.{MatchResult}
use Rattle.std.proofs.Common.{sym}
use Rattle.std.proofs.Math.Path.{subst}
use Rattle.sender.specs.declared.Sender.{Sender}
use Rattle.sender.specs.declared.Sent.{Sent}
use Rattle.sender_image.specs.Images.{record_of}
use Rattle.sender_c.specs.Calls.{call}
use Rattle.sender_c.specs.Laws.{hands}
use Rattle.sender_c.proofs.Handed.{given_by, given}
use Rattle.sender_c.proofs.on_sender.Goals as goal

pub returns-in-Err : goal.returns-in-Err
returns-in-Err g c =
    let x = c.args in
    let F = goal.F-post g x.step in
    let P = given_by F in
    let r : Result Sent ℕ = Err c.in-Err.code in
    λ tests step e h. hands x.«record».now x.answer.now P c.read_sender.result r (call c.in-Err.code x.«record».now x.answer.now) c.read_sender.ensures
    (subst (λ (q : Result Sender ℕ). MatchResult q (λ s. P s r) (λ e. r ≡ Err e)) (sym c.in-Err.is) refl)
    (refl, tt) tests step (given tests step F (record_of x.«record».now) e h)

pub returns-in-Ok : goal.returns-in-Ok
returns-in-Ok g c =
    let x = c.args in
    let F = goal.F-post g x.step in
    let P = given_by F in
    let r : Result Sent ℕ = Ok c.taken.result in
    let p = c.put_sent in
    λ tests step e h. hands x.«record».now x.answer.now P c.read_sender.result r (call p.result p.new.«record» p.new.answer) c.read_sender.ensures
    (subst (λ (q : Result Sender ℕ). MatchResult q (λ s. P s r) (λ e. r ≡ Err e)) (sym c.in-Ok.is) c.taken.ensures)
    p.ensures tests step (given tests step F (record_of x.«record».now) e h)
