-- `sender::Progress::accepted` meets its contract: what comes after the advance only takes more tickets. Assumes nothing.
use mathlib.Core.Path.{sym, ap, ◌∙◌}
use Rattle.std.specs.Prelude.{Option}
use Rattle.tsar.specs.Rows.{Refusal}
use Rattle.sender.specs.declared.Outline.{Outline}
use Rattle.sender.specs.Steps.{accepted_next}
use Rattle.sender.specs.Calls.{or_tickets, on_refusal, advanced_to, after_advance, accepted_in}
use Rattle.sender.specs.Says.{checked_by}
use Rattle.sender.specs.Tickets.{within}
use Rattle.sender.proofs.Stepping.{word_grows}
use Rattle.sender.proofs.Turning.{course_is, none_exit}
use Rattle.sender.proofs.Progress.accepted.Goals as goal

pub returns-in_err-advanced : goal.returns-in_err-advanced
unfolding accepted_in
returns-in_err-advanced c =
    let x = c.args in
    let o = x.outline in
    let q = advanced_to o x.self x.monotonic_ms in
    let t = after_advance x.token.own x.token.number x.token.ticket q (accepted_next o.count o.acknowledgment_window q x.monotonic_ms) in
    let s = ap (λ (u : Outline). within (advanced_to u x.self x.monotonic_ms)) (course_is c.check_word.result c.in_ok-course.course o c.check_word.ensures.course c.in_ok-course.was) in
    none_exit x.self q t c.advanced.result c.in_err-advanced.field-0.0 c.from_residual-in_err-advanced.result (c.advanced.ensures ∙ s) (sym c.ok_or.ensures.value ∙ c.in_err-advanced.was) c.from_residual-in_err-advanced.ensures.1 (word_grows x.token.own x.token.number x.token.ticket o.count o.acknowledgment_window q x.monotonic_ms)
    ∙ ap (λ (r : Option Refusal). or_tickets x.self (on_refusal r x.self t)) (sym (sym c.check_word.ensures.rows ∙ ap checked_by c.in_ok-course.was))
