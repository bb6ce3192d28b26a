-- What follows the check of the word at the index is what the forms from there on make of what is left.
use Rattle.std.proofs.Common.{◌≡◌, suc, drop, Result, Ok, sym, ap, ◌∙◌, rules, arith}
use Rattle.std.proofs.Math.Numerals.{add-one}
use Rattle.capture.specs.declared.form.Form.{Form}
use Rattle.capture.specs.declared.form.Form.TheVariants as form
use Rattle.capture.specs.FormLaws.{words_at, any_default}
use Rattle.capture.specs.declared.form.WordFault.{WordFault}
use Rattle.capture.specs.Forms.{form_at, check_of, verdict_of, words_check}
use Rattle.capture.specs.Text.{word, after}
use Rattle.capture.proofs.form.check_words.Goals as goal

pub returns-in_err-map_err : goal.returns-in_err-map_err
returns-in_err-map_err c =
    let fs = c.forms-forms.result.now in
    let l = c.loop-at in
    let f : c.check_first.result ≡ check_of (form_at fs l.at-counter) (word l.t.now) =
    c.check_first.ensures ∙ ap (λ (g : Form). check_of g (word l.t.now)) (any_default fs l.at-counter _ form.Number (omega arith)) in
    let w = words_at fs l.at-counter l.t.now (omega arith) in
    search rules

pub loop-at-preserved : goal.loop-at-preserved
loop-at-preserved c =
    let fs = c.forms-forms.result.now in
    let l = c.loop-at in
    let i = l.at-counter in
    let f : c.check_first.result ≡ check_of (form_at fs i) (word l.t.now) =
    c.check_first.ensures ∙ ap (λ (g : Form). check_of g (word l.t.now)) (any_default fs i _ form.Number (omega arith)) in
    let k : c.check_first.result ≡ Ok tt = search rules in
    rw (add-one, c.after-t.ensures)
    (ap (λ (r : Result (Unit {0}) WordFault). verdict_of r i (words_check (drop (suc i) fs) (suc i) (after l.t.now))) (sym k ∙ f)
    ∙ sym (words_at fs i l.t.now (omega arith)) ∙ l.invariant)
