-- What is left against the forms from the index on is what all is against all of them.
use Rattle.std.proofs.Common.{◌≡◌, drop}
use Rattle.capture.specs.Forms.{words_check}
use Rattle.capture.proofs.form.check_words.Given as goal

abbrev pub invariant-loop-at : goal.invariant-loop-at
invariant-loop-at l = words_check (drop l.at-counter l.forms) l.at-counter l.t ≡ words_check l.forms 0 l.s
