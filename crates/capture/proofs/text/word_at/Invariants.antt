-- What is left has the word asked for, as many places earlier as words are passed.
use Rattle.std.proofs.Common.{◌≡◌, ◌-◌}
use Rattle.capture.specs.Text.{word_at}
use Rattle.capture.proofs.text.word_at.Given as goal

abbrev pub invariant-loop : goal.invariant-loop
invariant-loop l = word_at l.t (l.i - l.counter) ≡ word_at l.s l.i
