-- `words::ones_in` meets its contract: the ones of a word are its bits, counted. Assumes nothing.
use mathlib.Core.Path.{sym, ap, ◌∙◌}
use native.Mathlib.Nat.{mod-eq_of_lt}
use native.Mathlib.Omega.{arith}
use lib.Count.{ones, ones-le}
use Rattle.words.proofs.Bits.{ones_below}
use Rattle.words.proofs.ones_in.Goals as goal

pub overflow_cast-result : goal.overflow_cast-result
overflow_cast-result c = omega (arith, ones-le 64 c.args.word c.ranges.word.fits)

pub returns : goal.returns
returns c = ap ones (sym (mod-eq_of_lt c.ranges.word.fits)) ∙ ones_below 64 c.args.word
