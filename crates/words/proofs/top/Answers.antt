-- `words::top` meets its contract: a word that is not 0 has at most 63 leading zeros, and its highest set bit after them. Assumes nothing.
use native.Mathlib.Omega.{arith}
use Rattle.words.proofs.Bits.{top_bit}
use Rattle.words.proofs.top.Goals as goal

pub overflow_cast-result : goal.overflow_cast-result
overflow_cast-result c = omega (arith, (top_bit c.args.word c.requires c.ranges.word.fits).0)

pub overflow_sub-result : goal.overflow_sub-result
overflow_sub-result c = (top_bit c.args.word c.requires c.ranges.word.fits).0

pub returns : goal.returns
returns c = (top_bit c.args.word c.requires c.ranges.word.fits).1
