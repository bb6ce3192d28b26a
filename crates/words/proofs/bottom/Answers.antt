-- `words::bottom` meets its contract: the trailing zeros of a word that is not 0 lie below its lowest set bit. Assumes nothing.
use native.Mathlib.Omega.{arith}
use Rattle.words.proofs.Bits.{bottom_bit}
use Rattle.words.proofs.bottom.Goals as goal

pub overflow_cast-result : goal.overflow_cast-result
overflow_cast-result c = omega (arith, (bottom_bit 64 c.args.word c.requires c.ranges.word.fits).within)

pub returns : goal.returns
returns c = bottom_bit 64 c.args.word c.requires c.ranges.word.fits
