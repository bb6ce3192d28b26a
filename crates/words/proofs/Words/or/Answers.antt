-- `words::Words::or` meets its contract: on each pair of words it is the or of two bits, so on each pair of marks. Assumes nothing.
use mathlib.Core.Bool.{◌||◌}
use lib.Bits.{bit_or}
use borrow.Author.Rules.{rules}
use Rattle.words.proofs.Wordwise.{zip_marks, ors}
use Rattle.words.proofs.Words.or.Goals as goal

pub returns : goal.returns
returns c =
    let x = c.args in
    let f = c.from_fn.ensures.items in
    zip_marks bit_or ◌||◌ ors x.self x.w (search rules) (search rules) c.from_fn.result f.long (λ k h. let a = f.at k 0 h in search rules)
