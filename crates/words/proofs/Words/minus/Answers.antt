-- `words::Words::minus` meets its contract: on each pair of words it is the and of a bit and another's complement, so on each pair of marks. Assumes nothing.
use Prim.Native.Nat.{◌-◌, ◌^◌}
use mathlib.Core.Bool.{not, ◌&&◌}
use lib.Bits.{bit_and}
use borrow.Author.Rules.{rules}
use Rattle.words.proofs.Wordwise.{zip_marks, minuses}
use Rattle.words.proofs.Words.minus.Goals as goal

pub returns : goal.returns
returns c =
    let x = c.args in
    let f = c.from_fn.ensures.items in
    zip_marks (λ x y. bit_and x (2 ^ 64 - 1 - y)) (λ s t. s && not t) minuses x.self x.w (search rules) (search rules) c.from_fn.result f.long (λ k h. let a = f.at k 0 h in search rules)
