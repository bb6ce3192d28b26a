-- `words::Words::ones` meets its contract: the bits of the four words, counted, are the marks, counted. Assumes nothing.
use Prim.Native.Nat.{◌+◌}
use mathlib.Core.Path.{◌∙◌}
use native.Mathlib.Omega.{arith}
use lib.ListN.{get_or}
use Rattle.words.specs.Marks.{bit}
use Rattle.words.specs.Counts.{count_le}
use Rattle.words.proofs.Wordwise.{count_words}
use Rattle.words.proofs.Words.ones.Goals as goal

pub overflow_add-low : goal.overflow_add-low
overflow_add-low c =
    let w = c.args.self in
    omega (arith, c.ones_in-2.ensures, c.ones_in.ensures, count_le 64 (bit (get_or w.words 0 0)), count_le 64 (bit (get_or w.words 1 0)))

pub overflow_add-high : goal.overflow_add-high
overflow_add-high c =
    let w = c.args.self in
    omega (arith, c.ones_in-4.ensures, c.ones_in-3.ensures, count_le 64 (bit (get_or w.words 2 0)), count_le 64 (bit (get_or w.words 3 0)))

pub overflow_add-result : goal.overflow_add-result
overflow_add-result c =
    let w = c.args.self in
    omega (arith, c.ones_in-4.ensures, c.ones_in-3.ensures, c.ones_in-2.ensures, c.ones_in.ensures, count_le 64 (bit (get_or w.words 0 0)), count_le 64 (bit (get_or w.words 1 0)), count_le 64 (bit (get_or w.words 2 0)), count_le 64 (bit (get_or w.words 3 0)))

pub returns : goal.returns
returns c =
    let w = c.args.self in
    (λ i. c.ones_in.ensures i + c.ones_in-2.ensures i + (c.ones_in-3.ensures i + c.ones_in-4.ensures i)) ∙ count_words w
