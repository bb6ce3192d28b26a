-- `receiver_image::slots::get_lengths` meets its contract. The loop's invariant: the first i lengths are read, and their octets pass. Assumes nothing.
use Prim.Native.Nat.{ℕ}
use mathlib.Core.Path.{◌∙◌}
use native.Mathlib.Omega.{arith}
use borrow.Author.Rules.{rules}
use borrow.Author.Count.{below_more}
use lib.ListN.{replicate, length-replicate, length-set}
use borrow.Author.Rules.{rules}
use Rattle.image.specs.Spelling.{spells}
use Rattle.image.specs.Numbers.{spell, number_of, number_layout}
use Rattle.image.specs.Many.{read_none, get_turn, get_last, all_spells, pass_all}
use Rattle.receiver_image.proofs.slots.get_lengths.Goals as goal

pub loop-i-init : goal.loop-i-init
loop-i-init c =
    let x = c.args in
    (length-replicate {A = ℕ} 256 0, read_none (number_of 2) 2 x.l.now (replicate 256 0), λ k h. absurd (omega arith))

pub loop-i-preserved : goal.loop-i-preserved
loop-i-preserved c =
    let l = c.args.l.now in
    let t = c.loop-i in
    let n = c.read in (
      length-set t.n-items t.i n.result ∙ t.invariant.0,
      get_turn (number_of 2) 2 l t.n-items t.i n.result (omega arith) t.invariant.1 n.ensures.reads,
      below_more _ _ t.invariant.2 n.ensures.passes,
    )

pub returns : goal.returns
returns c =
    let l = c.args.l.now in
    let t = c.loop-i in (
      get_last (number_of 2) 2 256 l t.n-items t.i (omega arith) t.invariant.0 t.invariant.1,
      all_spells (number_layout 2) 0 256 l (search rules) ∙ pass_all (spells (spell 2) (number_of 2) 2) 2 256 l (λ k h. t.invariant.2 k (omega arith)),
    )
