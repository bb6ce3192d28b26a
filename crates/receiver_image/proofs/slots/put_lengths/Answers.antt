-- `receiver_image::slots::put_lengths` meets its contract. The loop's invariant: the first i lengths are written, and fit. Assumes nothing.
use Prim.Native.Nat.{ℕ, ◌+◌, ◌*◌}
use mathlib.Core.Path.{◌≡◌, ap, ◌∙◌}
use mathlib.Core.List.{List}
use native.Mathlib.Omega.{arith}
use borrow.Author.Count.{below_more}
use lib.ListN.{length, get_or, take}
use lib.Seq.{sets, length-sets, take_all}
use Rattle.image.specs.Numbers.{spell, length_spell}
use Rattle.image.specs.Many.{spell_all, spell_none, put_turn}
use Rattle.receiver_image.proofs.slots.put_lengths.Goals as goal
use Rattle.receiver_image.proofs.slots.put_lengths.Goals.{Start}

-- there are 256 lengths
lengths_256 : (c : Start) → length c.args.lengths ≡ 256
lengths_256 c = c.well_formed.1.0.1.0.1

pub loop-i-init : goal.loop-i-init
loop-i-init c =
    let x = c.args in
    (spell_none (spell 2) x.dst.now 91 x.lengths, λ k h. absurd (omega arith))

pub loop-i-preserved : goal.loop-i-preserved
loop-i-preserved c =
    let x = c.args in
    let v = c.loop-i.invariant in
    let i = c.loop-i.i in
    let p = c.put.ensures in
    let m : length x.lengths ≡ 256 = lengths_256 (goal.at.loop-i-preserved c).Start in (
      p.0 ∙ ap (λ (l : List ℕ). sets l (91 + 2 * i) ((spell 2) (get_or x.lengths i 0))) v.0
          ∙ put_turn (spell 2) 2 0 x.dst.now 91 x.lengths i (λ k h. length_spell 2 (get_or x.lengths k 0)) (omega arith),
      below_more _ _ v.1 p.1,
    )

pub shape_of-dst : goal.shape_of-dst
shape_of-dst c =
    let x = c.args in
    ap length c.loop-i.invariant.0 ∙ length-sets x.dst.now 91 (spell_all (spell 2) (take c.loop-i.i x.lengths))

pub returns : goal.returns
returns c =
    let x = c.args in
    let v = c.loop-i.invariant in
    let i = c.loop-i.i in
    let m : length x.lengths ≡ 256 = lengths_256 (goal.at.returns c).Start in (
      v.0 ∙ ap (λ (l : List ℕ). sets x.dst.now 91 (spell_all (spell 2) l)) (take_all i x.lengths (omega arith)),
      record { many = m; each = λ k h. v.1 k (omega arith) },
    )
