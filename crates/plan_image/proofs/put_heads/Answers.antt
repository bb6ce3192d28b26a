-- `plan_image::put_heads` meets its contract. The loop's invariant: the heads before i are written, and each of them fits. Assumes nothing.
use borrow.Author.Count.{below_more}
use mathlib.Core.Path.{◌≡◌, ap, ◌∙◌}
use mathlib.Core.List.{List}
use Prim.Native.Nat.{ℕ, ◌+◌, ◌*◌}
use native.Mathlib.Omega.{arith}
use lib.ListN.{length, get_or, take}
use lib.Seq.{sets, length-sets, take_all}
use Rattle.tsar.specs.declared.SegmentHead.{SegmentHead}
use Rattle.segmentation.specs.Frozen.{no_head}
use Rattle.image.specs.Many.{spell_none}
use Rattle.image.specs.Segments.{head_image}
use Rattle.plan_image.specs.Frozen.{heads_image, heads_turn}
use Rattle.plan_image.proofs.put_heads.Goals as goal
use Rattle.plan_image.proofs.put_heads.Goals.{At-loop-i, Start}

-- there are 256 heads
many : (c : Start) → length c.args.heads ≡ 256
many c = c.well_formed.1.1.0.1.0.1

-- the octets stay as many
room : (c : At-loop-i) → length c.loop-i.dst ≡ length c.args.dst.now
room c =
    let x = c.args in
    ap length c.loop-i.invariant.0 ∙ length-sets x.dst.now x.at (heads_image (take c.loop-i.i x.heads))

pub loop-i-init : goal.loop-i-init
loop-i-init c = (spell_none head_image c.args.dst.now c.args.at c.args.heads, λ k h. absurd (omega arith))

pub put_head-requires : goal.put_head-requires
put_head-requires c = let e = room (goal.at.put_head-requires c).At-loop-i in omega arith

pub loop-i-preserved : goal.loop-i-preserved
loop-i-preserved c =
    let l = c.loop-i in
    let x = c.args in
    let p = c.put_head.ensures in
    let m = many (goal.at.loop-i-preserved c).Start in (
      p.0 ∙ ap (λ (y : List ℕ). sets y (x.at + 23 * l.i) (head_image (get_or x.heads l.i no_head))) l.invariant.0
          ∙ heads_turn x.dst.now x.at x.heads l.i (omega arith) l.invariant.1,
      below_more _ _ l.invariant.1 p.1,
    )

pub shape_of-dst : goal.shape_of-dst
shape_of-dst c = room (goal.at.shape_of-dst c).At-loop-i

pub returns : goal.returns
returns c =
    let l = c.loop-i in
    let x = c.args in
    let m = many (goal.at.returns c).Start in
    let e : take l.i x.heads ≡ x.heads = take_all l.i x.heads (omega arith) in
    (l.invariant.0 ∙ ap (λ (y : List SegmentHead). sets x.dst.now x.at (heads_image y)) e, record { many = m; each = λ k h. l.invariant.1 k (omega arith) })
