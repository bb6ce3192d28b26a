-- `plan_image::read_heads` meets its contract. The loop's invariant: the heads before i are read. Assumes nothing.
use Rattle.std.specs.Prelude.{◌*◌, replicate}
use Rattle.std.proofs.Common.{ap, ◌∙◌, arith, length-set}
use Rattle.std.proofs.lemmas.List.{length-replicate}
use Rattle.tsar.specs.declared.SegmentHead.{SegmentHead}
use Rattle.image.specs.Spelling.{rest_of}
use Rattle.image.specs.Many.{read_none, get_turn, get_last}
use Rattle.image.specs.Segments.{head_of}
use Rattle.plan_image.proofs.read_heads.Goals as goal

pub loop-i-init : goal.loop-i-init
loop-i-init c =
    let l = c.args.l.now in
    let h : SegmentHead = c.no_head-heads.result in
    (length-replicate 256 h, read_none head_of 23 l (replicate 256 h))

pub loop-i-preserved : goal.loop-i-preserved
loop-i-preserved c =
    let l = c.loop-i in
    let t = c.args.l.now in
    let x = c.read_head.result in (
      length-set l.head-items l.i x ∙ l.invariant.0,
      get_turn head_of 23 t l.head-items l.i x (omega (arith, c.loop-i-test.true, l.invariant.0)) l.invariant.1 (c.read_head.ensures ∙ ap head_of (rest_of (23 * l.i) t)),
    )

pub returns : goal.returns
returns c =
    let l = c.loop-i in
    let t = c.args.l.now in
    get_last head_of 23 256 t l.head-items l.i (omega arith) l.invariant.0 l.invariant.1
