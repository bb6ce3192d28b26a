-- `plan_image::get_heads` meets its contract. The loop's invariant: the heads before i are read, and each of them passes. Assumes nothing.
use Rattle.std.specs.Prelude.{◌≡◌, true, ℕ, ◌*◌, replicate}
use Rattle.std.proofs.Common.{sym, ap, ◌∙◌, arith, length-set}
use Rattle.std.proofs.lemmas.List.{length-replicate}
use Rattle.tsar.specs.declared.SegmentHead.{SegmentHead}
use Rattle.image.specs.Spelling.{rest_of}
use Rattle.image.specs.Many.{all_pass, read_none, pass_none, get_turn, pass_turn, pass_fails, get_last}
use Rattle.image.specs.Segments.{head_of, head_ok}
use Rattle.image.proofs.Read as read
use Rattle.plan_image.proofs.get_heads.Goals as goal

pub loop-i-init : goal.loop-i-init
loop-i-init c =
    let l = c.args.l.now in
    let h : SegmentHead = c.no_head-heads.result in
    (length-replicate 256 h, read_none head_of 23 l (replicate 256 h), sym (pass_none head_ok 23 l))

pub returns-in_err-head : goal.returns-in_err-head
returns-in_err-head c =
    let l = c.loop-i in
    let t = c.args.l.now in
    let g = read.read_none _ _ (sym c.get_head.ensures ∙ c.in_err-head.was) in
    read.gives_none _ _ _ (pass_fails head_ok 23 256 t l.i c.loop-i-test.true (sym (ap head_ok (rest_of (23 * l.i) t)) ∙ g)) c.from_residual.ensures

pub loop-i-preserved : goal.loop-i-preserved
loop-i-preserved c =
    let l = c.loop-i in
    let t = c.args.l.now in
    let x = c.in_ok-head.field-0 in
    let g = read.read_some _ _ _ (sym c.get_head.ensures ∙ c.in_ok-head.was) in
    let e = rest_of (23 * l.i) t in (
      length-set l.head-items l.i x ∙ l.invariant.0,
      get_turn head_of 23 t l.head-items l.i x (omega (arith, c.loop-i-test.true, l.invariant.0)) l.invariant.1 (sym g.1 ∙ ap head_of e),
      sym (pass_turn head_ok 23 t l.i true true (sym l.invariant.2) (sym g.0 ∙ ap head_ok e)),
    )

pub returns : goal.returns
returns c =
    let l = c.loop-i in
    let t = c.args.l.now in
    let e : l.i ≡ 256 = omega arith in
    read.gives_some _ _ _ (ap (λ (n : ℕ). all_pass head_ok 23 n t) (sym e) ∙ l.invariant.2) (get_last head_of 23 256 t l.head-items l.i e l.invariant.0 l.invariant.1)
