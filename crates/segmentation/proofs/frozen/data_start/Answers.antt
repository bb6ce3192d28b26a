-- `frozen::data_start` meets its contract. The loop's invariant: the offset is where the data of the next segment begin, and is within the limit.
-- Assumes nothing.
use mathlib.Core.Path.{◌≡◌, sym, ap, ◌∙◌}
use Rattle.std.specs.Prelude.{◌≤◌, length}
use native.Mathlib.Numerals.{add-one}
use native.Mathlib.Omega.{arith}
use borrow.Author.Tests.{le-leb}
use Rattle.segmentation.specs.Frozen.{data_before}
use Rattle.segmentation.specs.Heads.{before_zero, before_suc, start_past}
use Rattle.segmentation.proofs.frozen.data_start.Goals as goal

pub loop-head-init : goal.loop-head-init
loop-head-init c = (omega arith, sym (before_zero c.args.before.now))

pub returns-then-limit-offset : goal.returns-then-limit-offset
returns-then-limit-offset c = sym (start_past c.args.before.now c.loop-head.head-index (length c.args.before.now) c.args.limit (omega arith) (omega (arith, c.loop-head.invariant.1)))

pub loop-head-preserved : goal.loop-head-preserved
loop-head-preserved c =
    let l = c.loop-head in
    let heads = c.args.before.now in
    (omega arith, omega (arith, l.invariant.1, before_suc heads l.head-index, ap (data_before heads) (add-one l.head-index)))

pub returns : goal.returns
returns c =
    let heads = c.args.before.now in
    let b : c.loop-head.offset ≡ data_before heads (length heads) = c.loop-head.invariant.1 ∙ ap (data_before heads) (omega arith) in
    let h : data_before heads (length heads) ≤ c.args.limit = omega arith in
    simp (b, le-leb _ _ h)
