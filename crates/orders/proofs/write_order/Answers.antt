-- `orders::write_order` meets its contract: the tests in front refuse as `order_rows` does, and then the places are counted and arranged. Assumes nothing.
use Prim.Native.Nat.{ℕ, ◌-◌, ◌<◌}
use mathlib.Core.Path.{ap, sym, ◌∙◌}
use mathlib.Core.List.{List}
use Rattle.std.specs.Prelude.{None}
use native.Mathlib.Omega.{arith}
use Rattle.orders.specs.Orders.{factorial}
use Rattle.orders.proofs.Written.{too_few, too_many, no_order, too_short, passes, written}
use Rattle.orders.proofs.write_order.Goals as goal
use Rattle.orders.proofs.write_order.Goals.{then-segments-lt-MIN_SEGMENTS-via-then-segments-lt-MIN_SEGMENTS, then-segments-lt-MIN_SEGMENTS-via-else-segments-lt-MIN_SEGMENTS+then-segments-gt-MAX_SEGMENTS, then-segments-lt-MIN_SEGMENTS-via-else-segments-lt-MIN_SEGMENTS+else-segments-gt-MAX_SEGMENTS+then-factorial-number}

pub returns-then-segments-lt-MIN_SEGMENTS : goal.returns-then-segments-lt-MIN_SEGMENTS
returns-then-segments-lt-MIN_SEGMENTS c =
    let a = c.args in
    elim c.then-segments-lt-MIN_SEGMENTS.branch [
      | then-segments-lt-MIN_SEGMENTS-via-then-segments-lt-MIN_SEGMENTS w ↦ too_few a.segments a.number a.output.now (omega arith)
      | then-segments-lt-MIN_SEGMENTS-via-else-segments-lt-MIN_SEGMENTS+then-segments-gt-MAX_SEGMENTS w ↦ too_many a.segments a.number a.output.now (omega arith) (omega arith)
      | then-segments-lt-MIN_SEGMENTS-via-else-segments-lt-MIN_SEGMENTS+else-segments-gt-MAX_SEGMENTS+then-factorial-number w ↦ no_order a.segments a.number a.output.now (omega arith) (omega arith) (omega (arith, w.factorial.ensures))
    ]

pub returns-then-output-segments : goal.returns-then-output-segments
returns-then-output-segments c =
    let a = c.args in
    too_short a.segments a.number a.output.now (omega arith) (omega arith) (omega (arith, c.factorial.ensures)) (omega arith)

pub returns : goal.returns
returns c =
    let a = c.args in
    let k : a.number < factorial (a.segments - 1) = omega (arith, c.factorial.ensures) in
    let u = c.count_up in
    let v = c.arrange in
    let w = written a.segments a.number a.output.now u.new.places v.new.left (omega arith) (omega arith) u.ensures v.ensures in
    ap (λ (l : List ℕ). record { refused = None; output = l }) w ∙ sym (passes a.segments a.number a.output.now (omega arith) (omega arith) k (omega arith))
