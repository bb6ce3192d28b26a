-- `orders::count_up` meets its contract. The loop's invariant: the places before i are counted, the others as they were. Assumes nothing.
use Prim.Native.Nat.{ℕ}
use mathlib.Core.Path.{◌≡◌, ap, ◌∙◌}
use mathlib.Core.List.{List, ◌++◌, append-nil}
use native.Mathlib.Numerals.{add-one}
use native.Mathlib.Omega.{arith}
use lib.ListN.{length, set, drop}
use lib.Seq.{drop-length}
use Rattle.orders.specs.Orders.{count_from}
use Rattle.orders.proofs.Steps.{count_more}
use Rattle.orders.proofs.count_up.Goals as goal

pub loop-i-preserved : goal.loop-i-preserved
loop-i-preserved c =
    let l = c.loop-i in
    ap (λ (x : List ℕ). set x l.i l.i) l.invariant ∙ rw add-one (count_more c.args.places.now l.i (omega arith))

pub returns : goal.returns
returns c =
    let l = c.loop-i in
    let p = c.args.places.now in
    let e : l.i ≡ length p = omega arith in
    l.invariant ∙ ap (λ (k : ℕ). count_from 0 k ++ drop k p) e ∙ ap (λ (r : List ℕ). count_from 0 (length p) ++ r) (drop-length p) ∙ append-nil (count_from 0 (length p))
