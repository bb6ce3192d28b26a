-- `orders::arrange` meets its contract. The loop's invariant: the places before i stand, those from i on are left. Assumes nothing.
use native.Mathlib.Omega.{arith}
use Rattle.orders.proofs.Steps.{at_last, turn}
use Rattle.orders.proofs.arrange.Goals as goal

pub loop-i-preserved : goal.loop-i-preserved
loop-i-preserved c =
    let l = c.loop-i in
    let s = c.args in
    turn s.left.now s.number l.left l.rest l.i c.factorial-f.result c.bring.new.left l.invariant (omega arith) c.factorial-f.ensures c.bring.ensures

pub returns : goal.returns
returns c =
    let l = c.loop-i in
    let s = c.args in
    at_last s.left.now s.number l.left l.rest l.i l.invariant (omega arith)
