-- One length more.
use Rattle.std.specs.Prelude.{◌+◌, ℕ, get_or}
use Rattle.std.proofs.Common.{arith, sym, subst}
use Rattle.receiver.specs.Steps.{Added}
use Rattle.receiver.proofs.HeldSums.{added_more, added_none}
use Rattle.receiver.proofs.faults.scan_all.Goals as goal

pub loop-j-init : goal.loop-j-init
loop-j-init c = added_none _ _

pub loop-j-preserved : goal.loop-j-preserved
loop-j-preserved c =
    let x = c.args in
    let l = c.loop-j in
    let f : ℕ → ℕ = λ t. get_or x.lengths.now (x.from + t) 0 in
    subst (Added f (l.j + 1) x.found) (sym c.with-all.ensures) (added_more f l.j _ x.found l.all (c.from.ensures) (omega (arith, c.from.ensures, c.fits-lengths (x.from + l.j))) l.invariant)
