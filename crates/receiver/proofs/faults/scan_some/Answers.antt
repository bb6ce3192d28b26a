-- One length more.
use Rattle.std.specs.Prelude.{◌+◌, ℕ}
use Rattle.std.proofs.Common.{sym, subst}
use Rattle.receiver.specs.Steps.{Added, word_length}
use Rattle.receiver.proofs.HeldSums.{added_more, added_none}
use Rattle.receiver.proofs.faults.scan_some.Goals as goal

pub loop-j-init : goal.loop-j-init
loop-j-init c = added_none _ _

pub loop-j-preserved : goal.loop-j-preserved
loop-j-preserved c =
    let x = c.args in
    let l = c.loop-j in
    let f : ℕ → ℕ = word_length x.marks x.lengths.now x.from in
    subst (Added f (l.j + 1) x.found) (sym c.with-all.ensures) (added_more f l.j _ x.found l.all (c.held_length.ensures.0) (c.held_length.ensures.1) l.invariant)
