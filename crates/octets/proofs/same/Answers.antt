-- No octet differs, so the lists are equal.
use Rattle.std.proofs.Common.{arith, sym, ◌∙◌}
use lib.Seq.{take_all}
use Rattle.octets.specs.Octets.{same_eq}
use Rattle.octets.proofs.same.Goals as goal

pub returns : goal.returns
returns c =
    let x = c.args in
    let l = c.loop-i in
    sym (same_eq x.a.now x.b.now (sym (take_all l.i x.a.now (omega arith)) ∙ l.invariant.1 ∙ take_all l.i x.b.now (omega arith)))
