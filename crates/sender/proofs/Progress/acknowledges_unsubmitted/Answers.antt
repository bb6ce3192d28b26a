-- `sender::Progress::acknowledges_unsubmitted` meets its contract: the marks of each step are read as they were written. Assumes nothing.
use Prim.Native.Nat.{ℕ}
use mathlib.Core.Path.{ap, ◌∙◌}
use mathlib.Core.Bool.{Bool, not, ◌&&◌}
use lib.Dec.{ltb}
use Rattle.words.specs.Marks.{marked}
use Rattle.words.specs.Laws.{all_below_read}
use Rattle.sender.proofs.Marking.{made, combine}
use Rattle.sender.proofs.Progress.acknowledges_unsubmitted.Goals as goal

pub returns : goal.returns
returns c = rw (← c.count.ensures) (
    let x = c.args in
    let n = c.count.result in
    let b = x.map.bit_count in
    let m = combine (λ s t. s && not t) c.first.result c.first-2.result c.minus.result (λ j. ltb j b && marked x.map.received j) (λ j. ltb j n && marked x.self.submitted j) (made c.first.result (λ j. ltb j b && marked x.map.received j) c.first.ensures) (made c.first-2.result (λ j. ltb j n && marked x.self.submitted j) c.first-2.ensures) c.minus.ensures in
    ap not (c.is_none.ensures ∙ all_below_read c.minus.result (λ j. ltb j b && marked x.map.received j && not (ltb j n && marked x.self.submitted j)) m (λ (j : ℕ) (t : Bool). not t)))
