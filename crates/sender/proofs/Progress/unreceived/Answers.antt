-- `sender::Progress::unreceived` meets its contract: the marks of each step are read as they were written. Assumes nothing.
use mathlib.Core.Bool.{not, ◌&&◌, ◌||◌}
use lib.Dec.{ltb}
use Rattle.words.specs.Marks.{marked}
use Rattle.sender.proofs.Marking.{own, made, combine}
use Rattle.sender.proofs.Progress.unreceived.Goals as goal

pub returns : goal.returns
returns c = rw (← c.count.ensures) (
    let x = c.args in
    let n = c.count.result in
    let m = combine (λ a b. a && not b) c.below.result x.self.received c.minus.result (λ j. ltb j n) (marked x.self.received) (made c.below.result (λ j. ltb j n) c.below.ensures) (own x.self.received) c.minus.ensures in
    combine ◌||◌ c.minus.result x.self.retry c.or.result (λ j. ltb j n && not (marked x.self.received j)) (marked x.self.retry) (made c.minus.result (λ j. ltb j n && not (marked x.self.received j)) m) (own x.self.retry) c.or.ensures)
