-- `sender::Progress::resent` meets its contract: the marks of each step are read as they were written. Assumes nothing.
use mathlib.Core.Bool.{◌&&◌, ◌||◌}
use lib.Dec.{ltb}
use Rattle.words.specs.Marks.{marked}
use Rattle.sender.proofs.Marking.{own, made, combine}
use Rattle.sender.proofs.Progress.resent.Goals as goal

pub returns : goal.returns
returns c = rw (← c.count.ensures) (
    let x = c.args in
    let n = c.count.result in
    combine ◌||◌ c.first.result x.self.retry c.or.result (λ j. ltb j n && marked x.self.submitted j) (marked x.self.retry) (made c.first.result (λ j. ltb j n && marked x.self.submitted j) c.first.ensures) (own x.self.retry) c.or.ensures)
