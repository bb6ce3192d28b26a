-- `sender::Progress::pending` meets its contract: the marks of each step are read as they were written. Assumes nothing.
use mathlib.Core.Path.{sym, ◌∙◌}
use mathlib.Core.Bool.{not, ◌&&◌, ◌||◌, and-or_distrib_left}
use lib.Dec.{ltb}
use Rattle.words.specs.Marks.{marked}
use Rattle.words.specs.Laws.{words_of_ext}
use Rattle.sender.specs.Record.{needs}
use Rattle.sender.proofs.Marking.{own, made, combine}
use Rattle.sender.proofs.Progress.pending.Goals as goal

pub returns : goal.returns
returns c = rw (← c.count-n.ensures) (
    let x = c.args in
    let n = c.count-n.result in
    let m = combine (λ a b. a && not b) c.below.result x.self.submitted c.minus.result (λ j. ltb j n) (marked x.self.submitted) (made c.below.result (λ j. ltb j n) c.below.ensures) (own x.self.submitted) c.minus.ensures in
    combine ◌||◌ c.minus.result c.first.result c.or.result (λ j. ltb j n && not (marked x.self.submitted j)) (λ j. ltb j n && marked x.self.retry j) (made c.minus.result (λ j. ltb j n && not (marked x.self.submitted j)) m) (made c.first.result (λ j. ltb j n && marked x.self.retry j) c.first.ensures) c.or.ensures
    ∙ words_of_ext (λ j. ltb j n && not (marked x.self.submitted j) || ltb j n && marked x.self.retry j) (λ i. ltb i n && needs x.self.submitted x.self.retry i) (λ i h. sym (and-or_distrib_left (ltb i n) (not (marked x.self.submitted i)) (marked x.self.retry i))))
