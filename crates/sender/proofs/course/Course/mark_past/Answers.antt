-- `sender::course::Course::mark_past` meets its contract: a mark that is not below n is one at or past it. Assumes nothing.
use Prim.Native.Nat.{ℕ}
use mathlib.Core.Path.{ap, ◌∙◌}
use mathlib.Core.Bool.{Bool, not, ◌&&◌, and_comm}
use lib.Dec.{leb, ltb}
use Rattle.words.specs.Marks.{marked}
use Rattle.words.specs.Search.{all_below_ext}
use Rattle.words.specs.Laws.{all_below_read}
use Rattle.sender.proofs.Marking.{own, made, combine, not_below}
use Rattle.sender.proofs.course.Course.mark_past.Goals as goal

pub returns : goal.returns
returns c = rw (← c.count.ensures) (
    let x = c.args in
    let n = c.count.result in
    let m = combine (λ a b. a && not b) x.w c.below.result c.minus.result (marked x.w) (λ j. ltb j n) (own x.w) (made c.below.result (λ j. ltb j n) c.below.ensures) c.minus.ensures in
    ap not (c.is_none.ensures ∙ all_below_read c.minus.result (λ j. marked x.w j && not (ltb j n)) m (λ (j : ℕ) (t : Bool). not t)
    ∙ all_below_ext 256 (λ j. not (marked x.w j && not (ltb j n))) (λ j. not (leb n j && marked x.w j))
    (λ i h. ap not (and_comm (marked x.w i) (not (ltb i n)) ∙ ap (λ (t : Bool). t && marked x.w i) (not_below i n)))))
