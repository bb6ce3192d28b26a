-- `sender::Progress::is_gap` meets its contract: the first n are all submitted where none of them is missing among the marks, and an entry is clear
-- where one below n is. Assumes nothing.
use native.Mathlib.Omega.{arith}
use Prim.Native.Nat.{ℕ}
use mathlib.Core.Path.{◌≡◌, sym, ap, ◌∙◌}
use mathlib.Core.Bool.{Bool, not, ◌&&◌, ◌||◌}
use lib.Dec.{ltb}
use Rattle.words.specs.Marks.{marked, all_below}
use Rattle.words.specs.Search.{all_below_front}
use Rattle.words.specs.Laws.{all_below_read}
use Rattle.sender.proofs.Marking.{own, made, combine, change, none_first}
use Rattle.sender.proofs.Progress.is_gap.Goals as goal

pub returns-then-not-is_none : goal.returns-then-not-is_none
returns-then-not-is_none c = rw (← c.count-n.ensures) (
    let x = c.args in
    let n = c.count-n.result in
    let m = combine (λ s t. s && not t) c.below.result x.self.submitted c.minus.result (λ j. ltb j n) (marked x.self.submitted) (made c.below.result (λ j. ltb j n) c.below.ensures) (own x.self.submitted) c.minus.ensures in
    let all : all_below n (marked x.self.submitted) ≡ c.is_none.result = sym (c.is_none.ensures ∙ all_below_read c.minus.result (λ j. ltb j n && not (marked x.self.submitted j)) m (λ (j : ℕ) (t : Bool). not t) ∙ all_below_front 256 n (marked x.self.submitted) (omega (arith, c.args.course.at_most, c.count-n.ensures))) in
    ap (λ (t : Bool). t || not (all_below n (λ i. not (ltb i x.map.bit_count && not (marked x.map.received i))))) (sym (ap not all ∙ (ap not c.if-not-is_none.true))))

pub returns : goal.returns
returns c = rw (← c.count-n.ensures) (
    let x = c.args in
    let n = c.count-n.result in
    let m = combine (λ s t. s && not t) c.below.result x.self.submitted c.minus.result (λ j. ltb j n) (marked x.self.submitted) (made c.below.result (λ j. ltb j n) c.below.ensures) (own x.self.submitted) c.minus.ensures in
    let all : all_below n (marked x.self.submitted) ≡ c.is_none.result = sym (c.is_none.ensures ∙ all_below_read c.minus.result (λ j. ltb j n && not (marked x.self.submitted j)) m (λ (j : ℕ) (t : Bool). not t) ∙ all_below_front 256 n (marked x.self.submitted) (omega (arith, c.args.course.at_most, c.count-n.ensures))) in
    let b = x.map.bit_count in
    let v = combine (λ s t. s && not t) c.below-2.result x.map.received c.minus-2.result (λ j. ltb j b) (marked x.map.received) (made c.below-2.result (λ j. ltb j b) c.below-2.ensures) (own x.map.received) c.minus-2.ensures in
    let f = change (λ j t. ltb j n && t) c.minus-2.result c.first.result (λ j. ltb j b && not (marked x.map.received j)) (made c.minus-2.result (λ j. ltb j b && not (marked x.map.received j)) v) c.first.ensures in
    ap not (c.is_none-2.ensures ∙ none_first n c.first.result (λ j. ltb j b && not (marked x.map.received j)) (omega (arith, c.args.course.at_most, c.count-n.ensures)) f)
    ∙ ap (λ (t : Bool). t || not (all_below n (λ i. not (ltb i b && not (marked x.map.received i))))) (sym (ap not all ∙ (ap not c.if-not-is_none.false))))
