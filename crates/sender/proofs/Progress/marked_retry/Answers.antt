-- `sender::Progress::marked_retry` meets its contract: mark by mark: kept unless the entry is set, and set where the entry is clear, or at a timeout
-- where there is none. Assumes nothing.
use Prim.Native.Nat.{ℕ}
use mathlib.Core.Path.{sym, ap, ◌∙◌}
use mathlib.Core.Bool.{Bool, true, false, cond, not, ◌&&◌, ◌||◌}
use lib.Dec.{ltb}
use Rattle.words.specs.Marks.{marked}
use Rattle.words.specs.Laws.{words_of_ext}
use Rattle.sender.specs.Steps.{retry_by, marked_retry}
use Rattle.sender.proofs.Marking.{own, made, combine, told_timeout, told}
use Rattle.response.specs.Responses.{entry_at}
use Rattle.sender.proofs.Progress.marked_retry.Goals as goal

pub returns-then-timeout : goal.returns-then-timeout
returns-then-timeout c = rw (← c.count.ensures) (
    let x = c.args in
    let n = c.count.result in
    let b = x.map.bit_count in
    let k : ℕ → Bool = λ j. ltb j n && marked x.self.submitted j in
    let a : ℕ → Bool = λ j. ltb j b && marked x.map.received j in
    let known = made c.first-known.result (λ j. ltb j n && marked x.self.submitted j) c.first-known.ensures in
    let acknowledged = made c.first-acknowledged.result (λ j. ltb j b && marked x.map.received j) c.first-acknowledged.ensures in
    let both = combine ◌&&◌ c.first-known.result c.first-acknowledged.result c.and.result k a known acknowledged c.and.ensures in
    let kept = combine (λ s t. s && not t) x.self.retry c.and.result c.minus-kept.result (marked x.self.retry) (λ j. k j && a j) (own x.self.retry) (made c.and.result (λ j. k j && a j) both) c.minus-kept.ensures in
    let rest = combine (λ s t. s && not t) c.first-known.result c.first-acknowledged.result c.minus.result k a known acknowledged c.minus.ensures in
    combine ◌||◌ c.minus-kept.result c.minus.result c.or.result (λ j. marked x.self.retry j && not (k j && a j)) (λ j. k j && not (a j)) (made c.minus-kept.result (λ j. marked x.self.retry j && not (k j && a j)) kept) (made c.minus.result (λ j. k j && not (a j)) rest) c.or.ensures
    ∙ words_of_ext (λ j. marked x.self.retry j && not (k j && a j) || k j && not (a j)) (λ i. cond (k i) (retry_by (entry_at x.map i) true (marked x.self.retry i)) (marked x.self.retry i)) (λ i h. told_timeout (k i) (ltb i b) (marked x.map.received i) (marked x.self.retry i))
    ∙ ap (marked_retry n x.self.submitted x.self.retry x.map) (sym c.if-timeout.true))

pub returns : goal.returns
returns c = rw (← c.count.ensures) (
    let x = c.args in
    let n = c.count.result in
    let b = x.map.bit_count in
    let k : ℕ → Bool = λ j. ltb j n && marked x.self.submitted j in
    let a : ℕ → Bool = λ j. ltb j b && marked x.map.received j in
    let known = made c.first-known.result (λ j. ltb j n && marked x.self.submitted j) c.first-known.ensures in
    let acknowledged = made c.first-acknowledged.result (λ j. ltb j b && marked x.map.received j) c.first-acknowledged.ensures in
    let both = combine ◌&&◌ c.first-known.result c.first-acknowledged.result c.and.result k a known acknowledged c.and.ensures in
    let kept = combine (λ s t. s && not t) x.self.retry c.and.result c.minus-kept.result (marked x.self.retry) (λ j. k j && a j) (own x.self.retry) (made c.and.result (λ j. k j && a j) both) c.minus-kept.ensures in
    let clear = combine (λ s t. s && not t) c.below.result x.map.received c.minus-2.result (λ j. ltb j b) (marked x.map.received) (made c.below.result (λ j. ltb j b) c.below.ensures) (own x.map.received) c.minus-2.ensures in
    let missing = combine ◌&&◌ c.first-known.result c.minus-2.result c.and-2.result k (λ j. ltb j b && not (marked x.map.received j)) known (made c.minus-2.result (λ j. ltb j b && not (marked x.map.received j)) clear) c.and-2.ensures in
    combine ◌||◌ c.minus-kept.result c.and-2.result c.or-2.result (λ j. marked x.self.retry j && not (k j && a j)) (λ j. k j && (ltb j b && not (marked x.map.received j))) (made c.minus-kept.result (λ j. marked x.self.retry j && not (k j && a j)) kept) (made c.and-2.result (λ j. k j && (ltb j b && not (marked x.map.received j))) missing) c.or-2.ensures
    ∙ words_of_ext (λ j. marked x.self.retry j && not (k j && a j) || k j && (ltb j b && not (marked x.map.received j))) (λ i. cond (k i) (retry_by (entry_at x.map i) false (marked x.self.retry i)) (marked x.self.retry i)) (λ i h. told (k i) (ltb i b) (marked x.map.received i) (marked x.self.retry i))
    ∙ ap (marked_retry n x.self.submitted x.self.retry x.map) (sym c.if-timeout.false))
