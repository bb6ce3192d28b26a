-- `sender::Progress::none_but` meets its contract: no mark of what is pending beside the index is none of the first n. Assumes nothing.
use Prim.Native.Nat.{ℕ}
use mathlib.Core.Path.{◌≡◌, ◌∙◌}
use mathlib.Core.Bool.{Bool, not, ◌&&◌, ◌||◌}
use lib.Dec.{eqb, ltb}
use Rattle.words.specs.Marks.{words_of}
use Rattle.words.specs.Search.{all_below_ext}
use Rattle.words.specs.Laws.{words_of_ext}
use Rattle.sender.specs.Record.{needs}
use Rattle.sender.proofs.Marking.{made, change, none_first, and_swap, not_and}
use Rattle.sender.proofs.Progress.none_but.Goals as goal

pub returns : goal.returns
returns c =
    let x = c.args in
    let n = x.course.outline.count in
    let f : ℕ → Bool = needs x.self.submitted x.self.retry in
    let w : c.without.result ≡ words_of (λ j. ltb j n && (not (eqb j x.index) && f j)) = change (λ j t. not (eqb j x.index) && t) c.pending.result c.without.result (λ j. ltb j n && f j) (made c.pending.result (λ j. ltb j n && f j) c.pending.ensures) c.without.ensures ∙ words_of_ext (λ j. not (eqb j x.index) && (ltb j n && f j)) (λ j. ltb j n && (not (eqb j x.index) && f j)) (λ i h. and_swap (not (eqb i x.index)) (ltb i n) (f i)) in
    c.is_none.ensures ∙ none_first n c.without.result (λ j. not (eqb j x.index) && f j) x.course.at_most w
    ∙ all_below_ext n (λ j. not (not (eqb j x.index) && f j)) (λ j. eqb j x.index || not (f j)) (λ i h. not_and (eqb i x.index) (f i))
