-- `response::AcknowledgmentMap::figures` meets its contract: the marks that are left are the missing entries, counted and searched below 256 or below the length.
-- Assumes nothing.
use Rattle.std.specs.Prelude.{ℕ, ◌<◌, ◌≡◌, Bool, not, ◌&&◌, ltb, Option, Some, None, MatchOption}
use Rattle.std.proofs.Common.{sym, ap, ◌∙◌}
use Rattle.words.specs.Marks.{marked}
use Rattle.words.specs.Laws.{marked_as}
use Rattle.words.specs.Counts.{count_ext, count_front, lowest_front}
use Rattle.response.specs.Responses.{entry_at, is_missing, first_or256, figures_of}
use Rattle.response.specs.MissingEntries.{missing_is, missing_past}
use Rattle.response.proofs.AcknowledgmentMap.figures.Goals as goal
use Rattle.response.proofs.AcknowledgmentMap.figures.Goals.{After-minus-missing}

-- the marks that are left are the missing entries
left : (c : After-minus-missing) (s : ℕ) → s < 256 → marked c.minus-missing.result s ≡ is_missing (entry_at c.args.self s)
left c s h =
    let m = c.args.self in
    let b = c.below in
    marked_as c.minus-missing.result (λ j. marked b.result j && not (marked m.received j)) c.minus-missing.ensures s h
    ∙ ap (λ (t : Bool). t && not (marked m.received s)) (marked_as b.result (λ j. ltb j m.bit_count) b.ensures s h) ∙ sym (missing_is m s)

-- the first of them, or 256
first_is : (o : Option ℕ) (r : ℕ) → MatchOption o (r ≡ 256) (λ x. r ≡ x) → r ≡ first_or256 o
first_is None r e = e
first_is (Some x) r e = e

pub returns : goal.returns
unfolding figures_of
returns c =
    let m = c.args.self in
    let w = c.minus-missing.result in
    let missing : ℕ → Bool = λ s. is_missing (entry_at m s) in
    let marks = left (goal.at.returns c).After-minus-missing in
    λ i. record {
      count = (c.ones.ensures ∙ count_ext 256 (marked w) missing marks ∙ count_front 256 m.bit_count missing c.requires (missing_past m)) i;
      first = (first_is _ _ c.map_or.ensures ∙ ap first_or256 (c.lowest.ensures ∙ lowest_front 256 m.bit_count (marked w) missing c.requires marks (missing_past m))) i;
    }
