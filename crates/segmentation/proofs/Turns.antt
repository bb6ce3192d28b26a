-- The frozen check as its code goes through it: one turn of the loop a segment, first its head and then its data; and what the whole answers.
-- Assumes nothing.
use Prim.Native.Nat.{ℕ, zero, suc, ◌+◌, ◌-◌, ◌<◌, ◌≤◌}
use mathlib.Core.Path.{◌≡◌, refl, sym, ap, ◌∙◌}
use mathlib.Core.List.{List, [], ◌∷◌, ◌++◌}
use mathlib.Core.Bool.{Bool, true, false, not, ◌&&◌, ◌||◌, true≢false}
use Rattle.std.specs.Prelude.{Option, Some, None}
use native.Mathlib.Numerals.{add-one}
use native.Mathlib.Omega.{arith}
use lib.ListN.{length, take}
use Rattle.std.proofs.lemmas.List.{length-take-le}
use lib.Dec.{eqb, ltb}
use Rattle.tsar.specs.Rows.{Refusal, refusal, or_else, refusal_append}
use Rattle.tsar.specs.Writing.{codec_rows}
use Rattle.tsar.specs.declared.SegmentHead.{SegmentHead}
use Rattle.segmentation.specs.Heads.{head_front, before_front}
use Rattle.segmentation.specs.Frozen.{Proposal, proposed_by, head_at, data_before, place_rows, cuts_here, data_rows, segment_rows, segments_from, frozen_rows, frozen_refusal, frozen_of, no_plan, checked_as, try_from_frozen}

-- ---- one segment

abbrev pub head_rows : Proposal → ℕ → List (Bool × Refusal)
head_rows q i =
    codec_rows q.version (head_at q.heads i).segment (head_at q.heads i).segment_data_length
    ++ place_rows q.budget (head_at q.heads 0).segment.transaction_id q.count (length q.message) (head_at q.heads i) i

abbrev body_rows : Proposal → ℕ → List (Bool × Refusal)
body_rows q i = data_rows q.joined q.message (data_before q.heads i) (head_at q.heads i).segment_data_length

rows_split : (q : Proposal) (i : ℕ) → refusal (segment_rows q i) ≡ or_else (refusal (head_rows q i)) (refusal (body_rows q i))
rows_split q i = refusal_append (head_rows q i) (body_rows q i)

-- whether its data are the message's
abbrev pub cuts_at : Proposal → ℕ → Bool
cuts_at q i =
    not (ltb (length q.message) (data_before q.heads i + (head_at q.heads i).segment_data_length))
    && cuts_here q.joined q.message (data_before q.heads i) (head_at q.heads i).segment_data_length

body_refused : (q : Proposal) (i : ℕ) → cuts_at q i ≡ false → refusal (body_rows q i) ≡ Some (23, 0)
body_refused q i =
    go (ltb (length q.message) (data_before q.heads i + (head_at q.heads i).segment_data_length))
    (cuts_here q.joined q.message (data_before q.heads i) (head_at q.heads i).segment_data_length)
  where
    go : (a b : Bool) → (not a && b) ≡ false → refusal {A = Refusal} ((a, (23, 0)) ∷ (not b, (23, 0)) ∷ []) ≡ Some (23, 0)
    go true b e = refl
    go false true e = absurd (true≢false e)
    go false false e = refl

body_passed : (q : Proposal) (i : ℕ) → cuts_at q i ≡ true → refusal (body_rows q i) ≡ None
body_passed q i =
    go (ltb (length q.message) (data_before q.heads i + (head_at q.heads i).segment_data_length))
    (cuts_here q.joined q.message (data_before q.heads i) (head_at q.heads i).segment_data_length)
  where
    go : (a b : Bool) → (not a && b) ≡ true → refusal {A = Refusal} ((a, (23, 0)) ∷ (not b, (23, 0)) ∷ []) ≡ None
    go true b e = absurd (true≢false (sym e))
    go false true e = refl
    go false false e = absurd (true≢false (sym e))

-- ---- a turn

turn : (q : Proposal) (i : ℕ) → i < q.count → segments_from q (q.count - i) i ≡ or_else (refusal (segment_rows q i)) (segments_from q (q.count - (i + 1)) (i + 1))
unfolding segments_from
turn q i h =
    let e : q.count - i ≡ suc (q.count - (i + 1)) = omega arith in
    ap (λ (k : ℕ). segments_from q k i) e
    ∙ ap (λ (m : ℕ). or_else (refusal (segment_rows q i)) (segments_from q (q.count - (i + 1)) m)) (sym (add-one i))

module _ (q : Proposal) (i : ℕ) (h : i < q.count) (so_far : segments_from q (q.count - i) i ≡ segments_from q q.count 0) where
  this_turn : (a b : Option Refusal) → refusal (head_rows q i) ≡ a → refusal (body_rows q i) ≡ b → segments_from q q.count 0 ≡ or_else (or_else a b) (segments_from q (q.count - (i + 1)) (i + 1))
  this_turn a b e f =
      sym so_far ∙ turn q i h
      ∙ ap (λ (o : Option Refusal). or_else o (segments_from q (q.count - (i + 1)) (i + 1))) (rows_split q i ∙ ap (λ (o : Option Refusal). or_else o (refusal (body_rows q i))) e ∙ ap (or_else a) f)

  pub head_stops : (r : Refusal) → refusal (head_rows q i) ≡ Some r → segments_from q q.count 0 ≡ Some r
  head_stops r e = this_turn (Some r) (refusal (body_rows q i)) e refl

  pub body_stops : refusal (head_rows q i) ≡ None → cuts_at q i ≡ false → segments_from q q.count 0 ≡ Some (23, 0)
  body_stops e f = this_turn None (Some (23, 0)) e (body_refused q i f)

  pub goes_on : refusal (head_rows q i) ≡ None → cuts_at q i ≡ true → segments_from q (q.count - (i + 1)) (i + 1) ≡ segments_from q q.count 0
  goes_on e f = sym (this_turn None None e (body_passed q i f))

-- after the last turn
pub at_end : (q : Proposal) (i : ℕ) → i ≡ q.count → segments_from q (q.count - i) i ≡ segments_from q q.count 0 → segments_from q q.count 0 ≡ refusal ((not (eqb (data_before q.heads i) (length q.message)), (23, 0)) ∷ [])
unfolding segments_from
at_end q i e so_far = let z : q.count - i ≡ 0 = omega arith in sym so_far ∙ ap (λ (k : ℕ). segments_from q k i) z

-- ---- the whole

-- the ceiling is no matter of the segments
pub any_ceiling : (heads : List SegmentHead) (count : ℕ) (joined message : List ℕ) (budget version a b k i : ℕ) → segments_from (record { heads = heads; count = count; joined = joined; message = message; budget = budget; version = version; ceiling = a }) k i ≡ segments_from (record { heads = heads; count = count; joined = joined; message = message; budget = budget; version = version; ceiling = b }) k i
unfolding segments_from
any_ceiling heads count joined message budget version a b zero i = refl
any_ceiling heads count joined message budget version a b (suc k) i =
    ap (or_else (refusal (segment_rows (record { heads = heads; count = count; joined = joined; message = message; budget = budget; version = version; ceiling = a }) i)))
    (any_ceiling heads count joined message budget version a b k (suc i))

-- neither the ceiling nor the heads behind the count are a matter of the segments
alone : (heads : List SegmentHead) (n : ℕ) (joined message : List ℕ) (budget version ceiling k i : ℕ) → 0 < n → i + k ≤ n → segments_from (record { heads = take n heads; count = n; joined = joined; message = message; budget = budget; version = version; ceiling = 0 }) k i ≡ segments_from (record { heads = heads; count = n; joined = joined; message = message; budget = budget; version = version; ceiling = ceiling }) k i
unfolding segments_from
alone heads n joined message budget version ceiling zero i z h = rw (before_front heads n i (omega arith)) refl
alone heads n joined message budget version ceiling (suc k) i z h =
    rw (head_front heads n i (omega arith), head_front heads n 0 z, before_front heads n i (omega arith))
    (ap (or_else (refusal (segment_rows (record { heads = heads; count = n; joined = joined; message = message; budget = budget; version = version; ceiling = ceiling }) i)))
    (alone heads n joined message budget version ceiling k (suc i) z (omega arith)))

pub front_alone : (heads : List SegmentHead) (n : ℕ) (joined message : List ℕ) (budget version ceiling : ℕ) → 0 < n → n ≤ length heads → segments_from (proposed_by (take n heads) joined message budget version) (length (take n heads)) 0 ≡ segments_from (record { heads = heads; count = n; joined = joined; message = message; budget = budget; version = version; ceiling = ceiling }) n 0
front_alone heads n joined message budget version ceiling z h =
    ap (λ (m : ℕ). segments_from (record { heads = take n heads; count = m; joined = joined; message = message; budget = budget; version = version; ceiling = 0 }) m 0) (length-take-le n heads h)
    ∙ alone heads n joined message budget version ceiling n 0 z (omega arith)

pub front_refused : (q : Proposal) (r : Refusal) → refusal (frozen_rows q) ≡ Some r → try_from_frozen q ≡ record { refused = Some r; plan = no_plan }
unfolding try_from_frozen frozen_refusal
front_refused q r e = ap (λ (o : Option Refusal). checked_as (or_else o (segments_from q q.count 0)) q) e

pub behind_refused : (q : Proposal) (r : Refusal) → refusal (frozen_rows q) ≡ None → segments_from q q.count 0 ≡ Some r → try_from_frozen q ≡ record { refused = Some r; plan = no_plan }
unfolding try_from_frozen frozen_refusal
behind_refused q r e f =
    ap (λ (o : Option Refusal). checked_as (or_else o (segments_from q q.count 0)) q) e ∙ ap (λ (o : Option Refusal). checked_as o q) f

pub both_passed : (q : Proposal) → refusal (frozen_rows q) ≡ None → segments_from q q.count 0 ≡ None → try_from_frozen q ≡ record { refused = None; plan = frozen_of q }
unfolding try_from_frozen frozen_refusal
both_passed q e f =
    ap (λ (o : Option Refusal). checked_as (or_else o (segments_from q q.count 0)) q) e ∙ ap (λ (o : Option Refusal). checked_as o q) f

-- one of two tests
pub first_holds : (a b : Bool) → a ≡ true → (a || b) ≡ true
first_holds true b e = refl
first_holds false b e = absurd (true≢false (sym e))

pub second_holds : (a b : Bool) → a ≡ false → b ≡ true → (a || b) ≡ true
second_holds true b e f = refl
second_holds false b e f = f

pub neither_holds : (a b : Bool) → a ≡ false → b ≡ false → (a || b) ≡ false
neither_holds true b e f = e
neither_holds false b e f = f
