-- There and back: the heads converted, kept, converted back and kept are those that were kept at first. Assumes nothing.
use Prim.Native.Nat.{ℕ, zero, suc, ◌-◌, ◌≤◌, ◌<◌}
use mathlib.Core.Path.{◌≡◌, refl, sym, ap, ap₂, ◌∙◌}
use mathlib.Core.Bool.{true, false, not, true≢false}
use mathlib.Core.List.{List, [], ◌∷◌, ◌++◌}
use native.Mathlib.Omega.{arith}
use lib.ListN.{length, take, replicate}
use borrow.Author.Tests.{eqb-true, not-false}
use Rattle.tsar.specs.Writing.{length_in}
use Rattle.std.specs.Prelude.{Option, Some, None}
use Rattle.tsar.specs.declared.SegmentKind.{SegmentKind}
use Rattle.tsar.specs.declared.SegmentHead.{SegmentHead}
use Rattle.segmentation.specs.Cutting.{states_other}
use Rattle.segmentation.specs.Frozen.{no_head, head_at, kept_heads}
use Rattle.dialect.specs.declared.Dialect.{Dialect}
use Rattle.dialect.specs.declared.Dialect.TheVariants.{BeginOnly, Every}
use Rattle.dialect.specs.Convert.{is_stated, later_fits, length_for, with_length, restated, restate_later, restated_heads}
use Rattle.dialect.proofs.Converted.{own_length, twice}

-- a head that states what the dialect wants, restated in another dialect and back
pub length_is : (d : Dialect) (n : ℕ) (h : SegmentHead) → later_fits d h ≡ true → states_other (length_in h.segment.kind) n ≡ false → length_for d n ≡ length_in h.segment.kind
length_is BeginOnly n h = go (length_in h.segment.kind)
  where
    go : (l : Option ℕ) → not (is_stated l) ≡ true → states_other l n ≡ false → None ≡ l
    go None a b = refl
    go (Some m) a b = absurd (true≢false (sym a))
length_is Every n h = go (length_in h.segment.kind)
  where
    go : (l : Option ℕ) → is_stated l ≡ true → states_other l n ≡ false → Some n ≡ l
    go None a b = absurd (true≢false (sym a))
    go (Some m) a b = ap {B = Option ℕ} Some (sym (eqb-true m n (not-false _ b)))

back : (d e : Dialect) (n : ℕ) (h : SegmentHead) → length_for d n ≡ length_in h.segment.kind → restated d n (restated e n h) ≡ h
back d e n h p =
    let k : SegmentKind = h.segment.kind in
    let g : with_length (length_for d n) (with_length (length_for e n) k) ≡ k = twice (length_for d n) (length_for e n) k ∙ ap (λ (l : Option ℕ). with_length l k) p ∙ own_length k in
    λ i.
    record {
      segment = record { transaction_id = h.segment.transaction_id; sequence_number = h.segment.sequence_number; kind = g i };
      segment_data_length = h.segment_data_length;
    }

later_back : (d e : Dialect) (n k : ℕ) (l : List SegmentHead) → ((j : ℕ) → j < k → length_for d n ≡ length_in (head_at l j).segment.kind) → restate_later d n k (restate_later e n k l) ≡ l
unfolding restate_later
later_back d e n zero l p = refl
later_back d e n (suc k) [] p = refl
later_back d e n (suc k) (h ∷ l) p = ap₂ {C = List SegmentHead} ◌∷◌ (back d e n h (p 0 (omega arith))) (later_back d e n k l (λ j b. p (suc j) (omega arith)))

pub later_take : (d : Dialect) (n k : ℕ) (l : List SegmentHead) → take k (restate_later d n k l) ≡ restate_later d n k (take k l)
unfolding restate_later
later_take d n zero l = refl
later_take d n (suc k) [] = refl
later_take d n (suc k) (h ∷ l) = ap (λ (t : List SegmentHead). restated d n h ∷ t) (later_take d n k l)

-- the heads below the count, and the empty ones behind them
pub take_kept : (l r : List SegmentHead) (c : ℕ) → c ≤ length l → take c (take c l ++ r) ≡ take c l
take_kept l r zero h = refl
take_kept [] r (suc c) h = absurd (omega arith)
take_kept (x ∷ l) r (suc c) h = ap (λ (t : List SegmentHead). x ∷ t) (take_kept l r c (omega arith))

pub heads_take : (d : Dialect) (n c : ℕ) (l : List SegmentHead) → take (suc c) (restated_heads d n (suc c) l) ≡ restated_heads d n (suc c) (take (suc c) l)
heads_take d n c [] = refl
heads_take d n c (h ∷ l) =
    let e : suc c - 1 ≡ c = omega arith in
    ap (λ (k : ℕ). h ∷ take c (restate_later d n k l)) e ∙ ap (λ (t : List SegmentHead). h ∷ t) (later_take d n c l) ∙ ap (λ (k : ℕ). h ∷ restate_later d n k (take c l)) (sym e)

later_length : (d : Dialect) (n k : ℕ) (l : List SegmentHead) → length (restate_later d n k l) ≡ length l
unfolding restate_later
later_length d n zero l = refl
later_length d n (suc k) [] = refl
later_length d n (suc k) (h ∷ l) = ap suc (later_length d n k l)

pub heads_length : (d : Dialect) (n c : ℕ) (l : List SegmentHead) → length (restated_heads d n c l) ≡ length l
heads_length d n c [] = refl
heads_length d n c (h ∷ l) = ap suc (later_length d n (c - 1) l)

heads_back : (d e : Dialect) (n c : ℕ) (l : List SegmentHead) → ((j : ℕ) → 0 < j → j < c → length_for d n ≡ length_in (head_at l j).segment.kind) → restated_heads d n c (restated_heads e n c l) ≡ l
heads_back d e n c [] p = refl
heads_back d e n c (h ∷ l) p = ap (λ (t : List SegmentHead). h ∷ t) (later_back d e n (c - 1) l (λ j b. p (suc j) (omega arith) (omega arith)))

pub taken : (l : List SegmentHead) (c j : ℕ) → j < c → head_at (take c l) j ≡ head_at l j
taken l zero j h = absurd (omega arith)
taken [] (suc c) j h = refl
taken (x ∷ l) (suc c) zero h = refl
taken (x ∷ l) (suc c) (suc j) h = taken l c j (omega arith)

-- converted, kept, converted back and kept: the heads that were kept at first
pub kept_back : (d e : Dialect) (n c : ℕ) (l : List SegmentHead) → suc c ≤ length l
    → ((j : ℕ) → 0 < j → j < suc c → length_for d n ≡ length_in (head_at l j).segment.kind)
    → kept_heads (restated_heads d n (suc c) (kept_heads (restated_heads e n (suc c) l) (suc c))) (suc c) ≡ kept_heads l (suc c)
unfolding kept_heads
kept_back d e n c l h p =
    let size : suc c ≤ length (restated_heads e n (suc c) l) = omega (arith, heads_length e n (suc c) l) in
    ap (λ (t : List SegmentHead). t ++ replicate (256 - suc c) no_head)
    (heads_take d n c (take (suc c) (restated_heads e n (suc c) l) ++ replicate (256 - suc c) no_head)
    ∙ ap (restated_heads d n (suc c)) (take_kept (restated_heads e n (suc c) l) (replicate (256 - suc c) no_head) (suc c) size ∙ heads_take e n c l)
    ∙ heads_back d e n (suc c) (take (suc c) l) (λ j a b. p j a b ∙ ap (λ (x : SegmentHead). length_in x.segment.kind) (sym (taken l (suc c) j b))))
