-- Laws of heads that are emptied one by one from the count on: where this starts, a step of it, and that it ends with the kept heads. Assumes
-- nothing.
use Rattle.std.specs.Prelude.{ℕ, suc, ◌+◌, ◌-◌, ◌≤◌, ◌<◌, ◌≡◌, List, [], ◌∷◌, ◌++◌, length, take, drop, set, replicate}
use Rattle.std.proofs.Common.{sym, ap, ◌∙◌, append_assoc, append-nil, arith, length-take, length-append, take-append-drop, drop_of_length-le, drop-cons}
use Rattle.std.proofs.lemmas.List.{length-replicate, replicate-append-replicate, set_at}
use Rattle.std.proofs.Math.Seq.{append_snoc}
use Rattle.tsar.specs.declared.SegmentHead.{SegmentHead}
use Rattle.segmentation.specs.Frozen.{no_head, head_at, kept_heads}

-- the heads from the count up to i emptied
unfoldable pub cleared_to : SegmentHead → ℕ → ℕ → List SegmentHead → List SegmentHead
cleared_to empty count i heads = take count heads ++ replicate (i - count) empty ++ drop i heads

pub cleared_none : (empty : SegmentHead) (count : ℕ) (heads : List SegmentHead) → heads ≡ cleared_to empty count count heads
unfolding cleared_to
cleared_none empty count heads =
    let e : count - count ≡ 0 = omega arith in
    sym (ap (λ (k : ℕ). take count heads ++ replicate k empty ++ drop count heads) e
    ∙ ap (λ (l : List SegmentHead). l ++ drop count heads) (append-nil (take count heads)) ∙ take-append-drop count heads)

pub cleared_suc : (empty : SegmentHead) (count i : ℕ) (heads : List SegmentHead) → count ≤ i → i < length heads → set (cleared_to empty count i heads) i empty ≡ cleared_to empty count (suc i) heads
unfolding cleared_to
cleared_suc empty count i heads h l =
    let front : List SegmentHead = take count heads ++ replicate (i - count) empty in
    let size : length front ≡ i = simp (length-append, length-take, length-replicate) (omega arith) in
    let one : replicate (i - count) empty ++ (empty ∷ []) ≡ replicate (i - count + 1) empty = replicate-append-replicate (i - count) 1 empty in
    let more : i - count + 1 ≡ suc i - count = omega arith in
    ap (λ (r : List SegmentHead). set (front ++ r) i empty) (drop-cons heads i no_head l)
    ∙ set_at front (head_at heads i) (drop (suc i) heads) empty i size
    ∙ sym (append_snoc front empty (drop (suc i) heads))
    ∙ ap (λ (r : List SegmentHead). r ++ drop (suc i) heads) (append_assoc (take count heads) (replicate (i - count) empty) (empty ∷ []) ∙ ap (λ (r : List SegmentHead). take count heads ++ r) (one ∙ ap (λ (k : ℕ). replicate k empty) more))

pub cleared_all : (empty : SegmentHead) (count : ℕ) (heads : List SegmentHead) → length heads ≡ 256 → empty ≡ no_head → cleared_to empty count 256 heads ≡ kept_heads heads count
unfolding cleared_to kept_heads
cleared_all empty count heads h e =
    ap (λ (r : List SegmentHead). take count heads ++ replicate (256 - count) empty ++ r) (drop_of_length-le heads {i = 256} (omega arith))
    ∙ append-nil (take count heads ++ replicate (256 - count) empty)
    ∙ ap (λ (x : SegmentHead). take count heads ++ replicate (256 - count) x) e
