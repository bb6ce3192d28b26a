-- Laws of a train's heads: where the data of each begin, and the heads that a plan keeps. Assumes nothing.
use Rattle.std.specs.Prelude.{ℕ, zero, suc, ◌+◌, ◌-◌, ◌≤◌, ◌<◌, ◌≡◌, refl, Bool, true, false, cond, ◌&&◌, List, [], ◌++◌, length, get_or, take, drop, replicate, eqb, leb, ltb, Option, Some, None}
use Rattle.segmentation.specs.declared.PlannedPart.{PlannedPart}
use Rattle.std.proofs.Common.{sym, ap, ap₂, ◌∙◌, ⊎_elim, arith, add-zero, add-suc, length-take, get_or-take, get_or-append-add, take_all, ltb-true, leb-true, leb-false, le-leb, lt-ltb, eq-eqb, ne_eqb}
use Rattle.std.specs.Option.{option_eq}
use Rattle.std.proofs.lemmas.List.{drop-replicate, length-take-le}
use Rattle.std.proofs.Math.ListN.{get_or-append, get_or-eq_default}
use Rattle.std.proofs.lemmas.Bool.{lt-leb}
use Rattle.octets.specs.Laws.{le_or_lt}
use Rattle.tsar.specs.declared.SegmentHead.{SegmentHead}
use Rattle.segmentation.specs.declared.FrozenMessage.{FrozenMessage}
use Rattle.segmentation.specs.Frozen.{no_head, head_at, data_before, start_within, kept_heads, frozen_segment_at}

-- ---- where data begin

pub before_zero : (heads : List SegmentHead) → data_before heads 0 ≡ 0
unfolding data_before
before_zero heads = refl

pub before_suc : (heads : List SegmentHead) (i : ℕ) → data_before heads (suc i) ≡ data_before heads i + (head_at heads i).segment_data_length
unfolding data_before
before_suc heads i = refl

-- later data begin no earlier
pub before_mono : (heads : List SegmentHead) (i j : ℕ) → i ≤ j → data_before heads i ≤ data_before heads j
before_mono heads i j h =
    let e : i + (j - i) ≡ j = omega arith in
    omega (arith, go (j - i), ap (data_before heads) e)
  where
    go : (k : ℕ) → data_before heads i ≤ data_before heads (i + k)
    go zero = omega (arith, ap (data_before heads) (add-zero i))
    go (suc k) = omega (arith, ap (data_before heads) (add-suc i k), before_suc heads (i + k), go k)

-- heads that agree below n begin their data at the same places
pub before_cong : (heads others : List SegmentHead) (n : ℕ) → ((i : ℕ) → i < n → head_at heads i ≡ head_at others i) → data_before heads n ≡ data_before others n
unfolding data_before
before_cong heads others zero e = refl
before_cong heads others (suc n) e =
    ap₂ {C = ℕ} ◌+◌ (before_cong heads others n (λ i h. e i (omega arith))) (ap (λ (x : SegmentHead). x.segment_data_length) (e n (omega arith)))

-- where one segment's data pass a limit, so do those of every later one
pub start_past : (heads : List SegmentHead) (i j limit : ℕ) → i < j → limit - data_before heads i < (head_at heads i).segment_data_length → start_within heads j limit ≡ None
start_past heads i j limit h l =
    let m : limit < data_before heads j = omega (arith, before_suc heads i, before_mono heads (suc i) j h) in
    rw (lt-leb (data_before heads j) limit m)

-- what a start within a limit says
pub start_at : (heads : List SegmentHead) (i limit n : ℕ) → start_within heads i limit ≡ Some n → (n ≡ data_before heads i) × (data_before heads i ≤ limit)
start_at heads i limit n e = go (leb (data_before heads i) limit) refl e
  where
    go : (t : Bool) → leb (data_before heads i) limit ≡ t → cond t (Some (data_before heads i)) None ≡ Some n → (n ≡ data_before heads i) × (data_before heads i ≤ limit)
    go true l f = (cc, leb-true (data_before heads i) limit l)
    go false l f = let z : ◌≡◌ {A = ℕ} 0 1 = cc in absurd (omega arith)

pub start_none : (heads : List SegmentHead) (i limit : ℕ) → start_within heads i limit ≡ None → limit < data_before heads i
start_none heads i limit e = go (leb (data_before heads i) limit) refl e
  where
    go : (t : Bool) → leb (data_before heads i) limit ≡ t → cond t (Some (data_before heads i)) None ≡ None → limit < data_before heads i
    go true l f = let z : ◌≡◌ {A = ℕ} 0 1 = cc in absurd (omega arith)
    go false l f = leb-false (data_before heads i) limit l

-- ---- the heads that a plan keeps

-- past a list's end, empty heads are as none
past_empty : (heads : List SegmentHead) (n i : ℕ) → length heads ≤ i → get_or (heads ++ replicate n no_head) i no_head ≡ no_head
past_empty heads n i h =
    let e : i ≡ length heads + (i - length heads) = omega arith in
    ap (λ (k : ℕ). get_or (heads ++ replicate n no_head) k no_head) e
    ∙ get_or-append-add heads (replicate n no_head) (i - length heads) no_head ∙ all_empty n (i - length heads)
  where
    all_empty : (n i : ℕ) → get_or (replicate n no_head) i no_head ≡ no_head
    all_empty zero i = refl
    all_empty (suc n) zero = refl
    all_empty (suc n) (suc i) = all_empty n i

-- below the count they are as they were
pub kept_head : (heads : List SegmentHead) (count i : ℕ) → i < count → head_at (kept_heads heads count) i ≡ head_at heads i
unfolding kept_heads
kept_head heads count i h =
    ⊎_elim
    (λ (l : suc i ≤ length heads).
    get_or-append (take count heads) (replicate (256 - count) no_head) no_head i (rw length-take (omega arith)) ∙ get_or-take count heads i no_head h)
    (λ (l : length heads < suc i).
    ap (λ (t : List SegmentHead). get_or (t ++ replicate (256 - count) no_head) i no_head) (take_all count heads (omega arith))
    ∙ past_empty heads (256 - count) i (omega arith)
    ∙ sym (get_or-eq_default heads no_head {n = i} (omega arith)))
    (le_or_lt (suc i) (length heads))

-- the data of what is kept begin where they did
pub kept_before : (heads : List SegmentHead) (count i : ℕ) → i ≤ count → data_before (kept_heads heads count) i ≡ data_before heads i
kept_before heads count i h = before_cong (kept_heads heads count) heads i (λ j l. kept_head heads count j (omega arith))

-- ---- segment i of a plan that was checked

-- it has none where the number is none of a segment, or the data pass the message
pub segment_none : (q : FrozenMessage) (i : ℕ) → ((i < q.count) × (i ≤ 255) × (data_before q.heads (suc i) ≤ q.message_octets) → ⊥) → frozen_segment_at q i ≡ None
unfolding frozen_segment_at
segment_none q i n = go (ltb i q.count) (leb i 255) (leb (data_before q.heads (suc i)) q.message_octets) refl refl refl
  where
    go : (a b d : Bool) → ltb i q.count ≡ a → leb i 255 ≡ b → leb (data_before q.heads (suc i)) q.message_octets ≡ d → cond {A = Option PlannedPart} (a && b && d) (Some (record { head = head_at q.heads i; offset = data_before q.heads i })) None ≡ None
    go true true true e f g = absurd (n (ltb-true _ _ e, leb-true _ _ f, leb-true _ _ g))
    go true true false e f g = refl
    go true false d e f g = refl
    go false b d e f g = refl

-- and has every other below its count
pub segment_some : (q : FrozenMessage) (i : ℕ) → i < q.count → i ≤ 255 → data_before q.heads (suc i) ≤ q.message_octets → frozen_segment_at q i ≡ Some (record { head = head_at q.heads i; offset = data_before q.heads i })
unfolding frozen_segment_at
segment_some q i h l m = simp (lt-ltb i q.count h, le-leb i 255 l, le-leb (data_before q.heads (suc i)) q.message_octets m)

-- ---- the first heads of a list alone

pub head_front : (heads : List SegmentHead) (n i : ℕ) → i < n → head_at (take n heads) i ≡ head_at heads i
head_front heads n i h = get_or-take n heads i no_head h

pub before_front : (heads : List SegmentHead) (n i : ℕ) → i ≤ n → data_before (take n heads) i ≡ data_before heads i
before_front heads n i h = before_cong (take n heads) heads i (λ j l. head_front heads n j (omega arith))

-- all of them: the data behind them begin where those of the list do
pub before_all_front : (heads : List SegmentHead) (n : ℕ) → n ≤ length heads → data_before (take n heads) (length (take n heads)) ≡ data_before heads n
before_all_front heads n h = ap (data_before (take n heads)) (length-take-le n heads h) ∙ before_front heads n n (omega arith)

-- whether the data of n heads end at a limit
pub ends_at : (heads : List SegmentHead) (n limit : ℕ) → option_eq eqb (start_within heads n limit) (Some limit) ≡ eqb limit (data_before heads n)
ends_at heads n limit = go (leb (data_before heads n) limit) refl
  where
    swap : (a b : ℕ) → eqb a b ≡ eqb b a
    swap a b =
        ⊎_elim
        (λ (l : a ≤ b).
        ⊎_elim (λ (m : b ≤ a). eq-eqb a b (omega arith) ∙ sym (eq-eqb b a (omega arith)))
        (λ (m : a < b). ne_eqb a b (λ e. omega arith) ∙ sym (ne_eqb b a (λ e. omega arith)))
        (le_or_lt b a))
        (λ (l : b < a). ne_eqb a b (λ e. omega arith) ∙ sym (ne_eqb b a (λ e. omega arith)))
        (le_or_lt a b)

    go : (t : Bool) → leb (data_before heads n) limit ≡ t → option_eq eqb (cond t (Some (data_before heads n)) None) (Some limit) ≡ eqb limit (data_before heads n)
    go true e = swap (data_before heads n) limit
    go false e = let l = leb-false (data_before heads n) limit e in sym (ne_eqb limit (data_before heads n) (λ f. omega arith))

-- ---- the heads of a plan as the code makes them

pub kept_of_front : (heads : List SegmentHead) (n : ℕ) → n ≤ length heads → kept_heads (take n heads) (length (take n heads)) ≡ kept_heads heads n
unfolding kept_heads
kept_of_front heads n h =
    let e : length (take n heads) ≡ n = length-take-le n heads h in
    ap₂ {C = List SegmentHead} (λ (a : List SegmentHead) (k : ℕ). a ++ replicate (256 - k) no_head) (take_all (length (take n heads)) (take n heads) (omega arith)) e

-- heads in front of empty ones
pub kept_front : (heads : List SegmentHead) → heads ++ drop (length heads) (replicate 256 no_head) ≡ kept_heads heads (length heads)
unfolding kept_heads
kept_front heads =
    ap₂ {C = List SegmentHead} (λ (a b : List SegmentHead). a ++ b) (sym (take_all (length heads) heads (omega arith))) (drop-replicate (length heads) 256 no_head)

-- 256 empty heads are those of no segments
pub none_kept : (empty : SegmentHead) → empty ≡ no_head → replicate 256 empty ≡ kept_heads [] 0
unfolding kept_heads
none_kept empty e = ap (λ (h : SegmentHead). replicate 256 h) e
