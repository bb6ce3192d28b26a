-- What the frozen check accepts, whoever proposed it: exactly the true cuttings of the message whose segments the codec writes and the budget
-- holds. Assumes nothing.
use Rattle.std.specs.Prelude.{ℕ, zero, suc, ◌+◌, ◌≤◌, ◌<◌, ◌≡◌, refl, List, [], ◌∷◌, Bool, true, false, cond, not, ◌||◌, ◌↔◌, length, take, drop, eqb, ltb, Option, Some, None}
use Rattle.std.proofs.Common.{sym, ap, ap₂, ◌∙◌, subst, true≢false, ⊎_elim, arith, zero-add, add-zero, add-suc, suc-add, length-take, take_all, ltb-false, eqb-true, eq-eqb, ne_eqb, le-ltb}
use Rattle.segmentation.specs.declared.PlannedPart.{PlannedPart}
use Rattle.std.proofs.lemmas.Bool.{eqb-false, not-false}
use Rattle.octets.specs.Laws.{le_or_lt}
use Rattle.octets.specs.Octets.{same_true, same_eq}
use Rattle.tsar.specs.Rows.{Refusal, refusal, test, or_else, refusal_none, refusal_pass, refusal_append, AllFalse}
use Rattle.tsar.specs.Writing.{codec_rows, header_octets, length_in}
use Rattle.tsar.specs.Layout.{WholeSegment, whole}
use Rattle.tsar.specs.declared.SegmentKind.{SegmentKind}
use Rattle.tsar.specs.declared.SegmentHead.{SegmentHead}
use Rattle.segmentation.specs.Cutting.{Cutting, join_to, is_continue, is_end, plain_kind, states_other}
use Rattle.segmentation.specs.Frozen.{Proposal, proposed, head_at, data_before, placed, data_rows, segment_rows, segments_from, frozen_rows, frozen_refusal, kept_heads, frozen_of, frozen_segment_at}
use Rattle.segmentation.specs.Joined.{join_cong, parts_join, cutting_cong}
use Rattle.segmentation.specs.Heads.{before_zero, before_suc, before_mono, before_cong, kept_head, kept_before, segment_some}

-- what a proposal has to be
pub record Acceptable (q : Proposal) : Type 0 where
  pub within_ceiling : q.budget ≤ q.ceiling
  pub sums : length q.joined ≡ data_before q.heads q.count
  pub cutting : Cutting q.message (head_at q.heads 0).segment.transaction_id q.count (proposed q)
  pub codec : (i : ℕ) → i < q.count → refusal (codec_rows q.version (head_at q.heads i).segment (head_at q.heads i).segment_data_length) ≡ None
  pub fits : (i : ℕ) → i < q.count → header_octets (head_at q.heads i).segment.kind + (head_at q.heads i).segment_data_length ≤ q.budget

-- ---- rows after rows

or_else_none : (a b : Option Refusal) → or_else a b ≡ None → (a ≡ None) × (b ≡ None)
or_else_none None b e = (refl, e)
or_else_none (Some r) b e = (cc, cc)

or_else_pass : (a b : Option Refusal) → a ≡ None → b ≡ None → or_else a b ≡ None
or_else_pass None b e f = f
or_else_pass (Some r) b e f = e

or_false : (a b : Bool) → (a || b) ≡ false → (a ≡ false) × (b ≡ false)
or_false true b e = absurd (true≢false e)
or_false false b e = (refl, e)

-- the rows of a segment that are refused with 23
abbrev pub cut_rows : Proposal → ℕ → List (Bool × Refusal)
cut_rows q i =
    let h = head_at q.heads i in
    (not (eqb h.segment.transaction_id (head_at q.heads 0).segment.transaction_id), (23, 0))
    ∷ (not (eqb h.segment.sequence_number i), (23, 0))
    ∷ (not (placed q.count i h.segment.kind), (23, 0))
    ∷ (not (plain_kind h.segment.kind), (23, 0))
    ∷ (states_other (length_in h.segment.kind) (length q.message), (23, 0))
    ∷ data_rows q.joined q.message (data_before q.heads i) h.segment_data_length

abbrev pub budget_row : Proposal → ℕ → Bool × Refusal
budget_row q i = (ltb q.budget (header_octets (head_at q.heads i).segment.kind + (head_at q.heads i).segment_data_length), (20, 0))

abbrev pub codec_of : Proposal → ℕ → Option Refusal
codec_of q i = refusal (codec_rows q.version (head_at q.heads i).segment (head_at q.heads i).segment_data_length)

pub rows_of : (q : Proposal) (i : ℕ) → refusal (segment_rows q i) ≡ or_else (codec_of q i) (refusal (budget_row q i ∷ cut_rows q i))
rows_of q i = refusal_append (codec_rows q.version (head_at q.heads i).segment (head_at q.heads i).segment_data_length) (budget_row q i ∷ cut_rows q i)

-- ---- accepted: what each segment has passed

segments_passed : (q : Proposal) (k i : ℕ) → segments_from q k i ≡ None → (j : ℕ) → i ≤ j → j < i + k → refusal (segment_rows q j) ≡ None
unfolding segments_from
segments_passed q zero i e j a b = absurd (omega arith)
segments_passed q (suc k) i e j a b =
    let h = or_else_none (refusal (segment_rows q i)) (segments_from q k (suc i)) e in
    ⊎_elim (λ (l : suc i ≤ j). segments_passed q k (suc i) h.1 j l (omega arith))
    (λ (l : j < suc i). let n : j ≡ i = omega arith in ap (λ (m : ℕ). refusal (segment_rows q m)) n ∙ h.0)
    (le_or_lt (suc i) j)

segments_end : (q : Proposal) (k i : ℕ) → segments_from q k i ≡ None → data_before q.heads (i + k) ≡ length q.message
unfolding segments_from
segments_end q zero i e =
    ap (data_before q.heads) (add-zero i)
    ∙ eqb-true (data_before q.heads i) (length q.message) (not-false _ (refusal_none ((not (eqb (data_before q.heads i) (length q.message)), (23, 0)) ∷ []) e 0))
segments_end q (suc k) i e =
    ap (data_before q.heads) (add-suc i k ∙ sym (suc-add i k))
    ∙ segments_end q k (suc i) (or_else_none (refusal (segment_rows q i)) (segments_from q k (suc i)) e).1

-- the kind at a place
placed_later : (count i : ℕ) (k : SegmentKind) → 0 < i → suc i < count → placed count i k ≡ true → is_continue k ≡ true
placed_later count zero k h l e = absurd (omega arith)
placed_later count (suc i) k h l e = rw (ne_eqb (suc (suc i)) count (λ n. omega arith)) at e

placed_last : (count i : ℕ) (k : SegmentKind) → 2 ≤ count → suc i ≡ count → placed count i k ≡ true → is_end k ≡ true
placed_last count zero k h l e = absurd (omega arith)
placed_last count (suc i) k h l e = rw (eq-eqb (suc (suc i)) count l) at e

-- the parts of a list as the heads cut it, joined
pub heads_join : (q : Proposal) (l : List ℕ) → join_to q.count (λ i. take (head_at q.heads i).segment_data_length (drop (data_before q.heads i) l)) ≡ take (data_before q.heads q.count) l
heads_join q l =
    parts_join l (data_before q.heads) (λ i. (head_at q.heads i).segment_data_length) q.count (before_zero q.heads) (λ i h. before_suc q.heads i)

module _ (q : Proposal) (ok : frozen_refusal q ≡ None) where
  both : (refusal (frozen_rows q) ≡ None) × (segments_from q q.count 0 ≡ None)
  unfolding frozen_refusal
  both = or_else_none (refusal (frozen_rows q)) (segments_from q q.count 0) ok

  front : (n : ℕ) → test (frozen_rows q) n ≡ false
  front = refusal_none (frozen_rows q) both.0

  passed : (i : ℕ) → i < q.count → (codec_of q i ≡ None) × (refusal (budget_row q i ∷ cut_rows q i) ≡ None)
  passed i h =
      or_else_none (codec_of q i) (refusal (budget_row q i ∷ cut_rows q i))
      (sym (rows_of q i) ∙ segments_passed q q.count 0 both.1 i (omega arith) (omega arith))

  row : (i : ℕ) → i < q.count → (n : ℕ) → test (budget_row q i ∷ cut_rows q i) n ≡ false
  row i h = refusal_none (budget_row q i ∷ cut_rows q i) (passed i h).1

  counts : (2 ≤ q.count) × (q.count ≤ 256)
  counts =
      let e = or_false (ltb q.count 2) (ltb 256 q.count) (front 1) in
      (ltb-false q.count 2 e.0, ltb-false 256 q.count e.1)

  pub frozen_sums : length q.joined ≡ data_before q.heads q.count
  frozen_sums = eqb-true (length q.joined) (data_before q.heads q.count) (not-false _ (front 2))

  ends_right : data_before q.heads q.count ≡ length q.message
  ends_right = ap (data_before q.heads) (sym (zero-add q.count)) ∙ segments_end q q.count 0 both.1

  makes_message : join_to q.count (λ i. (proposed q i).segment_data) ≡ q.message
  makes_message =
      join_cong q.count (λ i. (proposed q i).segment_data)
      (λ i. take (head_at q.heads i).segment_data_length (drop (data_before q.heads i) q.message))
      (λ i h. same_true _ _ (not-false _ (row i h 7)))
      ∙ heads_join q q.message
      ∙ take_all (data_before q.heads q.count) q.message (omega (arith, ends_right))

  -- the segments are a true cutting of the message
  pub frozen_cutting : Cutting q.message (head_at q.heads 0).segment.transaction_id q.count (proposed q)
  frozen_cutting =
      record {
        at_least = counts.0;
        at_most = counts.1;
        numbered = λ i h. eqb-true _ _ (not-false _ (row i h 2));
        one_transaction = λ i h. eqb-true _ _ (not-false _ (row i h 1));
        begins = not-false _ (front 3);
        continues = λ i h l. placed_later q.count i (head_at q.heads i).segment.kind h l (not-false _ (row i (omega arith) 3));
        ends = λ i l. placed_last q.count i (head_at q.heads i).segment.kind counts.0 l (not-false _ (row i (omega arith) 3));
        plain = λ i h. not-false _ (row i h 4);
        short = λ i h. simp length-take (omega (arith, ltb-false 255 (head_at q.heads i).segment_data_length (refusal_none (codec_rows q.version (head_at q.heads i).segment (head_at q.heads i).segment_data_length) (passed i h).0 2)));
        states = λ i h. row i h 5;
        makes = makes_message;
      }

  pub frozen_acceptable : Acceptable q
  frozen_acceptable =
      record {
        within_ceiling = ltb-false q.ceiling q.budget (front 0);
        sums = frozen_sums;
        cutting = frozen_cutting;
        codec = λ i h. (passed i h).0;
        fits = λ i h. ltb-false q.budget _ (row i h 0);
      }

-- ---- acceptable: no row of the check holds

placed_right : {message : List ℕ} {transaction : ℕ} (q : Proposal) → Cutting message transaction q.count (proposed q) → (i : ℕ) → i < q.count → placed q.count i (head_at q.heads i).segment.kind ≡ true
placed_right q c zero h = c.begins
placed_right q c (suc i) h = go (eqb (suc (suc i)) q.count) refl
  where
    go : (t : Bool) → eqb (suc (suc i)) q.count ≡ t → cond t (is_end (head_at q.heads (suc i)).segment.kind) (is_continue (head_at q.heads (suc i)).segment.kind) ≡ true
    go true e = c.ends (suc i) (eqb-true (suc (suc i)) q.count e)
    go false e = c.continues (suc i) (omega arith) (omega (arith, eqb-false (suc (suc i)) q.count e))

module _ (q : Proposal) (sums : length q.joined ≡ data_before q.heads q.count) (c : Cutting q.message (head_at q.heads 0).segment.transaction_id q.count (proposed q)) where
  -- the joined data are the message
  pub joined_message : q.joined ≡ q.message
  joined_message =
      sym (take_all (data_before q.heads q.count) q.joined (omega arith)) ∙ sym (heads_join q q.joined) ∙ c.makes

  pub cut_end : data_before q.heads q.count ≡ length q.message
  cut_end = sym sums ∙ ap length joined_message

  pub cut_within : (i : ℕ) → i < q.count → data_before q.heads i + (head_at q.heads i).segment_data_length ≤ length q.message
  cut_within i h =
      omega (arith, before_mono q.heads (suc i) q.count h, before_suc q.heads i, cut_end)

  pub cuts_pass : (i : ℕ) → i < q.count → AllFalse (cut_rows q i)
  cuts_pass i h =
      (ap not (eq-eqb _ _ (c.one_transaction i h)), (ap not (eq-eqb _ _ (c.numbered i h)), (ap not (placed_right q c i h), (ap not (c.plain i h), (c.states i h, (le-ltb _ _ (cut_within i h), (ap not (same_eq _ _ (ap (λ (l : List ℕ). take (head_at q.heads i).segment_data_length (drop (data_before q.heads i) l)) joined_message)), tt)))))))

segments_pass : (q : Proposal) (k i : ℕ) → ((j : ℕ) → i ≤ j → j < i + k → refusal (segment_rows q j) ≡ None) → data_before q.heads (i + k) ≡ length q.message → segments_from q k i ≡ None
unfolding segments_from
segments_pass q zero i h e =
    refusal_pass ((not (eqb (data_before q.heads i) (length q.message)), (23, 0)) ∷ [])
    (ap not (eq-eqb _ _ (ap (data_before q.heads) (sym (add-zero i)) ∙ e)), tt)
segments_pass q (suc k) i h e =
    rw (h i (omega arith) (omega arith))
    (segments_pass q k (suc i) (λ j a b. h j (omega arith) (omega arith)) (ap (data_before q.heads) (suc-add i k ∙ sym (add-suc i k)) ∙ e))

segment_pass : (q : Proposal) → Acceptable q → (i : ℕ) → i < q.count → refusal (segment_rows q i) ≡ None
segment_pass q a i h =
    rows_of q i
    ∙ or_else_pass (codec_of q i) (refusal (budget_row q i ∷ cut_rows q i)) (a.codec i h)
    (refusal_pass (budget_row q i ∷ cut_rows q i) (le-ltb _ _ (a.fits i h), cuts_pass q a.sums a.cutting i h))

-- a true cutting within budget and ceiling that the codec writes is accepted
pub cutting_accepted : (q : Proposal) → Acceptable q → frozen_refusal q ≡ None
unfolding frozen_refusal
cutting_accepted q a =
    let c = a.cutting in
    let few : (ltb q.count 2 || ltb 256 q.count) ≡ false = simp (le-ltb q.count 2 c.at_least, le-ltb 256 q.count c.at_most) in
    or_else_pass (refusal (frozen_rows q)) (segments_from q q.count 0)
    (refusal_pass (frozen_rows q) (le-ltb _ _ a.within_ceiling, (few, (ap not (eq-eqb _ _ a.sums), (ap not c.begins, (ap not (c.plain 0 (omega (arith, c.at_least))), tt))))))
    (segments_pass q q.count 0 (λ j b h. segment_pass q a j (omega arith)) (ap (data_before q.heads) (zero-add q.count) ∙ cut_end q a.sums c))

-- so it accepts exactly these
pub accepted_iff : (q : Proposal) → (frozen_refusal q ≡ None) ↔ Acceptable q
accepted_iff q = (frozen_acceptable q, cutting_accepted q)

-- ---- other heads

-- a proposal with other heads
abbrev pub with_heads : Proposal → List SegmentHead → Proposal
with_heads q heads =
    record { heads = heads; count = q.count; joined = q.joined; message = q.message; budget = q.budget; version = q.version; ceiling = q.ceiling }

same_segment : (q : Proposal) (heads : List SegmentHead) (i : ℕ) → head_at q.heads i ≡ head_at heads i → data_before q.heads i ≡ data_before heads i → proposed q i ≡ proposed (with_heads q heads) i
same_segment q heads i e b =
    ap₂ {C = WholeSegment} (λ (x : SegmentHead) (at : ℕ). whole x.segment (take x.segment_data_length (drop at q.joined))) e b

-- heads matter only below the count
pub acceptable_heads : (q : Proposal) (heads : List SegmentHead) → ((i : ℕ) → i < q.count → head_at q.heads i ≡ head_at heads i) → Acceptable q → Acceptable (with_heads q heads)
acceptable_heads q heads e a =
    let zero_below : 0 < q.count = omega (arith, a.cutting.at_least) in
    let starts : (i : ℕ) → i ≤ q.count → data_before q.heads i ≡ data_before heads i = λ i h. before_cong q.heads heads i (λ j l. e j (omega arith)) in
    record {
      within_ceiling = a.within_ceiling;
      sums = a.sums ∙ starts q.count (omega arith);
      cutting = subst (λ (t : ℕ). Cutting q.message t q.count (proposed (with_heads q heads))) (ap (λ (x : SegmentHead). x.segment.transaction_id) (e 0 zero_below))
          (cutting_cong (proposed (with_heads q heads)) (λ i h. same_segment q heads i (e i h) (starts i (omega arith))) a.cutting);
      codec = λ i h. rw (e i h) at (a.codec i h);
      fits = λ i h. rw (e i h) at (a.fits i h);
    }

-- the plan that the check gives, proposed again, is accepted again
pub frozen_again : (q : Proposal) → frozen_refusal q ≡ None → frozen_refusal (with_heads q (kept_heads q.heads q.count)) ≡ None
frozen_again q ok =
    cutting_accepted (with_heads q (kept_heads q.heads q.count))
    (acceptable_heads q (kept_heads q.heads q.count) (λ i h. sym (kept_head q.heads q.count i h)) (frozen_acceptable q ok))

-- and has every segment that was proposed
pub frozen_segment : (q : Proposal) → frozen_refusal q ≡ None → (i : ℕ) → i < q.count → frozen_segment_at (frozen_of q) i ≡ Some (record { head = head_at q.heads i; offset = data_before q.heads i })
frozen_segment q ok i h =
    let a = frozen_acceptable q ok in
    let c = a.cutting in
    let within : data_before (kept_heads q.heads q.count) (suc i) ≤ length q.message = omega (arith, kept_before q.heads q.count (suc i) h, before_suc q.heads i, cut_within q a.sums c i h) in
    segment_some (frozen_of q) i h (omega (arith, c.at_most)) within
    ∙ ap₂ {C = Option PlannedPart} (λ (x : SegmentHead) (o : ℕ). Some (record { head = x; offset = o })) (kept_head q.heads q.count i h) (kept_before q.heads q.count i (omega arith))
