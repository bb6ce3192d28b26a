-- What is converted passes the frozen check: the heads, what stays of them, and the check. Assumes nothing.
use Prim.Native.Nat.{ℕ, zero, suc, ◌+◌, ◌-◌, ◌≤◌, ◌<◌}
use mathlib.Core.Path.{◌≡◌, refl, sym, ap, ap₂, ◌∙◌, subst}
use mathlib.Core.Logic.{⊎_elim}
use mathlib.Core.Bool.{Bool, true, false, not, ◌||◌, true≢false}
use mathlib.Core.List.{List, [], ◌∷◌}
use Rattle.std.specs.Prelude.{Option, Some, None}
use native.Mathlib.Omega.{arith}
use lib.ListN.{length, take, drop}
use borrow.Author.Tests.{ltb-false, eqb-true, not-false, le-ltb}
use Rattle.octets.specs.Laws.{le_or_lt}
use Rattle.tsar.specs.Rows.{refusal, refusal_none, refusal_pass}
use Rattle.tsar.specs.Writing.{codec_rows, header_octets, length_in, crc_in, too_long, crc_too_large}
use Rattle.tsar.specs.Layout.{type_of}
use Rattle.tsar.specs.Reading.{begin_test}
use Rattle.tsar.specs.declared.SegmentKind.{SegmentKind}
use Rattle.tsar.specs.declared.SegmentKind.TheVariants as kind'
use Rattle.tsar.specs.declared.SegmentHead.{SegmentHead}
use Rattle.segmentation.specs.Cutting.{Cutting, is_begin, is_continue, is_end, plain_kind, states_other}
use Rattle.segmentation.specs.Frozen.{Proposal, proposed, head_at, data_before, frozen_refusal}
use Rattle.segmentation.specs.Heads.{before_zero, before_suc}
use Rattle.segmentation.specs.Joined.{join_cong}
use Rattle.segmentation.specs.Accepted.{Acceptable, with_heads, frozen_acceptable, cutting_accepted}
use Rattle.dialect.specs.declared.Dialect.{Dialect}
use Rattle.dialect.specs.declared.Dialect.TheVariants.{BeginOnly, Every}
use Rattle.dialect.specs.Convert.{is_stated, states, length_for, with_length, restated, restate_later, restated_heads, passes_budget}

-- ---- the heads

later_at : (d : Dialect) (n k : ℕ) (l : List SegmentHead) (j : ℕ) → j < k → j < length l → head_at (restate_later d n k l) j ≡ restated d n (head_at l j)
unfolding restate_later
later_at d n zero l j h b = absurd (omega arith)
later_at d n (suc k) [] j h b = absurd (omega arith)
later_at d n (suc k) (x ∷ l) zero h b = refl
later_at d n (suc k) (x ∷ l) (suc j) h b = later_at d n k l j (omega arith) (omega arith)

-- what a head becomes at a place
abbrev pub restated_at : Dialect → ℕ → ℕ → SegmentHead → SegmentHead
restated_at d n zero h = h
restated_at d n (suc i) h = restated d n h

pub heads_at : (d : Dialect) (n count : ℕ) (l : List SegmentHead) (i : ℕ) → i < count → i < length l → head_at (restated_heads d n count l) i ≡ restated_at d n i (head_at l i)
heads_at d n count [] i h b = absurd (omega arith)
heads_at d n count (x ∷ l) zero h b = refl
heads_at d n count (x ∷ l) (suc i) h b = later_at d n (count - 1) l i (omega arith) (omega arith)

-- ---- what stays of a kind

pub same_type : (l : Option ℕ) (k : SegmentKind) → type_of (with_length l k) ≡ type_of k
same_type l (kind'.Begin n s) = refl
same_type l (kind'.Continue n) = refl
same_type l (kind'.End n c) = refl

pub same_crc_lem : (l : Option ℕ) (k : SegmentKind) → crc_in (with_length l k) ≡ crc_in k
same_crc_lem l (kind'.Begin n s) = refl
same_crc_lem l (kind'.Continue n) = refl
same_crc_lem l (kind'.End n c) = refl

pub the_length : (l : Option ℕ) (k : SegmentKind) → length_in (with_length l k) ≡ l
the_length l (kind'.Begin n s) = refl
the_length l (kind'.Continue n) = refl
the_length l (kind'.End n c) = refl

same_continue : (l : Option ℕ) (k : SegmentKind) → is_continue (with_length l k) ≡ is_continue k
same_continue l (kind'.Begin n s) = refl
same_continue l (kind'.Continue n) = refl
same_continue l (kind'.End n c) = refl

same_end : (l : Option ℕ) (k : SegmentKind) → is_end (with_length l k) ≡ is_end k
same_end l (kind'.Begin n s) = refl
same_end l (kind'.Continue n) = refl
same_end l (kind'.End n c) = refl

same_plain : (l : Option ℕ) (k : SegmentKind) → plain_kind (with_length l k) ≡ plain_kind k
same_plain l (kind'.Begin n s) = refl
same_plain l (kind'.Continue n) = refl
same_plain l (kind'.End n c) = refl

-- its own length again
pub own_length : (k : SegmentKind) → with_length (length_in k) k ≡ k
own_length (kind'.Begin n s) = refl
own_length (kind'.Continue n) = refl
own_length (kind'.End n c) = refl

pub twice : (l m : Option ℕ) (k : SegmentKind) → with_length l (with_length m k) ≡ with_length l k
twice l m (kind'.Begin n s) = refl
twice l m (kind'.Continue n) = refl
twice l m (kind'.End n c) = refl

-- a claim on a head at a place: as it was there, or restated
pub at_place : (P : SegmentHead → Type 0) (d : Dialect) (n i : ℕ) (h : SegmentHead) → P h → (0 < i → P (restated d n h)) → P (restated_at d n i h)
at_place P d n zero h a b = a
at_place P d n (suc i) h a b = b (omega arith)

-- none of the first k passes the budget
pub none_passes : (budget : ℕ) (heads : List SegmentHead) (k : ℕ) → passes_budget budget heads k ≡ false → (i : ℕ) → i < k → header_octets (head_at heads i).segment.kind + (head_at heads i).segment_data_length ≤ budget
unfolding passes_budget
none_passes budget heads zero e i h = absurd (omega arith)
none_passes budget heads (suc k) e i h =
    let both = or_false (passes_budget budget heads k) _ e in
    ⊎_elim (λ (l : suc i ≤ k). none_passes budget heads k both.0 i l)
    (λ (l : k < suc i). let g : k ≡ i = omega arith in subst (λ (j : ℕ). header_octets (head_at heads j).segment.kind + (head_at heads j).segment_data_length ≤ budget) g (ltb-false budget _ both.1))
    (le_or_lt (suc i) k)
  where
    or_false : (x y : Bool) → (x || y) ≡ false → (x ≡ false) × (y ≡ false)
    or_false true y e = absurd (true≢false e)
    or_false false y e = (refl, e)

module _ (d : Dialect) (q : Proposal) (ok : frozen_refusal q ≡ None) (room : q.count ≤ length q.heads) (stated : states (head_at q.heads 0) ≡ true) where
  abbrev n : ℕ
  n = length q.message

  abbrev a : Acceptable q
  a = frozen_acceptable q ok

  abbrev c : Cutting q.message (head_at q.heads 0).segment.transaction_id q.count (proposed q)
  c = (frozen_acceptable q ok).cutting

  abbrev heads' : List SegmentHead
  heads' = restated_heads d (length q.message) q.count q.heads

  here : (i : ℕ) → i < q.count → head_at heads' i ≡ restated_at d n i (head_at q.heads i)
  here i h = heads_at d n q.count q.heads i h (omega (arith, room))

  -- the length that Begin states is the message's, and can be written
  pub not_long : n ≤ 4095
  not_long = go (length_in (head_at q.heads 0).segment.kind) stated (c.states 0 (omega (arith, c.at_least))) (refusal_none (codec_rows q.version (head_at q.heads 0).segment (head_at q.heads 0).segment_data_length) (a.codec 0 (omega (arith, c.at_least))) 4)
    where
      go : (l : Option ℕ) → is_stated l ≡ true → states_other l n ≡ false → too_long l ≡ false → n ≤ 4095
      go None e f g = absurd (true≢false (sym e))
      go (Some m) e f g = let x = eqb-true m n (not-false _ f) in omega (arith, x, ltb-false 4095 m g)

  fine_length : too_long (length_for d n) ≡ false
  fine_length = go d
    where
      go : (e : Dialect) → too_long (length_for e n) ≡ false
      go BeginOnly = refl
      go Every = le-ltb 4095 n not_long

  pub same_lengths_lem : (i : ℕ) → i < q.count → (head_at heads' i).segment_data_length ≡ (head_at q.heads i).segment_data_length
  same_lengths_lem i h =
      ap (λ (x : SegmentHead). x.segment_data_length) (here i h)
      ∙ at_place (λ x. x.segment_data_length ≡ (head_at q.heads i).segment_data_length) d n i (head_at q.heads i) refl (λ _. refl)

  pub same_before : (i : ℕ) → i ≤ q.count → data_before heads' i ≡ data_before q.heads i
  same_before zero h = before_zero heads' ∙ sym (before_zero q.heads)
  same_before (suc i) h = omega (arith, before_suc heads' i, before_suc q.heads i, same_before i (omega arith), same_lengths_lem i h)

  pub same_data : (i : ℕ) → i < q.count → (proposed (with_heads q heads') i).segment_data ≡ (proposed q i).segment_data
  same_data i h = ap₂ {C = List ℕ} (λ (x y : ℕ). take x (drop y q.joined)) (same_lengths_lem i h) (same_before i (omega arith))

  -- a claim on the heads below the count is one on those that are converted
  each_head : (P : SegmentHead → Type 0) (i : ℕ) → i < q.count → P (head_at q.heads i) → (0 < i → P (restated d n (head_at q.heads i))) → P (head_at heads' i)
  each_head P i h x y = subst P (sym (here i h)) (at_place P d n i (head_at q.heads i) x y)

  still_cutting : Cutting q.message (head_at heads' 0).segment.transaction_id q.count (proposed (with_heads q heads'))
  still_cutting =
      let zero_below : 0 < q.count = omega (arith, c.at_least) in
      let first : head_at heads' 0 ≡ head_at q.heads 0 = here 0 zero_below in
      record {
        at_least = c.at_least;
        at_most = c.at_most;
        numbered = λ i h. each_head (λ x. x.segment.sequence_number ≡ i) i h (c.numbered i h) (λ _. c.numbered i h);
        one_transaction = λ i h. each_head (λ x. x.segment.transaction_id ≡ (head_at heads' 0).segment.transaction_id) i h (c.one_transaction i h ∙ ap (λ (x : SegmentHead). x.segment.transaction_id) (sym first)) (λ _. c.one_transaction i h ∙ ap (λ (x : SegmentHead). x.segment.transaction_id) (sym first));
        begins = ap (λ (x : SegmentHead). is_begin x.segment.kind) first ∙ c.begins;
        continues = λ i h l. each_head (λ x. is_continue x.segment.kind ≡ true) i (omega arith) (c.continues i h l) (λ _. same_continue (length_for d n) (head_at q.heads i).segment.kind ∙ c.continues i h l);
        ends = λ i h. each_head (λ x. is_end x.segment.kind ≡ true) i (omega arith) (c.ends i h) (λ _. same_end (length_for d n) (head_at q.heads i).segment.kind ∙ c.ends i h);
        plain = λ i h. each_head (λ x. plain_kind x.segment.kind ≡ true) i h (c.plain i h) (λ _. same_plain (length_for d n) (head_at q.heads i).segment.kind ∙ c.plain i h);
        short = λ i h. let e = ap length (same_data i h) in omega (arith, e, c.short i h);
        states = λ i h. each_head (λ x. states_other (length_in x.segment.kind) n ≡ false) i h (c.states i h) (λ _. ap (λ (l : Option ℕ). states_other l n) (the_length (length_for d n) (head_at q.heads i).segment.kind) ∙ own d);
        makes = join_cong q.count (λ i. (proposed (with_heads q heads') i).segment_data) (λ i. (proposed q i).segment_data) same_data ∙ c.makes;
      }
    where
      own : (e : Dialect) → states_other (length_for e n) n ≡ false
      own BeginOnly = refl
      own Every = ap not (borrow.Author.Tests.eq-eqb n n refl)

  still_codec : (i : ℕ) → i < q.count → refusal (codec_rows q.version (head_at heads' i).segment (head_at heads' i).segment_data_length) ≡ None
  still_codec i h =
      each_head (λ x. refusal (codec_rows q.version x.segment x.segment_data_length) ≡ None) i h (a.codec i h)
      (λ _.
      let t = refusal_none (codec_rows q.version (head_at q.heads i).segment (head_at q.heads i).segment_data_length) (a.codec i h) in
      let k : SegmentKind = (head_at q.heads i).segment.kind in
      refusal_pass (codec_rows q.version (restated d n (head_at q.heads i)).segment (head_at q.heads i).segment_data_length)
      (t 0, (t 1, (t 2, (ap (λ y. begin_test y (head_at q.heads i).segment.sequence_number) (same_type (length_for d n) k) ∙ t 3, (ap too_long (the_length (length_for d n) k) ∙ fine_length, (ap crc_too_large (same_crc_lem (length_for d n) k) ∙ t 5, tt)))))))

  -- so what is within the budget passes the frozen check
  pub still_frozen : passes_budget q.budget heads' q.count ≡ false → frozen_refusal (with_heads q heads') ≡ None
  still_frozen e =
      cutting_accepted (with_heads q heads') (record {
        within_ceiling = a.within_ceiling;
        sums = a.sums ∙ sym (same_before q.count (omega arith));
        cutting = still_cutting;
        codec = still_codec;
        fits = none_passes q.budget heads' q.count e;
      })
