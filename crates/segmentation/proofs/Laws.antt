-- A plan of either planner passes the frozen check: its heads, the message as the joined data, the same budget, version and ceiling. Assumes nothing.
use Prim.Native.Nat.{ℕ, zero, suc, ◌-◌, ◌≤◌, ◌<◌}
use Rattle.std.specs.Prelude.{◌≡◌, List, [], ◌∷◌, ◌++◌, length, take, drop, replicate, None}
use Rattle.std.proofs.Math.Path.{refl}
use Rattle.std.proofs.Common.{sym, ap, ◌∙◌, subst, ⊎_elim, arith, length-append}
use Rattle.std.proofs.lemmas.List.{length-replicate, get_or_at}
use Rattle.std.proofs.Math.ListN.{get_or-append}
use Rattle.octets.specs.Laws.{le_or_lt}
use Rattle.tsar.specs.Layout.{whole}
use Rattle.tsar.specs.declared.AcknowledgmentWindow.{AcknowledgmentWindow}
use Rattle.tsar.specs.declared.SegmentHead.{SegmentHead}
use Rattle.segmentation.specs.declared.SegmentedMessage.{SegmentedMessage}
use Rattle.segmentation.specs.Plan.{segmented, planned_head, planned_whole, part_start, part_length}
use Rattle.segmentation.specs.Cutting.{Cutting}
use Rattle.segmentation.specs.Frozen.{proposed, no_head, head_at, data_before, frozen_refusal}
use Rattle.segmentation.specs.Planned.{Spread, planning}
use Rattle.segmentation.proofs.Planned.{plan_arguments, plan_at_least, plan_transaction, plan_next, plan_last, plan_codec, plan_budget, plan_cutting}
use Rattle.segmentation.specs.Joined.{cutting_cong}
use Rattle.segmentation.specs.Accepted.{cutting_accepted}
use Rattle.segmentation.specs.Laws.{heads_to, planned_heads, proposal_of}

length_heads : (p : SegmentedMessage) (n : ℕ) → length (heads_to p n) ≡ n
unfolding heads_to
length_heads p zero = refl
length_heads p (suc n) = omega (arith, length-append (heads_to p n) (planned_head p n ∷ []), length_heads p n)

heads_at : (p : SegmentedMessage) (n i : ℕ) → i < n → head_at (heads_to p n) i ≡ planned_head p i
unfolding heads_to
heads_at p zero i h = absurd (omega arith)
heads_at p (suc n) i h =
    ⊎_elim
    (λ (l : suc i ≤ n). get_or-append (heads_to p n) (planned_head p n ∷ []) no_head i (omega (arith, length_heads p n)) ∙ heads_at p n i l)
    (λ (l : n < suc i).
    let e : n ≡ i = omega arith in
    ap (λ (k : ℕ). head_at (heads_to p n ++ (planned_head p n ∷ [])) k) (sym e) ∙ get_or_at (heads_to p n) (planned_head p n) [] no_head n (length_heads p n) ∙ ap (planned_head p) e)
    (le_or_lt (suc i) n)

-- below the count they are the plan's
pub planned_head_lem : (p : SegmentedMessage) (i : ℕ) → i < p.count → head_at (planned_heads p) i ≡ planned_head p i
planned_head_lem p i h =
    get_or-append (heads_to p p.count) (replicate (256 - p.count) no_head) no_head i (omega (arith, length_heads p p.count))
    ∙ heads_at p p.count i h

-- and there are 256
pub planned_heads_length : (p : SegmentedMessage) → p.count ≤ 256 → length (planned_heads p) ≡ 256
planned_heads_length p h =
    omega (arith, length-append (heads_to p p.count) (replicate (256 - p.count) no_head), length_heads p p.count, length-replicate (256 - p.count) no_head)

module _ (x : Spread) (n budget transaction : ℕ) (w : AcknowledgmentWindow) (version ceiling : ℕ) (p : SegmentedMessage) (ok : planning x n budget transaction w version ceiling ≡ segmented p) (heads : List SegmentHead) (agrees : (i : ℕ) → i < p.count → head_at heads i ≡ planned_head p i) where
  head_length : (i : ℕ) → i < p.count → (head_at heads i).segment_data_length ≡ part_length p i
  head_length i h = ap (λ (x : SegmentHead). x.segment_data_length) (agrees i h)

  before_start : (i : ℕ) → i < p.count → data_before heads i ≡ part_start p i
  unfolding data_before
  before_start zero h = refl
  before_start (suc i) h =
      omega (arith, before_start i (omega arith), head_length i (omega arith), plan_next x n budget transaction w version ceiling p ok i h)

  before_end : (k : ℕ) → suc k ≡ p.count → data_before heads (suc k) ≡ n
  unfolding data_before
  before_end k h =
      omega (arith, before_start k (omega arith), head_length k (omega arith), plan_last x n budget transaction w version ceiling p ok k h)

  sums_up : (k : ℕ) → suc k ≡ p.count → data_before heads p.count ≡ n
  sums_up k h = ap (data_before heads) (sym h) ∙ before_end k h

  same_whole : (message : List ℕ) (i : ℕ) → i < p.count → planned_whole p message i ≡ proposed (proposal_of p heads message budget version ceiling) i
  same_whole message i h =
      ap (λ (x : SegmentHead). whole x.segment (take x.segment_data_length (drop (part_start p i) message))) (sym (agrees i h))
      ∙ ap (λ (k : ℕ). whole (head_at heads i).segment (take (head_at heads i).segment_data_length (drop k message))) (sym (before_start i h))

  one_transaction : transaction ≡ (head_at heads 0).segment.transaction_id
  one_transaction =
      sym (plan_transaction x n budget transaction w version ceiling p ok)
      ∙ ap (λ (x : SegmentHead). x.segment.transaction_id) (sym (agrees 0 (omega (arith, plan_at_least x n budget transaction w version ceiling p ok))))

  -- heads that are a plan's below the count pass the frozen check, whatever stands past it
  pub plan_heads_frozen : (message : List ℕ) → length message ≡ n → frozen_refusal (proposal_of p heads message budget version ceiling) ≡ None
  plan_heads_frozen message e =
      cutting_accepted (proposal_of p heads message budget version ceiling)
      (record {
        within_ceiling = (plan_arguments x n budget transaction w version ceiling p ok).within_ceiling;
        sums = e ∙ sym (sums_up (p.count - 1) (omega (arith, plan_at_least x n budget transaction w version ceiling p ok)));
        cutting = subst (λ (t : ℕ). Cutting message t p.count (proposed (proposal_of p heads message budget version ceiling))) one_transaction
            (cutting_cong (proposed (proposal_of p heads message budget version ceiling)) (same_whole message) (plan_cutting x n budget transaction w version ceiling p ok message e));
        codec = λ i h. rw (agrees i h) (plan_codec x n budget transaction w version ceiling p ok i);
        fits = λ i h. rw (agrees i h) (plan_budget x n budget transaction w version ceiling p ok i);
      })

-- what a planner gives passes the frozen check
pub plan_frozen : (x : Spread) (n budget transaction : ℕ) (w : AcknowledgmentWindow) (version ceiling : ℕ) (p : SegmentedMessage) → planning x n budget transaction w version ceiling ≡ segmented p → (message : List ℕ) → length message ≡ n → frozen_refusal (proposal_of p (planned_heads p) message budget version ceiling) ≡ None
plan_frozen x n budget transaction w version ceiling p ok message e =
    plan_heads_frozen x n budget transaction w version ceiling p ok (planned_heads p) (planned_head_lem p) message e
