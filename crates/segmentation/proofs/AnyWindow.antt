-- Document 02, 2026-09: 'Frozen plans that use it are still accepted'. The frozen check answers alike whatever window stands in the services that a
-- Begin spells out. So the train of each plan that a planner gives under another window than Prohibited is accepted with Exceptions in its place: these
-- are the trains that the planners gave under Exceptions before the request. Assumes nothing.
use Prim.Native.Nat.{ℕ, zero, suc, ◌+◌}
use mathlib.Core.Path.{◌≡◌, refl, ap, ap₂, ◌∙◌}
use mathlib.Core.List.{List, [], ◌∷◌, ◌++◌, map}
use mathlib.Core.Bool.{Bool, true, false, not, ◌||◌, true≢false}
use Rattle.std.specs.Prelude.{Option, Some, None}
use native.Mathlib.Omega.{arith}
use lib.ListN.{length}
use lib.Dec.{eqb, ltb}
use Rattle.tsar.specs.Rows.{Refusal, refusal, or_else}
use Rattle.tsar.specs.Writing.{header_octets, codec_rows}
use Rattle.tsar.specs.declared.AcknowledgmentWindow.{AcknowledgmentWindow}
use Rattle.tsar.specs.declared.AcknowledgmentWindow.TheVariants as window
use Rattle.tsar.specs.declared.SegmentHead.{SegmentHead}
use Rattle.tsar.specs.declared.SegmentKind.{SegmentKind}
use Rattle.tsar.specs.declared.SegmentKind.TheVariants as kind'
use Rattle.segmentation.specs.declared.SegmentedMessage.{SegmentedMessage}
use Rattle.segmentation.specs.Plan.{segmented, prohibited, services_for, planned_length}
use Rattle.segmentation.specs.Cutting.{is_begin, plain_kind}
use Rattle.segmentation.specs.Frozen.{Proposal, head_at, data_before, place_rows, data_rows, segment_rows, segments_from, frozen_refusal}
use Rattle.segmentation.specs.Planned.{Spread, planning}
use Rattle.segmentation.proofs.Planned.{plan_window, plan_at_least}
use Rattle.segmentation.specs.Laws.{proposal_of, planned_heads}
use Rattle.segmentation.proofs.Laws.{planned_head_lem, plan_frozen}
use Rattle.segmentation.proofs.Retired.{window_asked}

-- a segment whose services, where it spells them out, ask for the window w
abbrev pub asking : AcknowledgmentWindow → SegmentKind → SegmentKind
asking w (kind'.Begin n None) = kind'.Begin n None
asking w (kind'.Begin n (Some s)) = kind'.Begin n (Some (record { compression = s.compression; acknowledgment_window = w; crc_status = s.crc_status }))
asking w (kind'.Continue n) = kind'.Continue n
asking w (kind'.End n c) = kind'.End n c

abbrev of_kind : SegmentHead → SegmentKind → SegmentHead
of_kind h k =
    record {
      segment = record { transaction_id = h.segment.transaction_id; sequence_number = h.segment.sequence_number; kind = k };
      segment_data_length = h.segment_data_length;
    }

abbrev pub head_asking : AcknowledgmentWindow → SegmentHead → SegmentHead
head_asking w h = of_kind h (asking w h.segment.kind)

abbrev pub proposal_asking : AcknowledgmentWindow → Proposal → Proposal
proposal_asking w q =
    record {
      heads = map (head_asking w) q.heads;
      count = q.count;
      joined = q.joined;
      message = q.message;
      budget = q.budget;
      version = q.version;
      ceiling = q.ceiling;
    }

head_asking_lem : (w : AcknowledgmentWindow) (hs : List SegmentHead) (i : ℕ) → head_at (map (head_asking w) hs) i ≡ head_asking w (head_at hs i)
head_asking_lem w [] i = refl
head_asking_lem w (h ∷ hs) zero = refl
head_asking_lem w (h ∷ hs) (suc i) = head_asking_lem w hs i

before_asking : (w : AcknowledgmentWindow) (hs : List SegmentHead) (i : ℕ) → data_before (map (head_asking w) hs) i ≡ data_before hs i
unfolding data_before
before_asking w hs zero = refl
before_asking w hs (suc i) = ap₂ (λ (a b : ℕ). a + b) (before_asking w hs i) (ap (λ (h : SegmentHead). h.segment_data_length) (head_asking_lem w hs i))

module _ (w : AcknowledgmentWindow) (q : Proposal) where
  abbrev rows_of : ℕ → ℕ → ℕ → SegmentHead → List (Bool × Refusal)
  rows_of i transaction at h =
      codec_rows q.version h.segment h.segment_data_length
      ++ (place_rows q.budget transaction q.count (length q.message) h i ++ data_rows q.joined q.message at h.segment_data_length)

  rows_alike : (i transaction at : ℕ) (h : SegmentHead) → rows_of i transaction at (head_asking w h) ≡ rows_of i transaction at h
  unfolding header_octets
  rows_alike i transaction at h = go i h.segment.kind
    where
      go : (j : ℕ) (k : SegmentKind) → rows_of j transaction at (of_kind h (asking w k)) ≡ rows_of j transaction at (of_kind h k)
      go j (kind'.Begin n None) = refl
      go zero (kind'.Begin n (Some s)) = refl
      go (suc j) (kind'.Begin n (Some s)) = refl
      go j (kind'.Continue n) = refl
      go j (kind'.End n c) = refl

  segment_alike : (i : ℕ) → segment_rows (proposal_asking w q) i ≡ segment_rows q i
  segment_alike i =
      ap (λ (h : SegmentHead). rows_of i (head_at (map (head_asking w) q.heads) 0).segment.transaction_id (data_before (map (head_asking w) q.heads) i) h) (head_asking_lem w q.heads i)
      ∙ rows_alike i (head_at (map (head_asking w) q.heads) 0).segment.transaction_id (data_before (map (head_asking w) q.heads) i) (head_at q.heads i)
      ∙ ap₂ (λ (t a : ℕ). rows_of i t a (head_at q.heads i)) (ap (λ (h : SegmentHead). h.segment.transaction_id) (head_asking_lem w q.heads 0)) (before_asking w q.heads i)

  segments_alike : (k i : ℕ) → segments_from (proposal_asking w q) k i ≡ segments_from q k i
  unfolding segments_from
  segments_alike zero i = ap (λ (n : ℕ). refusal ((not (eqb n (length q.message)), (23, 0)) ∷ [])) (before_asking w q.heads i)
  segments_alike (suc k) i = ap₂ or_else (ap refusal (segment_alike i)) (segments_alike k (suc i))

  abbrev front_of : ℕ → SegmentKind → List (Bool × Refusal)
  front_of n k =
      (ltb q.ceiling q.budget, (20, 0))
      ∷ (ltb q.count 2 || ltb 256 q.count, (22, 0))
      ∷ (not (eqb (length q.joined) n), (24, 0))
      ∷ (not (is_begin k), (23, 0))
      ∷ (not (plain_kind k), (23, 0))
      ∷ []

  front_alike : (n : ℕ) (k : SegmentKind) → front_of n (asking w k) ≡ front_of n k
  front_alike n (kind'.Begin l None) = refl
  front_alike n (kind'.Begin l (Some s)) = refl
  front_alike n (kind'.Continue l) = refl
  front_alike n (kind'.End l c) = refl

  -- the check answers alike
  pub any_window : frozen_refusal (proposal_asking w q) ≡ frozen_refusal q
  unfolding frozen_refusal
  any_window =
      ap₂ or_else
      (ap refusal
      (ap₂ front_of (before_asking w q.heads q.count) (ap (λ (h : SegmentHead). h.segment.kind) (head_asking_lem w q.heads 0))
      ∙ front_alike (data_before q.heads q.count) (head_at q.heads 0).segment.kind))
      (segments_alike q.count 0)

-- a Begin that spells services out asks for the window that is put there
begin_asking : (w v : AcknowledgmentWindow) (n : Option ℕ) (t : Bool) → t ≡ false → window_asked (asking w (kind'.Begin n (services_for v t))) ≡ w
begin_asking w v n true e = absurd (true≢false e)
begin_asking w v n false e = refl

module _ (x : Spread) (n budget transaction : ℕ) (w : AcknowledgmentWindow) (version ceiling : ℕ) (p : SegmentedMessage) (ok : planning x n budget transaction w version ceiling ≡ segmented p) (message : List ℕ) where
  -- the train of a plan, with Exceptions in the place of its window
  abbrev pub under_exceptions : Proposal
  under_exceptions = proposal_asking window.Exceptions (proposal_of p (planned_heads p) message budget version ceiling)

  -- asks for it, where the window is not Prohibited
  pub still_asked : prohibited w ≡ false → window_asked (head_at under_exceptions.heads 0).segment.kind ≡ window.Exceptions
  still_asked e =
      ap (λ (h : SegmentHead). window_asked h.segment.kind) (head_asking_lem window.Exceptions (planned_heads p) 0)
      ∙ ap (λ (h : SegmentHead). window_asked (asking window.Exceptions h.segment.kind)) (planned_head_lem p 0 (omega (arith, plan_at_least x n budget transaction w version ceiling p ok)))
      ∙ begin_asking window.Exceptions p.acknowledgment_window (planned_length p) (prohibited p.acknowledgment_window) (ap prohibited (plan_window x n budget transaction w version ceiling p ok) ∙ e)

  -- and is accepted
  pub still_accepted : length message ≡ n → frozen_refusal under_exceptions ≡ None
  still_accepted e =
      any_window window.Exceptions (proposal_of p (planned_heads p) message budget version ceiling) ∙ plan_frozen x n budget transaction w version ceiling p ok message e
