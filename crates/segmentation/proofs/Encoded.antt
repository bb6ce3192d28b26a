-- Within the budget, of octets that are written: segment i of a plan, or of a train that the frozen check accepts, as the public call gives it, with
-- its data. Where writing it answers a number of octets, the budget holds them, whatever the version, the output and the octets that the data are
-- taken from; and under the plan's version, from the message, into an output that has room for the budget, it does answer one. Assumes nothing.
use Prim.Native.Nat.{ℕ, ◌+◌, ◌≤◌, ◌<◌}
use mathlib.Core.Path.{◌≡◌, sym, ap, ◌∙◌, subst}
use mathlib.Core.List.{List, [], ◌∷◌}
use Rattle.std.specs.Prelude.{Some, None}
use native.Mathlib.Omega.{arith}
use lib.ListN.{length, take, drop, length-take, length-drop}
use lib.Seq.{length-take-le}
use lib.Dec.{ltb}
use borrow.Author.Tests.{le-ltb}
use Rattle.tsar.specs.Rows.{refusal, refusal_append, refusal_pass, or_else}
use Rattle.tsar.specs.Layout.{whole, written}
use Rattle.tsar.specs.Writing.{Answer, wrote, codec_rows, encode_of, header_octets}
use Rattle.tsar.specs.declared.AcknowledgmentWindow.{AcknowledgmentWindow}
use Rattle.tsar.proofs.Counts.{written_count, wrote_count, wrote_all}
use Rattle.segmentation.specs.declared.SegmentedMessage.{SegmentedMessage}
use Rattle.segmentation.specs.declared.PlannedPart.{PlannedPart}
use Rattle.segmentation.specs.Plan.{segmented, planned_head, planned_whole, part_start, part_length, segment_at}
use Rattle.segmentation.specs.Planned.{Spread, planning}
use Rattle.segmentation.proofs.Planned.{plan_budget, plan_codec, plan_range, plan_segment}
use Rattle.segmentation.specs.Frozen.{Proposal, frozen_refusal, frozen_of, frozen_segment_at, proposed, head_at, data_before}
use Rattle.segmentation.specs.Accepted.{frozen_acceptable, frozen_segment, cut_within}

-- the data of a part, out of the octets of a message
abbrev pub data_of : PlannedPart → List ℕ → List ℕ
data_of x message = take x.head.segment_data_length (drop x.offset message)

-- what writing a part with its data into an output answers
abbrev pub encoded_part : ℕ → PlannedPart → List ℕ → List ℕ → Answer
encoded_part version x message out = (encode_of version x.head.segment (data_of x message) out).answer

-- a part that the budget holds by its header octets and its data length
abbrev Within : ℕ → PlannedPart → Type 0
Within budget x = header_octets x.head.segment.kind + x.head.segment_data_length ≤ budget

-- is written in no more octets
part_written : (budget : ℕ) (x : PlannedPart) → Within budget x → (message : List ℕ) → length (written (whole x.head.segment (data_of x message))) ≤ budget
part_written budget x h message =
    omega (arith, written_count (whole x.head.segment (data_of x message)), length-take x.head.segment_data_length (drop x.offset message))

part_wrote : (budget : ℕ) (x : PlannedPart) → Within budget x → (v : ℕ) (message out : List ℕ) (n : ℕ) → encoded_part v x message out ≡ wrote n → n ≤ budget
part_wrote budget x h v message out n e =
    omega (arith, wrote_count v x.head.segment (data_of x message) out n e, length-take x.head.segment_data_length (drop x.offset message))

-- and is written, where the codec takes it and its data lie within the message
part_writes : (budget : ℕ) (x : PlannedPart) → Within budget x → (v : ℕ) (message out : List ℕ)
    → refusal (codec_rows v x.head.segment x.head.segment_data_length) ≡ None → x.offset + x.head.segment_data_length ≤ length message → budget ≤ length out
    → encoded_part v x message out ≡ wrote (header_octets x.head.segment.kind + x.head.segment_data_length)
part_writes budget x h v message out c within room =
    let d : List ℕ = data_of x message in
    let m : length d ≡ x.head.segment_data_length = length-take-le x.head.segment_data_length (drop x.offset message) (omega (arith, length-drop x.offset message)) in
    let e : refusal (codec_rows v x.head.segment (length d)) ≡ None = ap (λ (k : ℕ). refusal (codec_rows v x.head.segment k)) m ∙ c in
    let f = le-ltb (length out) (length (written (whole x.head.segment d))) (omega (arith, part_written budget x h message)) in
    wrote_all v x.head.segment d out
    (refusal_append (codec_rows v x.head.segment (length d)) ((ltb (length out) (length (written (whole x.head.segment d))), (61, 0)) ∷ [])
    ∙ ap (λ o. or_else o (refusal ((ltb (length out) (length (written (whole x.head.segment d))), (61, 0)) ∷ []))) e
    ∙ refusal_pass ((ltb (length out) (length (written (whole x.head.segment d))), (61, 0)) ∷ []) (f, tt))
    ∙ ap (λ (k : ℕ). wrote (header_octets x.head.segment.kind + k)) m

-- ---- a plan that a planner gives

module _ (x : Spread) (n budget transaction : ℕ) (w : AcknowledgmentWindow) (version ceiling : ℕ) (p : SegmentedMessage) (ok : planning x n budget transaction w version ceiling ≡ segmented p) where
  abbrev planned_part : ℕ → PlannedPart
  planned_part i = record { head = planned_head p i; offset = part_start p i }

  planned_within : (i : ℕ) → Within budget (planned_part i)
  planned_within = plan_budget x n budget transaction w version ceiling p ok

  -- what is written of each segment
  pub plan_encoded : (message : List ℕ) (i : ℕ) → length (written (planned_whole p message i)) ≤ budget
  plan_encoded message i = part_written budget (planned_part i) (planned_within i) message

  -- what writing each segment answers
  pub plan_wrote : (i : ℕ) → i < p.count → (y : PlannedPart) → segment_at p i ≡ Some y → (v : ℕ) (message out : List ℕ) (k : ℕ) → encoded_part v y message out ≡ wrote k → k ≤ budget
  plan_wrote i h y e =
      let f : Some (planned_part i) ≡ Some y = sym (plan_segment x n budget transaction w version ceiling p ok i h) ∙ e in
      let g : planned_part i ≡ y = cc in
      part_wrote budget y (subst (Within budget) g (planned_within i))

  -- each is given, and is written under the plan's version into an output with room for the budget
  pub plan_writes : (message out : List ℕ) → length message ≡ n → budget ≤ length out
      → (i : ℕ) → i < p.count → (y : PlannedPart) × (k : ℕ) × (segment_at p i ≡ Some y) × (encoded_part version y message out ≡ wrote k) × (k ≤ budget)
  plan_writes message out e room i h =
      (planned_part i, header_octets (planned_head p i).segment.kind + part_length p i, plan_segment x n budget transaction w version ceiling p ok i h, part_writes budget (planned_part i) (planned_within i) version message out (plan_codec x n budget transaction w version ceiling p ok i) (omega (arith, plan_range x n budget transaction w version ceiling p ok i h)) room, planned_within i)

-- ---- a train that the frozen check accepts

module _ (q : Proposal) (ok : frozen_refusal q ≡ None) where
  abbrev frozen_part : ℕ → PlannedPart
  frozen_part i = record { head = head_at q.heads i; offset = data_before q.heads i }

  frozen_within : (i : ℕ) → i < q.count → Within q.budget (frozen_part i)
  frozen_within = (frozen_acceptable q ok).fits

  -- the same three
  pub frozen_encoded : (i : ℕ) → i < q.count → length (written (proposed q i)) ≤ q.budget
  frozen_encoded i h = part_written q.budget (frozen_part i) (frozen_within i h) q.joined

  pub frozen_wrote : (i : ℕ) → i < q.count → (x : PlannedPart) → frozen_segment_at (frozen_of q) i ≡ Some x → (v : ℕ) (message out : List ℕ) (k : ℕ) → encoded_part v x message out ≡ wrote k → k ≤ q.budget
  frozen_wrote i h x e =
      let f : Some (frozen_part i) ≡ Some x = sym (frozen_segment q ok i h) ∙ e in
      let g : frozen_part i ≡ x = cc in
      part_wrote q.budget x (subst (Within q.budget) g (frozen_within i h))

  pub frozen_writes : (out : List ℕ) → q.budget ≤ length out
      → (i : ℕ) → i < q.count → (x : PlannedPart) × (k : ℕ) × (frozen_segment_at (frozen_of q) i ≡ Some x) × (encoded_part q.version x q.message out ≡ wrote k) × (k ≤ q.budget)
  frozen_writes out room i h =
      let a = frozen_acceptable q ok in
      (frozen_part i, header_octets (head_at q.heads i).segment.kind + (head_at q.heads i).segment_data_length, frozen_segment q ok i h, part_writes q.budget (frozen_part i) (frozen_within i h) q.version q.message out (a.codec i h) (cut_within q a.sums a.cutting i h) room, frozen_within i h)
