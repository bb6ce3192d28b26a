-- Document 02, 2026-06: what convert answers. The two dialects of a frozen plan, a train restated in the other one, and the refusals in order.
use Rattle.std.specs.Prelude.{ℕ, zero, suc, ◌+◌, ◌-◌, Bool, true, false, not, ◌&&◌, ◌||◌, List, [], ◌∷◌, length, ltb, Option, Result, Some, None, Ok, Err}
use Rattle.dialect.specs.declared.ConvertError.{ConvertError}
use Rattle.tsar.specs.Rows.{Refusal, refusal, or_else}
use Rattle.tsar.specs.Writing.{header_octets, length_in}
use Rattle.tsar.specs.declared.SegmentKind.{SegmentKind}
use Rattle.tsar.specs.declared.SegmentKind.TheVariants as kind'
use Rattle.tsar.specs.declared.SegmentHead.{SegmentHead}
use Rattle.segmentation.specs.Frozen.{Proposal, Checked, no_plan, head_at, frozen_refusal, checked_as}
use Rattle.segmentation.specs.Accepted.{with_heads}
use Rattle.dialect.specs.declared.Dialect.{Dialect}
use Rattle.dialect.specs.declared.Dialect.TheVariants.{BeginOnly, Every}
use Rattle.segmentation.specs.declared.FrozenMessage.{FrozenMessage}
use Rattle.segmentation.specs.declared.PlanAnswer.{PlanAnswer}
use Rattle.dialect.specs.Numbers.{convert_number}

abbrev pub other_dialect : Dialect → Dialect
other_dialect BeginOnly = Every
other_dialect Every = BeginOnly

abbrev pub is_stated : Option ℕ → Bool
is_stated None = false
is_stated (Some n) = true

abbrev pub states : SegmentHead → Bool
states h = is_stated (length_in h.segment.kind)

-- whether a later segment is as a dialect has it
abbrev pub later_fits : Dialect → SegmentHead → Bool
later_fits BeginOnly h = not (states h)
later_fits Every h = states h

-- heads 1 to k are
unfoldable pub later_in : Dialect → List SegmentHead → ℕ → Bool
later_in d heads zero = true
later_in d heads (suc k) = later_in d heads k && later_fits d (head_at heads (suc k))

-- Begin states it, and those behind it as the dialect says
abbrev pub in_dialect : Dialect → List SegmentHead → ℕ → Bool
in_dialect d heads count = states (head_at heads 0) && later_in d heads (count - 1)

abbrev pub length_for : Dialect → ℕ → Option ℕ
length_for BeginOnly n = None
length_for Every n = Some n

abbrev pub with_length : Option ℕ → SegmentKind → SegmentKind
with_length l (kind'.Begin n s) = kind'.Begin l s
with_length l (kind'.Continue n) = kind'.Continue l
with_length l (kind'.End n c) = kind'.End l c

-- a later head as a dialect has it
abbrev pub restated : Dialect → ℕ → SegmentHead → SegmentHead
restated d n h =
    record {
      segment = record { transaction_id = h.segment.transaction_id; sequence_number = h.segment.sequence_number; kind = with_length (length_for d n) h.segment.kind };
      segment_data_length = h.segment_data_length;
    }

-- a list with its first k heads restated
unfoldable pub restate_later : Dialect → ℕ → ℕ → List SegmentHead → List SegmentHead
restate_later d n zero l = l
restate_later d n (suc k) [] = []
restate_later d n (suc k) (h ∷ l) = restated d n h ∷ restate_later d n k l

-- the heads in a dialect: Begin as it is
abbrev pub restated_heads : Dialect → ℕ → ℕ → List SegmentHead → List SegmentHead
restated_heads d n count [] = []
restated_heads d n count (h ∷ l) = h ∷ restate_later d n (count - 1) l

abbrev pub converted : Dialect → Proposal → Proposal
converted d q = with_heads q (restated_heads d (length q.message) q.count q.heads)

abbrev pub passes_alone : ℕ → SegmentHead → Bool
passes_alone budget h = ltb budget (header_octets h.segment.kind + h.segment_data_length)

-- one of the first k segments passes the budget
unfoldable pub passes_budget : ℕ → List SegmentHead → ℕ → Bool
passes_budget budget heads zero = false
passes_budget budget heads (suc k) = passes_budget budget heads k || passes_alone budget (head_at heads k)

-- behind the frozen check's refusals; d is the dialect being read
abbrev pub dialect_rows : Dialect → Proposal → List (Bool × Refusal)
dialect_rows d q = (not (in_dialect d q.heads q.count), (26, 0)) ∷ (passes_budget q.budget (converted (other_dialect d) q).heads q.count, (20, 0)) ∷ []

unfoldable pub convert_refusal : Dialect → Proposal → Option Refusal
convert_refusal d q = or_else (frozen_refusal q) (refusal (dialect_rows d q))

unfoldable pub convert_of : Dialect → Proposal → Checked
convert_of d q = checked_as (convert_refusal d q) (converted (other_dialect d) q)

-- ---- what convert's answer says: each answer has a number of its own (Statement, OneAnswer)

abbrev pub refused_by : Result Unit ConvertError → Option Refusal
refused_by (Ok tt) = None
refused_by (Err e) = Some (convert_number e)

abbrev pub Conversion : Type 0
Conversion = PlanAnswer ConvertError

abbrev pub converted_by : Conversion → Checked
converted_by r = record { refused = refused_by r.answer; plan = r.plan }

-- the same of a plan or its refusal
abbrev pub plan_by : Result FrozenMessage ConvertError → Checked
plan_by (Ok p) = record { refused = None; plan = p }
plan_by (Err e) = record { refused = Some (convert_number e); plan = no_plan }

-- ---- the same of a plan that the frozen check gave (proofs/Calls, plan_converted)

abbrev pub restated_plan : Dialect → FrozenMessage → FrozenMessage
restated_plan d p =
    record {
      heads = restated_heads d p.message_octets p.count p.heads;
      count = p.count;
      message_octets = p.message_octets;
      payload_budget_octets = p.payload_budget_octets;
      acknowledgment_window = p.acknowledgment_window;
    }

abbrev pub plan_rows : Dialect → FrozenMessage → List (Bool × Refusal)
plan_rows d p = (not (in_dialect d p.heads p.count), (26, 0)) ∷ (passes_budget p.payload_budget_octets (restated_plan (other_dialect d) p).heads p.count, (20, 0)) ∷ []

abbrev pub plan_as : Option Refusal → FrozenMessage → Checked
plan_as None p = record { refused = None; plan = p }
plan_as (Some r) p = record { refused = Some r; plan = no_plan }
