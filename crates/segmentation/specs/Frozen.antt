-- What try_from_frozen answers: document 01, 'Port order' 2, the frozen order, and the plan that it gives.
use Rattle.std.specs.Prelude.{ℕ, zero, suc, ◌+◌, ◌-◌, List, [], ◌∷◌, ◌++◌, Bool, cond, not, ◌&&◌, ◌||◌, length, get_or, take, drop, replicate, eqb, leb, ltb, Option, Result, Some, None, Ok, Err}
use Rattle.tsar.specs.declared.OptionalServices.{OptionalServices}
use Rattle.segmentation.specs.declared.PlannedPart.{PlannedPart}
use Rattle.segmentation.specs.declared.PlanningError.{PlanningError}
use Rattle.octets.specs.Octets.{same_octets}
use Rattle.tsar.specs.Rows.{Refusal, refusal, or_else}
use Rattle.tsar.specs.Layout.{WholeSegment, whole}
use Rattle.tsar.specs.Writing.{codec_rows, header_octets, length_in}
use Rattle.tsar.specs.declared.AcknowledgmentWindow.TheVariants.{Prohibited}
use Rattle.tsar.specs.declared.SegmentKind.{SegmentKind}
use Rattle.tsar.specs.declared.SegmentKind.TheVariants as kind'
use Rattle.tsar.specs.declared.SegmentHead.{SegmentHead}
use Rattle.segmentation.specs.declared.FrozenMessage.{FrozenMessage}
use Rattle.segmentation.specs.declared.PlanAnswer.{PlanAnswer}
use Rattle.segmentation.specs.Numbers.{planning_number}
use Rattle.segmentation.specs.Cutting.{is_begin, is_continue, is_end, services_or_default, plain_kind, states_other}

-- the empty head: the zero value of its type
abbrev pub no_head : SegmentHead
no_head =
    record {
      segment = record { transaction_id = 0; sequence_number = 0; kind = kind'.Begin None None };
      segment_data_length = 0;
    }

abbrev pub head_at : List SegmentHead → ℕ → SegmentHead
head_at heads i = get_or heads i no_head

-- where segment i's data begin in the joined data: the data lengths of the heads before it
unfoldable pub data_before : List SegmentHead → ℕ → ℕ
data_before heads zero = 0
data_before heads (suc i) = data_before heads i + (head_at heads i).segment_data_length

-- the kind that stands at place i of count: Begin, Continues, End
abbrev pub placed : ℕ → ℕ → SegmentKind → Bool
placed count zero k = is_begin k
placed count (suc i) k = cond (eqb (suc (suc i)) count) (is_end k) (is_continue k)

-- what is proposed, beside the heads
pub record Proposal : Type 0 where
  pub heads : List SegmentHead
  pub count : ℕ
  pub joined : List ℕ
  pub message : List ℕ
  pub budget : ℕ
  pub version : ℕ
  pub ceiling : ℕ

-- what is proposed of all the heads of a list; the ceiling is no matter of the segments
abbrev pub proposed_by : List SegmentHead → List ℕ → List ℕ → ℕ → ℕ → Proposal
proposed_by heads joined message budget version =
    record { heads = heads; count = length heads; joined = joined; message = message; budget = budget; version = version; ceiling = 0 }

-- segment i with its data
abbrev pub proposed : Proposal → ℕ → WholeSegment
proposed p i =
    whole (head_at p.heads i).segment (take (head_at p.heads i).segment_data_length (drop (data_before p.heads i) p.joined))

-- what a head is held to beside its data, with n octets in the message: budget, the rest as 23
abbrev pub place_rows : ℕ → ℕ → ℕ → ℕ → SegmentHead → ℕ → List (Bool × Refusal)
place_rows budget transaction count n h i =
    (ltb budget (header_octets h.segment.kind + h.segment_data_length), (20, 0))
    ∷ (not (eqb h.segment.transaction_id transaction), (23, 0))
    ∷ (not (eqb h.segment.sequence_number i), (23, 0))
    ∷ (not (placed count i h.segment.kind), (23, 0))
    ∷ (not (plain_kind h.segment.kind), (23, 0))
    ∷ (states_other (length_in h.segment.kind) n, (23, 0))
    ∷ []

-- the n octets of data that begin at a place are the message's there
abbrev pub cuts_here : List ℕ → List ℕ → ℕ → ℕ → Bool
cuts_here joined message at n = same_octets (take n (drop at joined)) (take n (drop at message))

abbrev pub data_rows : List ℕ → List ℕ → ℕ → ℕ → List (Bool × Refusal)
data_rows joined message at n = (ltb (length message) (at + n), (23, 0)) ∷ (not (cuts_here joined message at n), (23, 0)) ∷ []

-- segment i: codec, budget, the rest as 23
abbrev pub segment_rows : Proposal → ℕ → List (Bool × Refusal)
segment_rows p i =
    let h = head_at p.heads i in
    codec_rows p.version h.segment h.segment_data_length
    ++ (place_rows p.budget (head_at p.heads 0).segment.transaction_id p.count (length p.message) h i
    ++ data_rows p.joined p.message (data_before p.heads i) h.segment_data_length)

-- segment by segment, k of them from i on; then the message has no octets left
unfoldable pub segments_from : Proposal → ℕ → ℕ → Option Refusal
segments_from p zero i = refusal ((not (eqb (data_before p.heads i) (length p.message)), (23, 0)) ∷ [])
segments_from p (suc k) i = or_else (refusal (segment_rows p i)) (segments_from p k (suc i))

-- the data lengths of the heads sum to n
abbrev pub sums_to : List SegmentHead → ℕ → ℕ → Bool
sums_to heads count n = eqb n (data_before heads count)

-- budget, 22, 24, Begin and services
abbrev pub frozen_rows : Proposal → List (Bool × Refusal)
frozen_rows p =
    (ltb p.ceiling p.budget, (20, 0))
    ∷ (ltb p.count 2 || ltb 256 p.count, (22, 0))
    ∷ (not (sums_to p.heads p.count (length p.joined)), (24, 0))
    ∷ (not (is_begin (head_at p.heads 0).segment.kind), (23, 0))
    ∷ (not (plain_kind (head_at p.heads 0).segment.kind), (23, 0))
    ∷ []

unfoldable pub frozen_refusal : Proposal → Option Refusal
frozen_refusal p = or_else (refusal (frozen_rows p)) (segments_from p p.count 0)

-- ---- the plan that is given

abbrev pub services_of : SegmentKind → Option OptionalServices
services_of (kind'.Begin n s) = s
services_of (kind'.Continue n) = None
services_of (kind'.End n c) = None

-- the heads below the count; those at and past it empty
unfoldable pub kept_heads : List SegmentHead → ℕ → List SegmentHead
kept_heads heads count = take count heads ++ replicate (256 - count) no_head

abbrev pub frozen_of : Proposal → FrozenMessage
frozen_of p =
    record {
      heads = kept_heads p.heads p.count;
      count = p.count;
      message_octets = length p.message;
      payload_budget_octets = p.budget;
      acknowledgment_window = (services_or_default (services_of (head_at p.heads 0).segment.kind)).acknowledgment_window;
    }

-- beside a refusal: a plan of no segments
abbrev pub no_plan : FrozenMessage
no_plan =
    record {
      heads = kept_heads [] 0;
      count = 0;
      message_octets = 0;
      payload_budget_octets = 0;
      acknowledgment_window = Prohibited;
    }

pub record Checked : Type 0 where
  pub refused : Option Refusal
  pub plan : FrozenMessage

abbrev pub checked_as : Option Refusal → Proposal → Checked
checked_as None p = record { refused = None; plan = frozen_of p }
checked_as (Some r) p = record { refused = Some r; plan = no_plan }

unfoldable pub try_from_frozen : Proposal → Checked
try_from_frozen p = checked_as (frozen_refusal p) p

-- what try_from_frozen's answer says
abbrev pub answer_by : Result Unit PlanningError → Option Refusal
answer_by (Ok tt) = None
answer_by (Err e) = Some (planning_number e)

abbrev pub checked_by : PlanAnswer PlanningError → Checked
checked_by c = record { refused = answer_by c.answer; plan = c.plan }

-- the same of a plan or its refusal; and how a plan or a refusal is answered
abbrev pub plan_by : Result FrozenMessage PlanningError → Checked
plan_by (Ok p) = record { refused = None; plan = p }
plan_by (Err e) = record { refused = Some (planning_number e); plan = no_plan }

abbrev pub answer_of : {E : Type 0} → Result FrozenMessage E → PlanAnswer E
answer_of (Ok p) = record { answer = Ok tt; plan = p }
answer_of (Err e) = record { answer = Err e; plan = no_plan }

-- ---- segment i of a plan that was checked, for any record and any i

-- where the data of segment i begin, unless that passes a limit
abbrev pub start_within : List SegmentHead → ℕ → ℕ → Option ℕ
start_within heads i limit = cond (leb (data_before heads i) limit) (Some (data_before heads i)) None

-- a record has segment i when i is below its count and the segment's data lie within the message
abbrev pub has_head : FrozenMessage → ℕ → Bool
has_head q i = ltb i q.count && leb i 255 && leb (data_before q.heads (suc i)) q.message_octets

unfoldable pub frozen_segment_at : FrozenMessage → ℕ → Option PlannedPart
frozen_segment_at q i = cond (has_head q i) (Some (record { head = head_at q.heads i; offset = data_before q.heads i })) None
