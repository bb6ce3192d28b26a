-- What plan_message answers: document 01's formulas, 'Port order' 2, and its refusals in order; what the even planner answers: document 02, 2026-02;
-- and segment i of a plan of either.
use Rattle.std.specs.Prelude.{ℕ, zero, suc, ◌+◌, ◌-◌, ◌*◌, ◌/◌, ◌≤◌, ◌<◌, min, List, [], ◌∷◌, ◌++◌, map, Bool, true, false, cond, ◌&&◌, take, drop, eqb, leb, ltb, Option, Result, Some, None, Ok, Err}
use Rattle.tsar.specs.Rows.{Refusal, first_of}
pub use Rattle.tsar.specs.Kinds.{prohibited, is_exceptions}
use Rattle.tsar.specs.Layout.{WholeSegment, whole}
use Rattle.tsar.specs.Writing.{codec_rows}
use Rattle.tsar.specs.declared.Compression.TheVariants as compression
use Rattle.tsar.specs.declared.AcknowledgmentWindow.{AcknowledgmentWindow}
use Rattle.tsar.specs.declared.CrcStatus.TheVariants as status
use Rattle.tsar.specs.declared.OptionalServices.{OptionalServices}
use Rattle.segmentation.specs.declared.PlannedPart.{PlannedPart}
use Rattle.segmentation.specs.declared.PlanningError.{PlanningError}
use Rattle.tsar.specs.declared.SegmentKind.{SegmentKind}
use Rattle.tsar.specs.declared.SegmentKind.TheVariants as kind'
use Rattle.tsar.specs.declared.Segment.{Segment}
use Rattle.tsar.specs.declared.SegmentHead.{SegmentHead}
use Rattle.segmentation.specs.declared.SegmentedMessage.{SegmentedMessage}
use Rattle.segmentation.specs.declared.MessagePlan.{MessagePlan}
use Rattle.segmentation.specs.declared.MessagePlan.TheVariants as plan'
use Rattle.segmentation.specs.Numbers.{planning_number}

-- ---- the formulas: of the message's length n, the budget, and whether the window is Prohibited

-- Begin's bare header: 3 octets, or 5 with services, which it carries unless the window is Prohibited
abbrev pub bare_octets : Bool → ℕ
bare_octets true = 3
bare_octets false = 5

-- Begin states the length when the message has at most 4,095 octets and the budget exceeds its bare header by more than 2
abbrev pub states_length_of : ℕ → ℕ → Bool → Bool
states_length_of n budget p = leb n 4095 && ltb (bare_octets p + 2) budget

abbrev pub begin_header : ℕ → ℕ → Bool → ℕ
begin_header n budget p = cond (states_length_of n budget p) (bare_octets p + 2) (bare_octets p)

-- data in Begin: at most 255 and budget less its header
abbrev pub begin_data : ℕ → ℕ → Bool → ℕ
begin_data n budget p = min 255 (budget - begin_header n budget p)

-- data per later segment: at most 255 and budget - 3
abbrev pub later_capacity_of : ℕ → ℕ
later_capacity_of budget = min 255 (budget - 3)

-- n / d, rounded up
abbrev pub rounded_up : ℕ → ℕ → ℕ
rounded_up n d = (n + (d - 1)) / d

-- segments: 1 + (message - Begin's data) / later capacity, rounded up
unfoldable pub segment_count : ℕ → ℕ → Bool → ℕ
segment_count n budget p = 1 + rounded_up (n - begin_data n budget p) (later_capacity_of budget)

-- ---- the plan

unfoldable pub plan_of : ℕ → ℕ → ℕ → AcknowledgmentWindow → SegmentedMessage
plan_of n budget transaction w =
    record {
      message_octets = n;
      payload_budget_octets = budget;
      transaction_id = transaction;
      acknowledgment_window = w;
      begin_octets = begin_data n budget (prohibited w);
      later_capacity = later_capacity_of budget;
      count = segment_count n budget (prohibited w);
      states_length = states_length_of n budget (prohibited w);
    }

abbrev pub services_for : AcknowledgmentWindow → Bool → Option OptionalServices
services_for w true = None
services_for w false = Some (record { compression = compression.None; acknowledgment_window = w; crc_status = status.None })

-- the services of a plan's Begin
abbrev pub planned_services : AcknowledgmentWindow → Option OptionalServices
planned_services w = services_for w (prohibited w)

-- Begin without data and length, which the codec is asked about
abbrev pub bare_begin : ℕ → AcknowledgmentWindow → Segment
bare_begin transaction w =
    record { transaction_id = transaction; sequence_number = 0; kind = kind'.Begin None (planned_services w) }

-- what planning answers
pub data Planning : Type 0 where
  unsegmented : Planning
  refused : Refusal → Planning
  segmented : SegmentedMessage → Planning

abbrev pub refuses : Bool × Refusal → Bool × Planning
refuses r = (r.0, refused r.1)

-- 21, 22
abbrev pub size_rows : ℕ → ℕ → AcknowledgmentWindow → List (Bool × Planning)
size_rows n budget w =
    (ltb budget (bare_octets (prohibited w)), refused (21, 0))
    ∷ (leb budget 3, refused (21, 0))
    ∷ (ltb 256 (segment_count n budget (prohibited w)), refused (22, 0))
    ∷ []

-- budget, Unsegmented, 25 where the plan would ask for the Exceptions window, codec, then 21 and 22
abbrev pub plan_rows : ℕ → ℕ → ℕ → AcknowledgmentWindow → ℕ → ℕ → List (Bool × Planning)
plan_rows n budget transaction w version ceiling =
    (ltb ceiling budget, refused (20, 0))
    ∷ (leb n budget, unsegmented)
    ∷ (is_exceptions w, refused (25, 0))
    ∷ (map refuses (codec_rows version (bare_begin transaction w) 0) ++ size_rows n budget w)

-- of the message's length n; the ceiling is the source's MAX_DATA_PAYLOAD_OCTETS
unfoldable pub plan_message : ℕ → ℕ → ℕ → AcknowledgmentWindow → ℕ → ℕ → Planning
plan_message n budget transaction w version ceiling =
    first_of (plan_rows n budget transaction w version ceiling) (segmented (plan_of n budget transaction w))

-- ---- the even planner: the plan that plan_message gives, spread

-- what each later segment has at least: the octets behind Begin's, shared among them
unfoldable pub share_of : SegmentedMessage → ℕ
share_of p = (p.message_octets - p.begin_octets) / (p.count - 1)

-- the same Begin and the same count, each later segment with its share; what is left over goes to the first of them (`longer`, below)
unfoldable pub evened : SegmentedMessage → SegmentedMessage
evened p =
    record {
      message_octets = p.message_octets;
      payload_budget_octets = p.payload_budget_octets;
      transaction_id = p.transaction_id;
      acknowledgment_window = p.acknowledgment_window;
      begin_octets = p.begin_octets;
      later_capacity = share_of p;
      count = p.count;
      states_length = p.states_length;
    }

abbrev pub spread : Planning → Planning
spread unsegmented = unsegmented
spread (refused r) = refused r
spread (segmented p) = segmented (evened p)

abbrev pub even_message : ℕ → ℕ → ℕ → AcknowledgmentWindow → ℕ → ℕ → Planning
even_message n budget transaction w version ceiling = spread (plan_message n budget transaction w version ceiling)

-- what the plan of a message that is longer than the budget says, or its refusal
abbrev pub cut_by : Result SegmentedMessage PlanningError → Planning
cut_by (Ok p) = segmented p
cut_by (Err e) = refused (planning_number e)

-- what a planner's answer says
abbrev pub planned_by : Result MessagePlan PlanningError → Planning
planned_by (Ok plan'.Unsegmented) = unsegmented
planned_by (Ok (plan'.Segmented p)) = segmented p
planned_by (Err e) = refused (planning_number e)

-- ---- segment i of a plan of either planner, for any record and any i

-- how many later segments have one octet more, the first of them: what the capacities leave of the message. None in a plan of plan_message
unfoldable pub longer : SegmentedMessage → ℕ
longer p = p.message_octets - p.begin_octets - (p.count - 1) * p.later_capacity

-- where its data begin
abbrev pub part_start : SegmentedMessage → ℕ → ℕ
part_start p zero = 0
part_start p (suc i) = p.begin_octets + i * p.later_capacity + min i (longer p)

-- how many octets it may have
abbrev pub part_capacity : SegmentedMessage → ℕ → ℕ
part_capacity p zero = p.begin_octets
part_capacity p (suc i) = p.later_capacity + min 1 (longer p - i)

-- how many it has: as far as the message goes
abbrev pub part_length : SegmentedMessage → ℕ → ℕ
part_length p i = min (part_capacity p i) (p.message_octets - part_start p i)

-- the length that Begin states
abbrev pub planned_length : SegmentedMessage → Option ℕ
planned_length p = cond (p.states_length && leb p.message_octets 4095) (Some p.message_octets) None

abbrev pub planned_kind : SegmentedMessage → ℕ → SegmentKind
planned_kind p zero = kind'.Begin (planned_length p) (planned_services p.acknowledgment_window)
planned_kind p (suc i) = cond (eqb (suc (suc i)) p.count) (kind'.End None None) (kind'.Continue None)

abbrev pub planned_head : SegmentedMessage → ℕ → SegmentHead
planned_head p i =
    record {
      segment = record { transaction_id = p.transaction_id; sequence_number = i; kind = planned_kind p i };
      segment_data_length = part_length p i;
    }

-- a record has segment i when i is below its count, its count and its capacities are those of segments, and the segment begins within the message
abbrev pub has_segment : SegmentedMessage → ℕ → Bool
has_segment p i =
    ltb i p.count
    && leb p.count 256
    && leb p.begin_octets 255
    && leb (p.later_capacity + min 1 (longer p)) 255
    && leb (part_start p i) p.message_octets

-- what the tests of has_segment leave, for the code's sums
pub record Sized (p : SegmentedMessage) : Type 0 where
  pub counted : p.count ≤ 256
  pub some : 0 < p.count
  pub begin_sized : p.begin_octets ≤ 255
  pub later_sized : p.later_capacity ≤ 255

unfoldable pub segment_at : SegmentedMessage → ℕ → Option PlannedPart
segment_at p i = cond (has_segment p i) (Some (record { head = planned_head p i; offset = part_start p i })) None

-- segment i of a plan of a message, with its data
abbrev pub planned_whole : SegmentedMessage → List ℕ → ℕ → WholeSegment
planned_whole p message i = whole (planned_head p i).segment (take (part_length p i) (drop (part_start p i) message))
