-- What catkhize_plan_message, catkhize_plan_even, catkhize_plan_segment, catkhize_try_from_frozen, catkhize_convert and catkhize_delivery_order give
-- and leave in each lent buffer: the exports' own tests, then the definitions of the planners, of the frozen check, of the converter and of the
-- delivery orders. A plan comes out as a sender's plan.
use Rattle.std.specs.Prelude.{Bool, not, cond, List, [], ◌∷◌, ◌++◌, ℕ, ltb, length, get_or, Option, Some, None, Result, Ok, Err, ◌≡◌}
use Rattle.segmentation.specs.declared.PlannedPart.{PlannedPart}
use Rattle.std.proofs.lemmas.List.Edits.{sets}
use Rattle.tsar.specs.Rows.{Refusal, refusal}
use Rattle.tsar.specs.declared.SegmentHead.{SegmentHead}
use Rattle.tsar.specs.declared.AcknowledgmentWindow.{AcknowledgmentWindow}
use Rattle.segmentation.specs.declared.MessagePlan.{MessagePlan}
use Rattle.segmentation.specs.declared.PlanningError.{PlanningError}
use Rattle.segmentation.specs.Plan.{Planning, unsegmented, refused, segmented, planned_by, plan_message, even_message}
use Rattle.segmentation.specs.Frozen.{Proposal, Checked, no_plan, try_from_frozen}
use Rattle.segmentation.specs.declared.SegmentedMessage.{SegmentedMessage}
use Rattle.segmentation.specs.declared.FrozenMessage.{FrozenMessage}
use Rattle.dialect.specs.declared.Dialect.{Dialect}
use Rattle.dialect.specs.declared.Dialect.TheVariants.{BeginOnly, Every}
use Rattle.dialect.specs.Convert.{convert_of}
use Rattle.orders.specs.Orders.{Ordered, write_order_of}
use Rattle.sender.specs.TryNew.{plan_segment}
use Rattle.sender.specs.declared.Plan.{Plan}
use Rattle.sender.specs.declared.PlanForm.TheVariants.{Planned, Frozen}
use Rattle.image.specs.Cases.{window_of}
use Rattle.codec_c.specs.Codes.{code_of, short, misspelled, unnamed, unless_refused}
use Rattle.codec_c.specs.Calls.{part_image}
use Rattle.plan_image.specs.Frozen.{heads_of, heads_ok}
use Rattle.plan_image.specs.Plans.{plan_image, plan_of, plan_ok}

-- ---- a call that writes a plan

-- the number that the call gives; the plan's octets after it, and the plan that these spell
pub record PlanCall : Type 0 where
  pub code : ℕ
  pub plan : List ℕ
  pub spelled : Option Plan

-- the plan that octets spell, if they spell one
unfoldable pub spelled_by : List ℕ → Option Plan
spelled_by plan = cond (plan_ok plan) (Some (plan_of plan)) None

-- a call as code makes it
abbrev pub plan_call : ℕ → List ℕ → PlanCall
plan_call n plan = record { code = n; plan = plan; spelled = spelled_by plan }

-- the plan p is written, and spelled then
abbrev pub plan_written : Plan → List ℕ → PlanCall
plan_written p plan = record { code = 0; plan = sets plan 0 (plan_image p); spelled = Some p }

-- ---- catkhize_plan_message and catkhize_plan_even

-- a plan of a planner, and one that the frozen check accepted, as a sender has them
abbrev pub planned_plan : SegmentedMessage → Plan
planned_plan p = record { form = Planned p; frozen = no_plan }

abbrev pub frozen_plan : FrozenMessage → Plan
frozen_plan f = record { form = Frozen; frozen = f }

-- what planning answers, as a call: 1 where the message is not segmented
abbrev pub planning_gives : Planning → List ℕ → PlanCall
planning_gives unsegmented plan = plan_call 1 plan
planning_gives (refused r) plan = plan_call (code_of r) plan
planning_gives (segmented p) plan = plan_written (planned_plan p) plan

-- a plan is 5958 octets, and the windows are 0 to 5
abbrev pub message_tests : ℕ → List ℕ → List (Bool × Refusal)
message_tests window plan = (ltb (length plan) 5958, short) ∷ (ltb 5 window, unnamed) ∷ []

-- the tests, then what a planner answers
unfoldable pub planning_call : Planning → ℕ → List ℕ → PlanCall
planning_call answer window plan = unless_refused (refusal (message_tests window plan)) (λ n. plan_call n plan) (planning_gives answer plan)

-- a call that hands the window to a planner, of whose results P holds: if these are what a definition says, so is the call
abbrev pub Plans : (AcknowledgmentWindow → Result MessagePlan PlanningError → Type 0) → ℕ → List ℕ → PlanCall → Type 0
Plans P window plan c = (p : Planning) → ((r : Result MessagePlan PlanningError) → P (window_of window) r → planned_by r ≡ p) → c ≡ planning_call p window plan

abbrev pub plan_message_call : List ℕ → ℕ → ℕ → ℕ → ℕ → ℕ → List ℕ → PlanCall
plan_message_call message budget transaction window version ceiling plan =
    planning_call (plan_message (length message) budget transaction (window_of window) version ceiling) window plan

abbrev pub plan_even_call : List ℕ → ℕ → ℕ → ℕ → ℕ → ℕ → List ℕ → PlanCall
plan_even_call message budget transaction window version ceiling plan =
    planning_call (even_message (length message) budget transaction (window_of window) version ceiling) window plan

-- ---- catkhize_plan_segment

pub record PartCall : Type 0 where
  pub code : ℕ
  pub answer : List ℕ

abbrev pub part_call : ℕ → List ℕ → PartCall
part_call n answer = record { code = n; answer = answer }

-- segment i, as a call: 1 where there is none, else its head and where its data begin in the message
abbrev pub segment_gives : Option PlannedPart → List ℕ → PartCall
segment_gives None answer = part_call 1 answer
segment_gives (Some p) answer = part_call 0 (sets answer 0 (part_image p.head p.offset))

-- a plan is 5958 octets and an answer 31
abbrev pub segment_tests : List ℕ → List ℕ → List (Bool × Refusal)
segment_tests plan answer = (ltb (length plan) 5958, short) ∷ (ltb (length answer) 31, short) ∷ (not (plan_ok plan), misspelled) ∷ []

unfoldable pub plan_segment_call : List ℕ → ℕ → List ℕ → PartCall
plan_segment_call plan index answer =
    unless_refused (refusal (segment_tests plan answer)) (λ n. part_call n answer) (segment_gives (plan_segment (plan_of plan) index) answer)

-- ---- catkhize_try_from_frozen

abbrev pub frozen_gives : Option Refusal → FrozenMessage → List ℕ → PlanCall
frozen_gives None f plan = plan_written (frozen_plan f) plan
frozen_gives (Some r) f plan = plan_call (code_of r) plan

-- what refuses, by a number of each refusal
abbrev pub refused_by : {E : Type 0} → (E → Refusal) → Result Unit E → Option Refusal
refused_by number (Ok tt) = None
refused_by number (Err e) = Some (number e)

abbrev pub check_gives : Checked → List ℕ → PlanCall
check_gives k plan = frozen_gives k.refused k.plan plan

-- heads are 256 of 23 octets, and a plan is 5958
abbrev pub frozen_tests : List ℕ → List ℕ → List (Bool × Refusal)
frozen_tests heads plan = (ltb (length heads) 5888, short) ∷ (ltb (length plan) 5958, short) ∷ (not (heads_ok heads), misspelled) ∷ []

-- the heads, or the number of the first test that holds
abbrev pub read_of : List ℕ → List ℕ → Result (List SegmentHead) ℕ
read_of heads plan = unless_refused (refusal (frozen_tests heads plan)) Err (Ok (heads_of heads))

abbrev pub proposal : List ℕ → ℕ → List ℕ → List ℕ → ℕ → ℕ → ℕ → Proposal
proposal heads count joined message budget version ceiling =
    record {
      heads = heads_of heads;
      count = count;
      joined = joined;
      message = message;
      budget = budget;
      version = version;
      ceiling = ceiling;
    }

unfoldable pub try_from_frozen_call : List ℕ → ℕ → List ℕ → List ℕ → ℕ → ℕ → ℕ → List ℕ → PlanCall
try_from_frozen_call heads count joined message budget version ceiling plan =
    unless_refused (refusal (frozen_tests heads plan)) (λ n. plan_call n plan)
    (check_gives (try_from_frozen (proposal heads count joined message budget version ceiling)) plan)

-- ---- catkhize_convert

-- the dialects by their numbers
abbrev pub dialects : List Dialect
dialects = BeginOnly ∷ Every ∷ []

-- the dialect that a number names; past the last, which the tests refuse, the first
abbrev pub dialect_of : ℕ → Dialect
dialect_of n = get_or dialects n BeginOnly

-- the tests of catkhize_try_from_frozen, and the dialects are 0 and 1
abbrev pub convert_tests : List ℕ → ℕ → List ℕ → List (Bool × Refusal)
convert_tests heads dialect plan = frozen_tests heads plan ++ ((ltb 1 dialect, unnamed) ∷ [])

unfoldable pub convert_call : List ℕ → ℕ → List ℕ → List ℕ → ℕ → ℕ → ℕ → ℕ → List ℕ → PlanCall
convert_call heads count joined message budget version ceiling dialect plan =
    unless_refused (refusal (convert_tests heads dialect plan)) (λ n. plan_call n plan)
    (check_gives (convert_of (dialect_of dialect) (proposal heads count joined message budget version ceiling)) plan)

-- ---- catkhize_delivery_order

-- the number that the call gives, and the output's octets after it
pub record OrderCall : Type 0 where
  pub code : ℕ
  pub output : List ℕ

abbrev pub order_call : ℕ → List ℕ → OrderCall
order_call n output = record { code = n; output = output }

abbrev pub order_code : Option Refusal → ℕ
order_code None = 0
order_code (Some r) = code_of r

-- what write_order answers, as a call; it has no test of the exports' own, for 61 says that the output is short
abbrev pub order_gives : Ordered → OrderCall
order_gives o = order_call (order_code o.refused) o.output

abbrev pub delivery_order_call : ℕ → ℕ → List ℕ → OrderCall
delivery_order_call segments number output = order_gives (write_order_of segments number output)
