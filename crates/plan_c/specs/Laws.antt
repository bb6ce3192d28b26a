-- Laws of what the exported planner gives: a plan that is written, a call that its own tests refuse, and one that they let pass. Assumes nothing.
use Rattle.std.specs.Prelude.{◌≡◌, Bool, cond, ℕ, ◌≤◌, length, Option, Some, None}
use Rattle.std.proofs.Common.{sym, ◌∙◌}
use Rattle.std.proofs.Math.Path.{ap}
use mathlib.Core.List.{List}
use Rattle.std.proofs.lemmas.List.Edits.{sets}
use Rattle.tsar.specs.Rows.{Refusal, refusal}
use Rattle.tsar.specs.declared.SegmentHead.{SegmentHead}
use Rattle.segmentation.specs.Plan.{Planning}
use Rattle.segmentation.specs.Frozen.{try_from_frozen}
use Rattle.sender.specs.TryNew.{plan_segment}
use Rattle.sender.specs.declared.Plan.{Plan}
use Rattle.image.specs.Spelling.{put_spells}
use Rattle.codec_c.specs.Codes.{code_of, unless_refused}
use Rattle.plan_image.specs.Frozen.{heads_of}
use Rattle.plan_image.specs.Plans.{plan_image, plan_of, PlanFits, plan_layout}
use Rattle.plan_c.specs.Calls.{spelled_by, plan_call, plan_written, planning_gives, message_tests, planning_call, part_call, segment_gives, segment_tests, plan_segment_call, check_gives, frozen_tests, proposal, try_from_frozen_call}

-- ---- a plan that is written

-- octets into whose front a plan is put spell it
pub spelled : (plan i : List ℕ) (p : Plan) → 5958 ≤ length plan → PlanFits p → i ≡ sets plan 0 (plan_image p) → spelled_by i ≡ Some p
unfolding spelled_by
spelled plan i p room fits e =
    let w = put_spells plan_layout plan p i room fits e in
    ap (λ (b : Bool). cond b (Some (plan_of i)) None) w.1 ∙ ap Some w.0

pub writes : (plan i : List ℕ) (p : Plan) → 5958 ≤ length plan → PlanFits p → i ≡ sets plan 0 (plan_image p) → plan_call 0 i ≡ plan_written p plan
writes plan i p room fits e =
    let w = spelled plan i p room fits e in
    λ k. record { code = 0; plan = e k; spelled = w k }

-- ---- catkhize_plan_message and catkhize_plan_even

module _ (given : Planning) (window : ℕ) (plan : List ℕ) where
  pub planning_refused : (r : Refusal) → refusal (message_tests window plan) ≡ Some r → plan_call (code_of r) plan ≡ planning_call given window plan
  unfolding planning_call
  planning_refused r e = ap (λ (o : Option Refusal). unless_refused o (λ n. plan_call n plan) (planning_gives given plan)) (sym e)

  pub planning_passed : refusal (message_tests window plan) ≡ None → planning_gives given plan ≡ planning_call given window plan
  unfolding planning_call
  planning_passed e = ap (λ (o : Option Refusal). unless_refused o (λ n. plan_call n plan) (planning_gives given plan)) (sym e)

-- ---- catkhize_plan_segment

module _ (plan : List ℕ) (index : ℕ) (answer : List ℕ) where
  pub segment_refused : (r : Refusal) → refusal (segment_tests plan answer) ≡ Some r → part_call (code_of r) answer ≡ plan_segment_call plan index answer
  unfolding plan_segment_call
  segment_refused r e =
      ap (λ (o : Option Refusal). unless_refused o (λ n. part_call n answer) (segment_gives (plan_segment (plan_of plan) index) answer)) (sym e)

  pub segment_passed : (p : Plan) → refusal (segment_tests plan answer) ≡ None → p ≡ plan_of plan → segment_gives (plan_segment p index) answer ≡ plan_segment_call plan index answer
  unfolding plan_segment_call
  segment_passed p e q =
      ap (λ (x : Plan). segment_gives (plan_segment x index) answer) q
      ∙ ap (λ (o : Option Refusal). unless_refused o (λ n. part_call n answer) (segment_gives (plan_segment (plan_of plan) index) answer)) (sym e)

-- ---- catkhize_try_from_frozen

module _ (heads : List ℕ) (count : ℕ) (joined message : List ℕ) (budget version ceiling : ℕ) (plan : List ℕ) where
  pub frozen_refused : (r : Refusal) → refusal (frozen_tests heads plan) ≡ Some r
      → plan_call (code_of r) plan ≡ try_from_frozen_call heads count joined message budget version ceiling plan
  unfolding try_from_frozen_call
  frozen_refused r e =
      ap
      (λ (o : Option Refusal).
      unless_refused o (λ n. plan_call n plan) (check_gives (try_from_frozen (proposal heads count joined message budget version ceiling)) plan))
      (sym e)

  pub frozen_passed : (hs : List SegmentHead) → refusal (frozen_tests heads plan) ≡ None → hs ≡ heads_of heads
      → check_gives
      (try_from_frozen (record { heads = hs; count = count; joined = joined; message = message; budget = budget; version = version; ceiling = ceiling })) plan
      ≡ try_from_frozen_call heads count joined message budget version ceiling plan
  unfolding try_from_frozen_call
  frozen_passed hs e q =
      ap
      (λ (x : List SegmentHead).
      check_gives
      (try_from_frozen (record { heads = x; count = count; joined = joined; message = message; budget = budget; version = version; ceiling = ceiling })) plan)
      q
      ∙ ap
      (λ (o : Option Refusal).
      unless_refused o (λ n. plan_call n plan) (check_gives (try_from_frozen (proposal heads count joined message budget version ceiling)) plan))
      (sym e)
