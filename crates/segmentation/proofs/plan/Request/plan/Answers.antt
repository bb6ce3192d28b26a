-- `Request::plan` meets its contract: each test is a row of `size_rows`, and what is left is the plan of the formulas. Assumes nothing.
use Prim.Native.Nat.{ℕ, ◌+◌, ◌-◌, ◌<◌, ◌≤◌}
use mathlib.Core.Path.{◌≡◌, ap, ◌∙◌}
use native.Mathlib.Omega.{arith}
use borrow.Author.Tests.{lt-ltb, le-ltb, lt-leb}
use Rattle.segmentation.specs.Plan.{plan_of, prohibited, segment_count}
use Rattle.segmentation.proofs.Capacity.{up_ceil}
use Rattle.segmentation.proofs.plan.Request.plan.Goals as goal
use Rattle.segmentation.proofs.plan.Request.plan.Goals.{After-div_ceil-following}

-- how many segments the plan has
counted : (c : After-div_ceil-following) → 1 + c.div_ceil-following.result ≡ segment_count c.args.self.message_octets c.args.self.payload_budget_octets (prohibited c.args.self.acknowledgment_window)
unfolding segment_count
counted c =
    ap (λ (n : ℕ). 1 + n) (c.div_ceil-following.ensures ∙ up_ceil (c.args.self.message_octets - c.first_capacity-begin_octets.result) c.min-later_capacity.result (omega arith))
    ∙ simp (c.first_capacity-begin_octets.ensures, c.min-later_capacity.ensures)

pub returns-then-following-ge-MAX_SEGMENTS : goal.returns-then-following-ge-MAX_SEGMENTS
returns-then-following-ge-MAX_SEGMENTS c =
    let e = counted (goal.at.returns-then-following-ge-MAX_SEGMENTS c).After-div_ceil-following in
    let many : 256 < segment_count c.args.self.message_octets c.args.self.payload_budget_octets (prohibited c.args.self.acknowledgment_window) = omega arith in
    simp (le-ltb _ _ (rw c.minimum_begin_octets.ensures at c.if-self-minimum_begin_octets.false), lt-leb _ _ c.if-self-le-HEADER_OCTETS.false, lt-ltb 256 _ many)

pub returns : goal.returns
unfolding plan_of
returns c =
    let e = counted (goal.at.returns c).After-div_ceil-following in
    let few : segment_count c.args.self.message_octets c.args.self.payload_budget_octets (prohibited c.args.self.acknowledgment_window) ≤ 256 = omega arith in
    simp (le-ltb _ _ (rw c.minimum_begin_octets.ensures at c.if-self-minimum_begin_octets.false), lt-leb _ _ c.if-self-le-HEADER_OCTETS.false, le-ltb 256 _ few, e, c.first_capacity-begin_octets.ensures, c.min-later_capacity.ensures, c.states_length.ensures)
