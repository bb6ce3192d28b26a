-- `Proposed::check_segments` meets its contract. The loop's invariant: the offset is where the next segment's data begin, and what is left to check
-- answers what the whole does. Assumes nothing.
use Prim.Native.Nat.{ℕ, suc, ◌+◌, ◌≤◌}
use mathlib.Core.Path.{◌≡◌, ap, sym, ◌∙◌}
use mathlib.Core.Bool.{not, ◌&&◌}
use Rattle.std.specs.Prelude.{None, Err, length, ltb}
use Rattle.std.proofs.lemmas.Result.{err_from_is_err_and}
use native.Mathlib.Numerals.{add-one}
use native.Mathlib.Nat.{sub-zero}
use native.Mathlib.Omega.{arith}
use borrow.Author.Tests.{eq-eqb, ne_eqb}
use Rattle.tsar.specs.Rows.{refusal}
use Rattle.segmentation.specs.declared.frozen.Proposed.{Proposed}
use Rattle.segmentation.specs.Numbers.{planning_number}
use Rattle.segmentation.specs.Frozen.{Proposal, proposed_by, head_at, data_before, cuts_here, segments_from, answer_by}
use Rattle.segmentation.specs.Heads.{before_zero, before_suc, before_mono}
use Rattle.segmentation.proofs.Turns.{head_rows, cuts_at, head_stops, body_stops, goes_on, at_end}
use Rattle.segmentation.proofs.frozen.Proposed.check_segments.Goals as goal
use Rattle.segmentation.proofs.frozen.Proposed.check_segments.Goals.{After-cuts_here, In_ok-check_head}

-- what is proposed to a call
abbrev asked : Proposed → Proposal
asked p = proposed_by p.heads.now p.joined.now p.message.now p.payload_budget_octets p.version

head_passed : (c : In_ok-check_head) → refusal (head_rows (asked c.args.self) c.loop-index.index) ≡ None
head_passed c = sym c.check_head.ensures ∙ ap answer_by c.in_ok-check_head.was

-- the segment's data lie within the joined data
data_within : (c : In_ok-check_head) → c.loop-index.offset + (head_at c.args.self.heads.now c.loop-index.index).segment_data_length ≤ length c.args.self.joined.now
data_within c =
    let heads = c.args.self.heads.now in
    omega (arith, c.loop-index.invariant.0, before_suc heads c.loop-index.index, before_mono heads (suc c.loop-index.index) (length heads) c.loop-index-test.true)

cut_said : (c : After-cuts_here) → c.cuts_here.result ≡ cuts_at (asked c.args.self) c.loop-index.index
cut_said c =
    let s = c.args.self in
    let n : ℕ = (head_at s.heads.now c.loop-index.index).segment_data_length in
    c.cuts_here.ensures ∙ ap (λ (at : ℕ). not (ltb (length s.message.now) (at + n)) && cuts_here s.joined.now s.message.now at n) c.loop-index.invariant.0

pub loop-index-init : goal.loop-index-init
loop-index-init c =
    let s = c.args.self in
    (sym (before_zero s.heads.now), ap (λ (k : ℕ). segments_from (asked s) k 0) (sub-zero (length s.heads.now)))

pub returns-in_err-check_head : goal.returns-in_err-check_head
returns-in_err-check_head c =
    let r = err_from_is_err_and c.from_residual.result c.from_residual.ensures.1 in
    let e = sym c.check_head.ensures ∙ ap answer_by c.in_err-check_head.was in
    ap answer_by (r.1 ∙ ap Err r.2)
    ∙ sym (head_stops (asked c.args.self) c.loop-index.index c.loop-index-test.true c.loop-index.invariant.1 (planning_number c.in_err-check_head.field-0.0) e)

pub cuts_here-requires : goal.cuts_here-requires
cuts_here-requires c = data_within (goal.at.cuts_here-requires c).In_ok-check_head

pub returns-then-not-cuts_here : goal.returns-then-not-cuts_here
returns-then-not-cuts_here c =
    let at = goal.at.returns-then-not-cuts_here c in
    sym (body_stops (asked c.args.self) c.loop-index.index c.loop-index-test.true c.loop-index.invariant.1 (head_passed at.In_ok-check_head) (sym (cut_said at.After-cuts_here) ∙ c.if-not-cuts_here.true))

pub loop-index-preserved : goal.loop-index-preserved
loop-index-preserved c =
    let at = goal.at.loop-index-preserved c in
    let l = c.loop-index in
    let heads = c.args.self.heads.now in (
      omega (arith, l.invariant.0, before_suc heads l.index, ap (data_before heads) (add-one l.index)),
      goes_on (asked c.args.self) l.index c.loop-index-test.true l.invariant.1 (head_passed at.In_ok-check_head) (sym (cut_said at.After-cuts_here) ∙ c.if-not-cuts_here.false),
    )

pub returns-then-offset-self : goal.returns-then-offset-self
returns-then-offset-self c =
    let l = c.loop-index in
    let n : data_before c.args.self.heads.now l.index ≡ length c.args.self.message.now → ⊥ = λ h. c.if-offset-self.true (l.invariant.0 ∙ h) in
    sym (at_end (asked c.args.self) l.index (omega arith) l.invariant.1 ∙ simp (ne_eqb _ _ n))

pub returns : goal.returns
returns c =
    let l = c.loop-index in
    let n : data_before c.args.self.heads.now l.index ≡ length c.args.self.message.now = sym l.invariant.0 ∙ c.if-offset-self.false in
    sym (at_end (asked c.args.self) l.index (omega arith) l.invariant.1 ∙ simp (eq-eqb _ _ n))
