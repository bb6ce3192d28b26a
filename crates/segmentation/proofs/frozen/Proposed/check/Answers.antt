-- `Proposed::check` meets its contract: each test in front is a row of `frozen_rows`, the else of the first head's kind the row for Begin, and what is
-- behind is what `check_segments` answers. Assumes nothing.
use mathlib.Core.Path.{◌≡◌, ap, ap₂, sym, ◌∙◌}
use mathlib.Core.Bool.{true, not, ◌&&◌}
use mathlib.Core.Logic.{⊎_elim}
use mathlib.Core.List.{List}
use Rattle.std.specs.Prelude.{ℕ, ◌≤◌, ◌<◌, length, take, eqb, Option, Some, None, Err}
use Rattle.std.specs.Option.{option_eq}
use Rattle.std.proofs.lemmas.Result.{err_from_is_err_and}
use native.Mathlib.Omega.{arith}
use borrow.Author.Tests.{lt-ltb, le-ltb, not-false}
use Rattle.tsar.specs.Rows.{Passed, start, skip, stop}
use Rattle.tsar.specs.declared.AcknowledgmentWindow.{AcknowledgmentWindow}
use Rattle.tsar.specs.declared.OptionalServices.{OptionalServices}
use Rattle.tsar.specs.declared.SegmentHead.{SegmentHead}
use Rattle.tsar.specs.declared.SegmentKind.{SegmentKind}
use Rattle.tsar.specs.declared.SegmentKind.TheVariants.{Begin}
use Rattle.segmentation.specs.Numbers.{planning_number}
use Rattle.segmentation.specs.Cutting.{is_begin, services_or_default, compresses, selects_crc, plain_kind}
use Rattle.segmentation.specs.Frozen.{Proposal, sums_to, head_at, segments_from, frozen_rows, services_of, answer_by, plan_by}
use Rattle.segmentation.specs.Heads.{before_all_front, ends_at, kept_of_front}
use Rattle.segmentation.proofs.Placing.{no_begin}
use Rattle.segmentation.proofs.Turns.{front_alone, front_refused, behind_refused, both_passed, first_holds, second_holds, neither_holds}
use Rattle.segmentation.proofs.frozen.Proposed.check.Goals as goal
use Rattle.segmentation.proofs.frozen.Proposed.check.Goals.{After-are_plain, After-check_segments, After-ne, After-services_or_default-optional, Else-not-are_plain, Start}

-- what is proposed to a call
abbrev asked : Start → Proposal
asked s =
    record {
      heads = s.args.self.heads.now;
      count = s.args.count;
      joined = s.args.self.joined.now;
      message = s.args.self.message.now;
      budget = s.args.self.payload_budget_octets;
      version = s.args.self.version;
      ceiling = s.args.ceiling;
    }

-- what the calls say
sums_said : (c : After-ne) → c.ne.result ≡ not (sums_to c.args.self.heads.now c.args.count (length c.args.self.joined.now))
sums_said c =
    let heads = c.args.self.heads.now in
    let n : ℕ = length c.args.self.joined.now in
    c.ne.ensures
    ∙ ap (λ (o : Option ℕ). not (option_eq eqb o (Some n))) c.data_start.ensures
    ∙ ap not (ends_at (take c.args.count heads) (length (take c.args.count heads)) n ∙ ap (eqb n) (before_all_front heads c.args.count (omega arith)))

plain_said : (c : After-are_plain) → c.are_plain.result ≡ plain_kind (head_at c.args.self.heads.now 0).segment.kind
plain_said c =
    c.are_plain.ensures
    ∙ ap (λ (s : OptionalServices). not (compresses s.compression) && not (selects_crc s.crc_status)) c.services_or_default-optional.ensures
    ∙ ap plain_kind (sym c.in-Begin.is)

window_said : (c : After-services_or_default-optional) → c.services_or_default-optional.result.acknowledgment_window ≡ (services_or_default (services_of (head_at c.args.self.heads.now 0).segment.kind)).acknowledgment_window
window_said c =
    ap (λ (s : OptionalServices). s.acknowledgment_window) c.services_or_default-optional.ensures
    ∙ ap (λ (k : SegmentKind). (services_or_default (services_of k)).acknowledgment_window) (sym c.in-Begin.is)

segments_said : (c : After-check_segments) → segments_from (record { heads = c.args.self.heads.now; count = c.args.count; joined = c.args.self.joined.now; message = c.args.self.message.now; budget = c.args.self.payload_budget_octets; version = c.args.self.version; ceiling = c.args.ceiling }) c.args.count 0 ≡ answer_by c.check_segments.result
segments_said c =
    sym (c.check_segments.ensures ∙ front_alone c.args.self.heads.now c.args.count c.args.self.joined.now c.args.self.message.now c.args.self.payload_budget_octets c.args.self.version c.args.ceiling (omega arith) (omega arith))

-- one row after another was passed
passed_1 : (q : Proposal) → q.budget ≤ q.ceiling → Passed (frozen_rows q) 1
passed_1 q h = skip (start (frozen_rows q)) (le-ltb _ _ h)

passed_2 : (q : Proposal) → q.budget ≤ q.ceiling → 2 ≤ q.count → q.count ≤ 256 → Passed (frozen_rows q) 2
passed_2 q h few many = skip (passed_1 q h) (neither_holds _ _ (le-ltb _ _ few) (le-ltb _ _ many))

passed_3 : (q : Proposal) → Passed (frozen_rows q) 2 → sums_to q.heads q.count (length q.joined) ≡ true → Passed (frozen_rows q) 3
passed_3 q p e = skip p (ap not e)

passed_4 : (q : Proposal) → Passed (frozen_rows q) 3 → (l : Option ℕ) (s : Option OptionalServices) → (head_at q.heads 0).segment.kind ≡ Begin l s → Passed (frozen_rows q) 4
passed_4 q p l s e = skip p (ap (λ (k : SegmentKind). not (is_begin k)) e)

passed_5 : (q : Proposal) → Passed (frozen_rows q) 4 → plain_kind (head_at q.heads 0).segment.kind ≡ true → Passed (frozen_rows q) 5
passed_5 q p e = skip p (ap not e)

pub returns-then-ceiling-self : goal.returns-then-ceiling-self
returns-then-ceiling-self c =
    let q = asked (goal.at.returns-then-ceiling-self c).Start in
    sym (front_refused q (20, 0) (stop (0, 0) (start (frozen_rows q)) (lt-ltb _ _ c.if-ceiling-self.true)))

pub returns-then-count-lt-MIN_SEGMENTS : goal.returns-then-count-lt-MIN_SEGMENTS
returns-then-count-lt-MIN_SEGMENTS c =
    let q = asked (goal.at.returns-then-count-lt-MIN_SEGMENTS c).Start in
    let many = ⊎_elim (λ (h : q.count < 2). first_holds _ _ (lt-ltb q.count 2 h)) (λ (h : (2 ≤ q.count) × (256 < q.count)). second_holds _ _ (le-ltb q.count 2 h.0) (lt-ltb 256 q.count h.1)) c.then-count-lt-MIN_SEGMENTS.either in
    sym (front_refused q (22, 0) (stop (0, 0) (passed_1 q c.if-ceiling-self.false) many))

pub returns-then-ne : goal.returns-then-ne
returns-then-ne c =
    let at = goal.at.returns-then-ne c in
    let q = asked at.Start in
    let p = passed_2 q c.if-ceiling-self.false c.if-count-lt-MIN_SEGMENTS.false c.if-count-gt-MAX_SEGMENTS.false in
    sym (front_refused q (24, 0) (stop (0, 0) p (sym (sums_said at.After-ne) ∙ c.if-ne.true)))

pub returns-in_default : goal.returns-in_default
returns-in_default c =
    let at = goal.at.returns-in_default c in
    let q = asked at.Start in
    let p = passed_2 q c.if-ceiling-self.false c.if-count-lt-MIN_SEGMENTS.false c.if-count-gt-MAX_SEGMENTS.false in
    let p = passed_3 q p (not-false _ (sym (sums_said at.After-ne) ∙ c.if-ne.false)) in
    sym (front_refused q (23, 0) (stop (0, 0) p (ap not (no_begin (head_at q.heads 0).segment.kind c.in_default.not-Begin))))

pub returns-then-not-are_plain : goal.returns-then-not-are_plain
returns-then-not-are_plain c =
    let at = goal.at.returns-then-not-are_plain c in
    let q = asked at.Start in
    let p = passed_2 q c.if-ceiling-self.false c.if-count-lt-MIN_SEGMENTS.false c.if-count-gt-MAX_SEGMENTS.false in
    let p = passed_4 q (passed_3 q p (not-false _ (sym (sums_said at.After-ne) ∙ c.if-ne.false))) _ _ c.in-Begin.is in
    sym (front_refused q (23, 0) (stop (0, 0) p (ap not (sym (plain_said at.After-are_plain) ∙ c.if-not-are_plain.true))))

pub returns-in_err-check_segments : goal.returns-in_err-check_segments
returns-in_err-check_segments c =
    let at = goal.at.returns-in_err-check_segments c in
    let q = asked at.Start in
    let p = passed_2 q c.if-ceiling-self.false c.if-count-lt-MIN_SEGMENTS.false c.if-count-gt-MAX_SEGMENTS.false in
    let p = passed_4 q (passed_3 q p (not-false _ (sym (sums_said at.After-ne) ∙ c.if-ne.false))) _ _ c.in-Begin.is in
    let p = passed_5 q p (sym (plain_said at.After-are_plain) ∙ c.if-not-are_plain.false) in
    let r = err_from_is_err_and c.from_residual.result c.from_residual.ensures.1 in
    ap plan_by (r.1 ∙ ap Err r.2) ∙ sym (behind_refused q (planning_number c.in_err-check_segments.field-0.0) p.rest (segments_said at.After-check_segments ∙ ap answer_by c.in_err-check_segments.was))

pub returns : goal.returns
returns c =
    let at = goal.at.returns c in
    let q = asked at.Start in
    let p = passed_2 q c.if-ceiling-self.false c.if-count-lt-MIN_SEGMENTS.false c.if-count-gt-MAX_SEGMENTS.false in
    let p = passed_4 q (passed_3 q p (not-false _ (sym (sums_said at.After-ne) ∙ c.if-ne.false))) _ _ c.in-Begin.is in
    let p = passed_5 q p (sym (plain_said at.After-are_plain) ∙ c.if-not-are_plain.false) in
    let k = c.kept_heads.ensures ∙ kept_of_front q.heads q.count (omega arith) in
    ap₂ (λ (h : List SegmentHead) (w : AcknowledgmentWindow). record { refused = None; plan = record { heads = h; count = q.count; message_octets = length q.message; payload_budget_octets = q.budget; acknowledgment_window = w } }) k (window_said at.After-services_or_default-optional)
    ∙ sym (both_passed q p.rest (segments_said at.After-check_segments ∙ ap answer_by c.in_ok-check_segments.was))
