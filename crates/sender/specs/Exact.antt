-- 40 is decided exactly. Document 01: 40, 'a record that no planner or frozen check gives for the message under any ceiling'. is_given holds of a
-- plan exactly where a planner, plan_message or the even one (2026-02), gives it, at some budget, transaction, window and version and under some
-- ceiling, with the frozen part of no segments beside it; or where the frozen check gives it, for some proposal of 256 heads, under some version
-- and ceiling. The one hypothesis is that the plan's array has 256 heads, which is a fact of its type.
use Rattle.std.specs.Prelude.{ℕ, zero, suc, ◌-◌, ◌≤◌, ◌≡◌, refl, List, [], ◌∷◌, ◌++◌, Bool, true, false, ◌&&◌, ◌||◌, ◌↔◌, length, take, drop, replicate, eqb, Option, Some, None}
use Rattle.std.proofs.Common.{sym, ◌∙◌, subst, true≢false, ⊎_elim, arith, eqb-true, eq-eqb}
use Rattle.std.proofs.Math.Path.{ap}
use Rattle.std.proofs.Math.Bool.{or-true}
use Rattle.tsar.specs.Rows.{Refusal, refusal, refusal_none, refusal_pass}
use Rattle.tsar.specs.Kinds.{same_kind}
use Rattle.tsar.specs.Layout.{window_number}
use Rattle.tsar.specs.Writing.{codec_rows}
use Rattle.tsar.proofs.SameKind.{same_window, same_kind_lem, kind_same}
use Rattle.tsar.specs.declared.AcknowledgmentWindow.{AcknowledgmentWindow}
use Rattle.tsar.specs.declared.SegmentHead.{SegmentHead}
use Rattle.segmentation.specs.Plan.{Planning, refused as plan_refused, unsegmented, segmented, plan_message, even_message}
use Rattle.segmentation.specs.Planned.{Spread, full, even, planning, Plannable}
use Rattle.segmentation.proofs.Planned.{plan_given, plan_is, plan_arguments, plan_payload, plan_transaction, plan_window}
use Rattle.segmentation.specs.declared.SegmentedMessage.{SegmentedMessage}
use Rattle.segmentation.specs.declared.FrozenMessage.{FrozenMessage}
use Rattle.segmentation.specs.Frozen.{Proposal, Checked, frozen_refusal, checked_as, try_from_frozen, frozen_of, kept_heads, no_head, no_plan, head_at, data_before, services_of}
use Rattle.segmentation.specs.Accepted.{accepted_iff, acceptable_heads, cutting_accepted, joined_message}
use Rattle.segmentation.specs.Heads.{kept_head}
use Rattle.segmentation.specs.Cutting.{Cutting, services_or_default}
use Rattle.tsar.specs.Layout.{whole}
use Rattle.sender.specs.declared.PlanForm.{PlanForm}
use Rattle.sender.specs.declared.PlanForm.TheVariants as form
use Rattle.sender.specs.declared.Plan.{Plan}
use Rattle.sender.specs.Record.{same_bool}
use Rattle.sender.specs.TryNew.{same_plan, is_plan, is_planned, proposing, same_head, same_heads, same_frozen, is_frozen, is_empty, is_given}
use Rattle.sender.specs.Pending.{and_both}
use Rattle.sender.specs.Made.{own_planning, planned_by}

-- ---- two plans are the same exactly where they are one record

same_bool_lem : (a b : Bool) → same_bool a b ≡ true → a ≡ b
same_bool_lem true true e = refl
same_bool_lem true false e = absurd (true≢false (sym e))
same_bool_lem false true e = absurd (true≢false (sym e))
same_bool_lem false false e = refl

same_plan_lem : (p q : SegmentedMessage) → same_plan p q ≡ true → p ≡ q
same_plan_lem p q e =
    let e1 = eqb p.message_octets q.message_octets in
    let e2 = eqb p.payload_budget_octets q.payload_budget_octets in
    let e3 = eqb p.transaction_id q.transaction_id in
    let e4 = eqb (window_number p.acknowledgment_window) (window_number q.acknowledgment_window) in
    let e5 = eqb p.begin_octets q.begin_octets in
    let e6 = eqb p.later_capacity q.later_capacity in
    let e7 = eqb p.count q.count in
    let a = and_both (e1 && e2 && e3 && e4 && e5 && e6 && e7) (same_bool p.states_length q.states_length) e in
    let b = and_both (e1 && e2 && e3 && e4 && e5 && e6) e7 a.0 in
    let c = and_both (e1 && e2 && e3 && e4 && e5) e6 b.0 in
    let d = and_both (e1 && e2 && e3 && e4) e5 c.0 in
    let f = and_both (e1 && e2 && e3) e4 d.0 in
    let g = and_both (e1 && e2) e3 f.0 in
    let h = and_both e1 e2 g.0 in
    let x1 = eqb-true p.message_octets q.message_octets h.0 in
    let x2 = eqb-true p.payload_budget_octets q.payload_budget_octets h.1 in
    let x3 = eqb-true p.transaction_id q.transaction_id g.1 in
    let x4 = same_window p.acknowledgment_window q.acknowledgment_window f.1 in
    let x5 = eqb-true p.begin_octets q.begin_octets d.1 in
    let x6 = eqb-true p.later_capacity q.later_capacity c.1 in
    let x7 = eqb-true p.count q.count b.1 in
    let x8 = same_bool_lem p.states_length q.states_length a.1 in
    λ i. record { message_octets = x1 i; payload_budget_octets = x2 i; transaction_id = x3 i; acknowledgment_window = x4 i; begin_octets = x5 i; later_capacity = x6 i; count = x7 i; states_length = x8 i }

plan_same : (p : SegmentedMessage) → same_plan p p ≡ true
plan_same p =
    simp (eq-eqb p.message_octets p.message_octets refl, eq-eqb p.payload_budget_octets p.payload_budget_octets refl, eq-eqb p.transaction_id p.transaction_id refl, eq-eqb (window_number p.acknowledgment_window) (window_number p.acknowledgment_window) refl, eq-eqb p.begin_octets p.begin_octets refl, eq-eqb p.later_capacity p.later_capacity refl, eq-eqb p.count p.count refl, bool p.states_length)
  where
    bool : (b : Bool) → same_bool b b ≡ true
    bool true = refl
    bool false = refl

-- ---- a planner gives the record for n octets, at some budget, transaction, window and version, under some ceiling

pub data GivenByPlanner (p : SegmentedMessage) (n : ℕ) : Type 0 where
  planned : (budget transaction : ℕ) (w : AcknowledgmentWindow) (version ceiling : ℕ) → plan_message n budget transaction w version ceiling ≡ segmented p → GivenByPlanner p n
  evenly : (budget transaction : ℕ) (w : AcknowledgmentWindow) (version ceiling : ℕ) → even_message n budget transaction w version ceiling ≡ segmented p → GivenByPlanner p n

-- what gives it for its own arguments
own_gives : (x : Spread) (p : SegmentedMessage) (n : ℕ) → is_plan (own_planning x p n) p ≡ true → own_planning x p n ≡ segmented p
own_gives x p n e = go (own_planning x p n) refl e
  where
    go : (r : Planning) → own_planning x p n ≡ r → is_plan r p ≡ true → own_planning x p n ≡ segmented p
    go unsegmented q e = absurd (true≢false (sym e))
    go (plan_refused v) q e = absurd (true≢false (sym e))
    go (segmented r) q e = q ∙ ap segmented (same_plan_lem r p e)

-- what is given for any is given for its own
module _ (x : Spread) (p : SegmentedMessage) (n budget transaction : ℕ) (w : AcknowledgmentWindow) (version ceiling : ℕ) (gives : planning x n budget transaction w version ceiling ≡ segmented p) where
  own_arguments : Plannable n budget transaction w 1 budget
  own_arguments =
      let a = plan_arguments x n budget transaction w version ceiling p gives in
      record { within_ceiling = omega arith; long = a.long; asks_none = a.asks_none; served = omega arith; small = a.small; begin_room = a.begin_room; later_room = a.later_room; not_many = a.not_many }

  given_own : is_plan (own_planning x p n) p ≡ true
  given_own =
      let b = plan_payload x n budget transaction w version ceiling p gives in
      let t = plan_transaction x n budget transaction w version ceiling p gives in
      let v = plan_window x n budget transaction w version ceiling p gives in
      let made : own_planning x p n ≡ segmented p =
      (λ i. planning x n (b i) (t i) (v i) 1 (b i)) ∙ plan_given x n budget transaction w 1 budget own_arguments ∙ ap segmented (plan_is x n budget transaction w version ceiling p gives) in
      ap (λ (r : Planning). is_plan r p) made ∙ plan_same p

or_left : (a b : Bool) → a ≡ true → (a || b) ≡ true
or_left a b e = rw e

or_right : (a b : Bool) → b ≡ true → (a || b) ≡ true
or_right a b e = rw e (or-true a)

-- 40 of a planned record, both ways
pub planned_iff : (p : SegmentedMessage) (n : ℕ) → (is_planned p n ≡ true) ↔ GivenByPlanner p n
planned_iff p n = (to, from)
  where
    to : is_planned p n ≡ true → GivenByPlanner p n
    to e =
        ⊎_elim (λ (f : is_plan (own_planning full p n) p ≡ true). planned _ _ _ _ _ (own_gives full p n f))
        (λ (f : is_plan (own_planning even p n) p ≡ true). evenly _ _ _ _ _ (own_gives even p n f))
        (planned_by p n e)

    from : GivenByPlanner p n → is_planned p n ≡ true
    from (planned budget transaction w version ceiling gives) =
        or_left (is_plan (own_planning full p n) p) (is_plan (own_planning even p n) p) (given_own full p n budget transaction w version ceiling gives)
    from (evenly budget transaction w version ceiling gives) =
        or_right (is_plan (own_planning full p n) p) (is_plan (own_planning even p n) p) (given_own even p n budget transaction w version ceiling gives)

-- ---- two heads are the same exactly where they are one

same_head_lem : (g h : SegmentHead) → same_head g h ≡ true → g ≡ h
same_head_lem g h e =
    let t = eqb g.segment.transaction_id h.segment.transaction_id in
    let n = eqb g.segment.sequence_number h.segment.sequence_number in
    let k = same_kind g.segment.kind h.segment.kind in
    let d = eqb g.segment_data_length h.segment_data_length in
    let x = and_both (t && n && k) d e in
    let y = and_both (t && n) k x.0 in
    let z = and_both t n y.0 in
    let p1 = eqb-true g.segment.transaction_id h.segment.transaction_id z.0 in
    let p2 = eqb-true g.segment.sequence_number h.segment.sequence_number z.1 in
    let p3 = (same_kind_lem g.segment.kind h.segment.kind).0 y.1 in
    let p4 = eqb-true g.segment_data_length h.segment_data_length x.1 in
    λ i. record { segment = record { transaction_id = p1 i; sequence_number = p2 i; kind = p3 i }; segment_data_length = p4 i }

same_heads_lem : (gs hs : List SegmentHead) → same_heads gs hs ≡ true → gs ≡ hs
unfolding same_heads
same_heads_lem [] [] e = refl
same_heads_lem [] (h ∷ hs) e = absurd (true≢false (sym e))
same_heads_lem (g ∷ gs) [] e = absurd (true≢false (sym e))
same_heads_lem (g ∷ gs) (h ∷ hs) e =
    let x = and_both (same_head g h) (same_heads gs hs) e in
    let p = same_head_lem g h x.0 in
    let q = same_heads_lem gs hs x.1 in
    λ i. p i ∷ q i

same_frozen_lem : (f g : FrozenMessage) → same_frozen f g ≡ true → f ≡ g
same_frozen_lem f g e =
    let h = same_heads f.heads g.heads in
    let n = eqb f.count g.count in
    let o = eqb f.message_octets g.message_octets in
    let b = eqb f.payload_budget_octets g.payload_budget_octets in
    let w = eqb (window_number f.acknowledgment_window) (window_number g.acknowledgment_window) in
    let x = and_both (h && n && o && b) w e in
    let y = and_both (h && n && o) b x.0 in
    let z = and_both (h && n) o y.0 in
    let v = and_both h n z.0 in
    let p1 = same_heads_lem f.heads g.heads v.0 in
    let p2 = eqb-true f.count g.count v.1 in
    let p3 = eqb-true f.message_octets g.message_octets z.1 in
    let p4 = eqb-true f.payload_budget_octets g.payload_budget_octets y.1 in
    let p5 = same_window f.acknowledgment_window g.acknowledgment_window x.1 in
    λ i. record { heads = p1 i; count = p2 i; message_octets = p3 i; payload_budget_octets = p4 i; acknowledgment_window = p5 i }

-- ---- the frozen check gives the record for the message: some proposal of 256 heads, under some version and ceiling

pub record GivenByCheck (f : FrozenMessage) (message : List ℕ) : Type 0 where
  pub proposal : Proposal
  pub wide : length proposal.heads ≡ 256
  pub of_message : proposal.message ≡ message
  pub gives : try_from_frozen proposal ≡ record { refused = None; plan = f }

frozen_given : (f : FrozenMessage) (message : List ℕ) → length f.heads ≡ 256 → is_frozen (try_from_frozen (proposing f message)) f ≡ true → GivenByCheck f message
unfolding try_from_frozen
frozen_given f message wide e = go (frozen_refusal (proposing f message)) refl e
  where
    go : (r : Option Refusal) → frozen_refusal (proposing f message) ≡ r → is_frozen (checked_as r (proposing f message)) f ≡ true → GivenByCheck f message
    go (Some v) m e = absurd (true≢false (sym e))
    go None m e =
        let p = same_frozen_lem (frozen_of (proposing f message)) f e in
        record { proposal = proposing f message; wide = wide; of_message = refl; gives = ap (λ (r : Option Refusal). checked_as r (proposing f message)) m ∙ (λ i. record { refused = None; plan = p i }) }

-- the other way: what the check gives for a proposal of 256 heads is given for itself

heads_same : (hs : List SegmentHead) → same_heads hs hs ≡ true
unfolding same_heads
heads_same [] = refl
heads_same (h ∷ hs) =
    simp (eq-eqb h.segment.transaction_id h.segment.transaction_id refl, eq-eqb h.segment.sequence_number h.segment.sequence_number refl, kind_same h.segment.kind, eq-eqb h.segment_data_length h.segment_data_length refl, heads_same hs)

frozen_same : (f : FrozenMessage) → same_frozen f f ≡ true
frozen_same f =
    simp (heads_same f.heads, eq-eqb f.count f.count refl, eq-eqb f.message_octets f.message_octets refl, eq-eqb f.payload_budget_octets f.payload_budget_octets refl, eq-eqb (window_number f.acknowledgment_window) (window_number f.acknowledgment_window) refl)

-- heads that were kept are kept again
kept_front : (n : ℕ) (hs gs : List SegmentHead) → n ≤ length hs → take n (take n hs ++ gs) ≡ take n hs
kept_front zero hs gs l = refl
kept_front (suc n) [] gs l = absurd (omega arith)
kept_front (suc n) (h ∷ hs) gs l = ap (λ (t : List SegmentHead). h ∷ t) (kept_front n hs gs (omega arith))

kept_kept : (hs : List SegmentHead) (n : ℕ) → n ≤ length hs → kept_heads (kept_heads hs n) n ≡ kept_heads hs n
unfolding kept_heads
kept_kept hs n l = ap (λ (t : List SegmentHead). t ++ replicate (256 - n) no_head) (kept_front n hs (replicate (256 - n) no_head) l)

module _ (q : Proposal) (wide : length q.heads ≡ 256) (ok : frozen_refusal q ≡ None) where
  abbrev own : Proposal
  own = proposing (frozen_of q) q.message

  own_passes : frozen_refusal own ≡ None
  own_passes =
      let a = (accepted_iff q).0 ok in
      let b = acceptable_heads q (kept_heads q.heads q.count) (λ i h. sym (kept_head q.heads q.count i h)) a in
      let j = joined_message q a.sums a.cutting in
      cutting_accepted own
      (record {
        within_ceiling = omega arith;
        sums = ap length (sym j) ∙ b.sums;
        cutting = subst (λ (l : List ℕ). Cutting q.message (head_at (kept_heads q.heads q.count) 0).segment.transaction_id q.count (λ i. whole (head_at (kept_heads q.heads q.count) i).segment (take (head_at (kept_heads q.heads q.count) i).segment_data_length (drop (data_before (kept_heads q.heads q.count) i) l)))) j b.cutting;
        codec = λ i h. coded i (b.codec i h);
        fits = b.fits;
      })
    where
      coded : (i : ℕ) → refusal (codec_rows q.version (head_at (kept_heads q.heads q.count) i).segment (head_at (kept_heads q.heads q.count) i).segment_data_length) ≡ None
          → refusal (codec_rows 1 (head_at (kept_heads q.heads q.count) i).segment (head_at (kept_heads q.heads q.count) i).segment_data_length) ≡ None
      coded i e =
          let h = head_at (kept_heads q.heads q.count) i in
          let t = refusal_none (codec_rows q.version h.segment h.segment_data_length) e in
          refusal_pass (codec_rows 1 h.segment h.segment_data_length) (refl, (t 1, (t 2, (t 3, (t 4, (t 5, tt))))))

  own_plan : frozen_of own ≡ frozen_of q
  own_plan =
      let a = (accepted_iff q).0 ok in
      let k = kept_kept q.heads q.count (omega (arith, a.cutting.at_most)) in
      let w : (services_or_default (services_of (head_at (kept_heads q.heads q.count) 0).segment.kind)).acknowledgment_window ≡ (services_or_default (services_of (head_at q.heads 0).segment.kind)).acknowledgment_window =
      ap (λ (h : SegmentHead). (services_or_default (services_of h.segment.kind)).acknowledgment_window) (kept_head q.heads q.count 0 (omega (arith, a.cutting.at_least))) in
      λ i. record { heads = k i; count = q.count; message_octets = length q.message; payload_budget_octets = q.budget; acknowledgment_window = w i }

  pub check_given : is_frozen (try_from_frozen (proposing (frozen_of q) q.message)) (frozen_of q) ≡ true
  unfolding try_from_frozen
  check_given =
      ap (λ (r : Option Refusal). is_frozen (checked_as r own) (frozen_of q)) own_passes ∙ ap (λ (g : FrozenMessage). same_frozen g (frozen_of q)) own_plan ∙ frozen_same (frozen_of q)

given_frozen : (f : FrozenMessage) (message : List ℕ) → GivenByCheck f message → is_frozen (try_from_frozen (proposing f message)) f ≡ true
unfolding try_from_frozen
given_frozen f message g = go (frozen_refusal g.proposal) refl g.gives
  where
    go : (r : Option Refusal) → frozen_refusal g.proposal ≡ r → checked_as r g.proposal ≡ record { refused = None; plan = f } → is_frozen (try_from_frozen (proposing f message)) f ≡ true
    go (Some v) m e =
        let q = ap (λ (c : Checked). c.refused) e in
        let z : ◌≡◌ {A = ℕ} 0 1 = cc in
        absurd (omega arith)
    go None m e =
        let p : frozen_of g.proposal ≡ f = ap (λ (c : Checked). c.plan) e in
        subst (λ (l : List ℕ). is_frozen (try_from_frozen (proposing f l)) f ≡ true) g.of_message
        (subst (λ (x : FrozenMessage). is_frozen (try_from_frozen (proposing x g.proposal.message)) x ≡ true) p (check_given g.proposal g.wide m))

-- ---- 40

-- a planner gives it for the message, with no segments in the frozen part; or the frozen check gives it
abbrev pub GivenAs : PlanForm → FrozenMessage → List ℕ → Type 0
GivenAs (form.Planned q) f message = GivenByPlanner q (length message) × (f ≡ no_plan)
GivenAs form.Frozen f message = GivenByCheck f message

abbrev pub Given : Plan → List ℕ → Type 0
Given p message = GivenAs p.form p.frozen message

-- a plan, whose array has 256 heads, is given exactly where a planner or the frozen check gives it
pub given_iff : (p : Plan) (message : List ℕ) → length p.frozen.heads ≡ 256 → (is_given p message ≡ true) ↔ Given p message
unfolding is_given
given_iff p message wide = (to p.form, from p.form)
  where
    to : (x : PlanForm) → elim x [ form.Planned q ↦ is_planned q (length message) && is_empty p.frozen | form.Frozen ↦ is_frozen (try_from_frozen (proposing p.frozen message)) p.frozen ] ≡ true → GivenAs x p.frozen message
    to (form.Planned q) e =
        let y = and_both (is_planned q (length message)) (is_empty p.frozen) e in
        ((planned_iff q (length message)).0 y.0, sym (same_frozen_lem no_plan p.frozen y.1))
    to form.Frozen e = frozen_given p.frozen message wide e

    from : (x : PlanForm) → GivenAs x p.frozen message → elim x [ form.Planned q ↦ is_planned q (length message) && is_empty p.frozen | form.Frozen ↦ is_frozen (try_from_frozen (proposing p.frozen message)) p.frozen ] ≡ true
    from (form.Planned q) g =
        ap (λ (b : Bool). b && is_empty p.frozen) ((planned_iff q (length message)).1 g.0)
        ∙ subst (λ (f : FrozenMessage). is_empty f ≡ true) (sym g.1) (frozen_same no_plan)
    from form.Frozen g = given_frozen p.frozen message g
