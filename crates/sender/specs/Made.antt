-- What try_new makes: a plan that is given has 2 to 256 segments, so the sender that it makes has the facts of reached senders, and no list of calls
-- from it is refused with 62. Assumes nothing.
use Rattle.std.specs.Prelude.{ℕ, ◌≤◌, List, Bool, false, ◌&&◌, ◌||◌, ◌⊎◌, length, eqb, Option, Some, None}
use Rattle.std.proofs.Math.Path.{◌≡◌, refl}
use Rattle.std.proofs.Common.{sym, true≢false, inl, inr, ⊎_elim, arith}
use Rattle.std.proofs.Math.Bool.{true}
use borrow.Author.Tests.{eqb-true, not-false}
use Rattle.link.specs.Profile.{known_profile}
use Rattle.tsar.specs.Rows.{Refusal, refusal, refusal_none}
use Rattle.tsar.specs.Layout.{window_number}
use Rattle.segmentation.specs.Plan.{Planning, refused as plan_refused, unsegmented, segmented}
use Rattle.segmentation.specs.Planned.{Spread, full, even, planning}
use Rattle.segmentation.proofs.Planned.{plan_at_least, plan_at_most}
use Rattle.segmentation.specs.Frozen.{frozen_refusal, checked_as, try_from_frozen}
use Rattle.segmentation.specs.Accepted.{accepted_iff}
use Rattle.segmentation.specs.declared.SegmentedMessage.{SegmentedMessage}
use Rattle.segmentation.specs.declared.FrozenMessage.{FrozenMessage}
use Rattle.sender.specs.declared.PlanForm.{PlanForm}
use Rattle.sender.specs.declared.PlanForm.TheVariants as form
use Rattle.sender.specs.declared.Plan.{Plan}
use Rattle.sender.specs.declared.SenderState.{SenderState}
use Rattle.sender.specs.declared.Terms.{Terms}
use Rattle.sender.specs.Record.{same_bool, plan_count}
use Rattle.sender.specs.Calls.{answered}
use Rattle.sender.specs.TryNew.{same_plan, is_plan, at_own, is_planned, proposing, is_frozen, is_empty, is_given, try_new_rows, made_after, try_new_of}
use Rattle.sender.specs.Pending.{and_both}
use Rattle.sender.specs.CallList.{Call, step_of, answers, afterwards, NoneImpossible, ReachedSender, first_reached, list_keeps, list_says}

-- two plans that are the same have one count
same_count : (p q : SegmentedMessage) → same_plan p q ≡ true → p.count ≡ q.count
same_count p q e =
    let front =
    eqb p.message_octets q.message_octets
    && eqb p.payload_budget_octets q.payload_budget_octets
    && eqb p.transaction_id q.transaction_id
    && eqb (window_number p.acknowledgment_window) (window_number q.acknowledgment_window)
    && eqb p.begin_octets q.begin_octets
    && eqb p.later_capacity q.later_capacity in
    let count = eqb p.count q.count in
    eqb-true p.count q.count (and_both front count (and_both (front && count) (same_bool p.states_length q.states_length) e).0).1

-- what one of the planners gives for the record's own arguments
abbrev pub own_planning : Spread → SegmentedMessage → ℕ → Planning
own_planning x p n = at_own (planning x) p n

either : (a b : Bool) → (a || b) ≡ true → (a ≡ true) ⊎ (b ≡ true)
either true b e = inl refl
either false b e = inr e

-- a record that is given is given by the one planner or by the other
pub planned_by : (p : SegmentedMessage) (n : ℕ) → is_planned p n ≡ true → (is_plan (own_planning full p n) p ≡ true) ⊎ (is_plan (own_planning even p n) p ≡ true)
planned_by p n e = either (is_plan (own_planning full p n) p) (is_plan (own_planning even p n) p) e

by_count : (x : Spread) (p : SegmentedMessage) (n : ℕ) → is_plan (own_planning x p n) p ≡ true → (2 ≤ p.count) × (p.count ≤ 256)
by_count x p n = go (own_planning x p n) refl
  where
    go : (r : Planning) → own_planning x p n ≡ r → is_plan r p ≡ true → (2 ≤ p.count) × (p.count ≤ 256)
    go unsegmented q e = absurd (true≢false (sym e))
    go (plan_refused v) q e = absurd (true≢false (sym e))
    go (segmented r) q e =
        let z = same_count r p e in
        (omega (arith, plan_at_least x n p.payload_budget_octets p.transaction_id p.acknowledgment_window 1 p.payload_budget_octets r q), omega (arith, plan_at_most x n p.payload_budget_octets p.transaction_id p.acknowledgment_window 1 p.payload_budget_octets r q))

planned_count : (p : SegmentedMessage) (n : ℕ) → is_planned p n ≡ true → (2 ≤ p.count) × (p.count ≤ 256)
planned_count p n e = ⊎_elim (by_count full p n) (by_count even p n) (planned_by p n e)

frozen_count : (f : FrozenMessage) (message : List ℕ) → is_frozen (try_from_frozen (proposing f message)) f ≡ true → (2 ≤ f.count) × (f.count ≤ 256)
unfolding try_from_frozen
frozen_count f message e = go (frozen_refusal (proposing f message)) refl e
  where
    go : (r : Option Refusal) → frozen_refusal (proposing f message) ≡ r → is_frozen (checked_as r (proposing f message)) f ≡ true → (2 ≤ f.count) × (f.count ≤ 256)
    go (Some v) q e = absurd (true≢false (sym e))
    go None q e = let c = ((accepted_iff (proposing f message)).0 q).cutting in (c.at_least, c.at_most)

-- a plan that is given
pub given_count : (p : Plan) (message : List ℕ) → is_given p message ≡ true → (2 ≤ plan_count p) × (plan_count p ≤ 256)
unfolding is_given
given_count p message e = go p.form e
  where
    go : (f : PlanForm) → elim f [ form.Planned q ↦ is_planned q (length message) && is_empty p.frozen | form.Frozen ↦ is_frozen (try_from_frozen (proposing p.frozen message)) p.frozen ] ≡ true → (2 ≤ elim f [ form.Planned q ↦ q.count | form.Frozen ↦ p.frozen.count ]) × (elim f [ form.Planned q ↦ q.count | form.Frozen ↦ p.frozen.count ] ≤ 256)
    go (form.Planned q) e = planned_count q (length message) (and_both (is_planned q (length message)) (is_empty p.frozen) e).0
    go form.Frozen e = frozen_count p.frozen message e

-- ---- from a try_new that was not refused

module _ (t : Terms) (p : Plan) (message : List ℕ) (k : ℕ) (s : SenderState) (ok : (try_new_of t p message k).answer ≡ answered s) where
  -- with the terms that it was given
  pub made_terms : (try_new_of t p message k).sender.terms ≡ t
  unfolding try_new_of
  made_terms = go (refusal (try_new_rows t p message)) ok
    where
      go : (r : Option Refusal) → (made_after r t p k).answer ≡ answered s → (made_after r t p k).sender.terms ≡ t
      go (Some v) e = absurd (let z : ◌≡◌ {A = ℕ} 0 1 = cc in omega arith)
      go None e = refl

  -- of a known profile: it passed 64
  pub made_known : known_profile (try_new_of t p message k).sender.terms.profile ≡ true
  unfolding try_new_of
  made_known = go (refusal (try_new_rows t p message)) refl ok
    where
      go : (r : Option Refusal) → refusal (try_new_rows t p message) ≡ r → (made_after r t p k).answer ≡ answered s → known_profile (made_after r t p k).sender.terms.profile ≡ true
      go (Some v) q e = absurd (let z : ◌≡◌ {A = ℕ} 0 1 = cc in omega arith)
      go None q e = not-false (known_profile t.profile) (refusal_none (try_new_rows t p message) q 2)

module _ (interval : ℕ) (t : Terms) (p : Plan) (message : List ℕ) (k : ℕ) (s : SenderState) (ok : (try_new_of t p message k).answer ≡ answered s) where
  pub made_reached : ReachedSender interval (try_new_of t p message k).sender
  unfolding try_new_of
  made_reached = go (refusal (try_new_rows t p message)) refl ok
    where
      go : (r : Option Refusal) → refusal (try_new_rows t p message) ≡ r → (made_after r t p k).answer ≡ answered s → ReachedSender interval (made_after r t p k).sender
      go (Some v) q e = absurd (let z : ◌≡◌ {A = ℕ} 0 1 = cc in omega arith)
      go None q e =
          let g = given_count p message (not-false (is_given p message) (refusal_none (try_new_rows t p message) q 3)) in
          first_reached interval t p k g.0 g.1

  -- every list of calls keeps the facts
  pub calls_reach : (cs : List Call) → ReachedSender interval (afterwards (step_of interval) (try_new_of t p message k).sender cs)
  calls_reach cs = list_keeps interval (try_new_of t p message k).sender cs made_reached

  -- and no call of it is refused with 62
  pub calls_possible : (cs : List Call) → NoneImpossible (answers (step_of interval) (try_new_of t p message k).sender cs)
  calls_possible cs = list_says interval (try_new_of t p message k).sender cs made_reached (made_known t p message k s ok)
