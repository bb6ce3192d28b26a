-- What the code of convert goes by: heads restated one by one, the heads of a plan restated, and each way out. Assumes nothing.
use Prim.Native.Nat.{ℕ, zero, suc, ◌+◌, ◌-◌, ◌≤◌, ◌<◌}
use mathlib.Core.Path.{◌≡◌, refl, sym, ap, ap₂, ◌∙◌, subst}
use mathlib.Core.Bool.{Bool, true, false, cond, not}
use mathlib.Core.List.{List, [], ◌∷◌, ◌++◌, map}
use Rattle.std.specs.Prelude.{Option, Result, Some, None, Ok, Err}
use native.Mathlib.Omega.{arith}
use lib.ListN.{length, set, take, drop, replicate}
use native.Mathlib.Numerals.{add-one}
use lib.Seq.{length-take-le}
use borrow.Rule.Slice.PartMut.{put_mid}
use Rattle.tsar.specs.Rows.{Refusal, refusal}
use Rattle.tsar.specs.Writing.{length_in}
use Rattle.tsar.specs.declared.SegmentHead.{SegmentHead}
use Rattle.segmentation.specs.declared.FrozenMessage.{FrozenMessage}
use Rattle.segmentation.specs.Cutting.{services_or_default, states_other}
use Rattle.segmentation.specs.Frozen.{Proposal, Checked, no_head, no_plan, head_at, frozen_refusal, services_of, kept_heads, frozen_of, checked_as, try_from_frozen, answer_of}
use Rattle.segmentation.specs.Heads.{kept_head}
use Rattle.segmentation.specs.Accepted.{frozen_acceptable}
use Rattle.dialect.specs.declared.Dialect.{Dialect}
use Rattle.dialect.specs.Convert.{other_dialect, states, later_in, in_dialect, restated, restate_later, restated_heads, converted, passes_budget, convert_refusal, convert_of, converted_by, plan_by, restated_plan, plan_rows, plan_as}
use Rattle.dialect.specs.declared.ConvertError.{ConvertError}
use Rattle.dialect.proofs.Converted.{heads_at, not_long}
use Rattle.dialect.proofs.Back.{later_take}
use Rattle.dialect.proofs.Pattern.{both_true, passes_cong, room_of, dialect_cong}
use Rattle.dialect.proofs.Theorems.{check_refused, other_dialect_lem, budget_passed, none_refused, plan_is}

-- ---- one head after another

pub restate_more : (f : SegmentHead → SegmentHead) (i : ℕ) (l : List SegmentHead) → i < length l → set (map f (take i l) ++ drop i l) i (f (head_at (map f (take i l) ++ drop i l) i)) ≡ map f (take (i + 1) l) ++ drop (i + 1) l
restate_more f i l h = rw (add-one i) (go i l h)
  where
    go : (i : ℕ) (l : List SegmentHead) → i < length l → set (map f (take i l) ++ drop i l) i (f (head_at (map f (take i l) ++ drop i l) i)) ≡ map f (take (suc i) l) ++ drop (suc i) l
    go i [] h = absurd (omega arith)
    go zero (x ∷ l) h = refl
    go (suc i) (x ∷ l) h = ap (λ (t : List SegmentHead). f x ∷ t) (go i l (omega arith))

-- the later ones restated in their place
restate_parts : (d : Dialect) (n k : ℕ) (l : List SegmentHead) → map (restated d n) (take k l) ++ drop k l ≡ restate_later d n k l
unfolding restate_later
restate_parts d n zero l = refl
restate_parts d n (suc k) [] = refl
restate_parts d n (suc k) (x ∷ l) = ap (λ (t : List SegmentHead). restated d n x ∷ t) (restate_parts d n k l)

pub restated_mid : (d : Dialect) (n count : ℕ) (l ys : List SegmentHead) → ys ≡ map (restated d n) (take (count - 1) (drop 1 l)) → 0 < length l → put_mid 1 (count - 1) l ys ≡ restated_heads d n count l
restated_mid d n count [] ys e h = absurd (omega arith)
restated_mid d n count (x ∷ l) ys e h = ap (λ (t : List SegmentHead). x ∷ (t ++ drop (count - 1) l)) e ∙ ap (λ (t : List SegmentHead). x ∷ t) (restate_parts d n (count - 1) l)

-- ---- the heads that a plan keeps, restated

later_append : (d : Dialect) (n k : ℕ) (l r : List SegmentHead) → k ≤ length l → restate_later d n k (l ++ r) ≡ restate_later d n k l ++ r
unfolding restate_later
later_append d n zero l r h = refl
later_append d n (suc k) [] r h = absurd (omega arith)
later_append d n (suc k) (x ∷ l) r h = ap (λ (t : List SegmentHead). restated d n x ∷ t) (later_append d n k l r (omega arith))

kept_suc : (d : Dialect) (n c : ℕ) (l : List SegmentHead) → suc c ≤ length l → restated_heads d n (suc c) (kept_heads l (suc c)) ≡ kept_heads (restated_heads d n (suc c) l) (suc c)
unfolding kept_heads
kept_suc d n c [] h = absurd (omega arith)
kept_suc d n c (x ∷ l) h =
    let e : suc c - 1 ≡ c = omega arith in
    let r : List SegmentHead = replicate (256 - suc c) no_head in
    let size : length (take c l) ≡ c = length-take-le c l (omega arith) in
    ap (λ (j : ℕ). x ∷ restate_later d n j (take c l ++ replicate (256 - suc c) no_head)) e
    ∙ ap (λ (t : List SegmentHead). x ∷ t) (later_append d n c (take c l) (replicate (256 - suc c) no_head) (omega arith) ∙ ap (λ (t : List SegmentHead). t ++ replicate (256 - suc c) no_head) (sym (later_take d n c l)))
    ∙ ap (λ (j : ℕ). x ∷ (take c (restate_later d n j l) ++ replicate (256 - suc c) no_head)) (sym e)

pub kept_restated : (d : Dialect) (n count : ℕ) (l : List SegmentHead) → 1 ≤ count → count ≤ length l → restated_heads d n count (kept_heads l count) ≡ kept_heads (restated_heads d n count l) count
kept_restated d n zero l a h = absurd (omega arith)
kept_restated d n (suc c) l a h = kept_suc d n c l h

-- ---- what the check said

accepted : (q : Proposal) (p : FrozenMessage) → record { refused = None; plan = p } ≡ try_from_frozen q → (frozen_refusal q ≡ None) × (p ≡ frozen_of q)
unfolding try_from_frozen
accepted q p = go (frozen_refusal q) refl
  where
    go : (o : Option Refusal) → frozen_refusal q ≡ o → record { refused = None; plan = p } ≡ checked_as o q → (frozen_refusal q ≡ None) × (p ≡ frozen_of q)
    go None e f = (e, ap (λ (x : Checked). x.plan) f)
    go (Some r) e f = let g : None ≡ Some r = ap (λ (x : Checked). x.refused) f in absurd (let z : ◌≡◌ {A = ℕ} 0 1 = cc in omega arith)

pub refused_first : (d : Dialect) (q : Proposal) (r : Refusal) (p : FrozenMessage) → record { refused = Some r; plan = p } ≡ try_from_frozen q → record { refused = Some r; plan = no_plan } ≡ convert_of d q
unfolding try_from_frozen convert_of
refused_first d q r p = go (frozen_refusal q) refl
  where
    go : (o : Option Refusal) → frozen_refusal q ≡ o → record { refused = Some r; plan = p } ≡ checked_as o q → record { refused = Some r; plan = no_plan } ≡ checked_as (convert_refusal d q) (converted (other_dialect d) q)
    go None e f = let g : Some r ≡ None = ap (λ (x : Checked). x.refused) f in absurd (let z : ◌≡◌ {A = ℕ} 0 1 = cc in omega arith)
    go (Some s) e f =
        let g : Some r ≡ Some s = ap (λ (x : Checked). x.refused) f in
        ap (λ (o : Option Refusal). checked_as o (converted (other_dialect d) q)) (g ∙ sym (check_refused d q s e))

refused_as : (d : Dialect) (q : Proposal) (r : Refusal) → convert_refusal d q ≡ Some r → record { refused = Some r; plan = no_plan } ≡ convert_of d q
unfolding convert_of
refused_as d q r e = ap (λ (o : Option Refusal). checked_as o (converted (other_dialect d) q)) (sym e)

-- ---- the ways out behind the check

module _ (d : Dialect) (q : Proposal) (p : FrozenMessage) (said : record { refused = None; plan = p } ≡ try_from_frozen q) where
  passed : frozen_refusal q ≡ None
  passed = (accepted q p said).0

  pub few : (1 ≤ q.count) × (q.count ≤ 256)
  few = let c = (frozen_acceptable q passed).cutting in (omega (arith, c.at_least), c.at_most)

  pub wrong_dialect : in_dialect d q.heads q.count ≡ false → record { refused = Some (26, 0); plan = no_plan } ≡ convert_of d q
  wrong_dialect e = refused_as d q (26, 0) (other_dialect_lem d q passed e)

  module _ (right : in_dialect d q.heads q.count ≡ true) where
    pub small : length q.message ≤ 4095
    small = not_long d q passed (room_of q passed) (both_true (states (head_at q.heads 0)) (later_in d q.heads (q.count - 1)) right).0

    module _ (w : Dialect) (is_other : w ≡ other_dialect d) (heads : List SegmentHead) (are : heads ≡ restated_heads w (length q.message) q.count p.heads) where
      kept : heads ≡ kept_heads (restated_heads (other_dialect d) (length q.message) q.count q.heads) q.count
      kept =
          are ∙ ap (λ (x : Dialect). restated_heads x (length q.message) q.count p.heads) is_other
          ∙ ap (λ (x : FrozenMessage). restated_heads (other_dialect d) (length q.message) q.count x.heads) (accepted q p said).1
          ∙ kept_restated (other_dialect d) (length q.message) q.count q.heads few.0 (room_of q passed)

      same_passes : passes_budget q.budget heads q.count ≡ passes_budget q.budget (converted (other_dialect d) q).heads q.count
      same_passes = ap (λ (l : List SegmentHead). passes_budget q.budget l q.count) kept ∙ passes_cong q.budget _ (converted (other_dialect d) q).heads q.count (λ i h. kept_head (converted (other_dialect d) q).heads q.count i h)

      pub too_large : passes_budget q.budget heads q.count ≡ true → record { refused = Some (20, 0); plan = no_plan } ≡ convert_of d q
      too_large e = refused_as d q (20, 0) (budget_passed d q passed right (sym same_passes ∙ e))

      pub done : passes_budget q.budget heads q.count ≡ false → record { refused = None; plan = record { heads = heads; count = p.count; message_octets = p.message_octets; payload_budget_octets = p.payload_budget_octets; acknowledgment_window = p.acknowledgment_window } } ≡ convert_of d q
      done e =
          let first : head_at q.heads 0 ≡ head_at (converted (other_dialect d) q).heads 0 = sym (heads_at (other_dialect d) (length q.message) q.count q.heads 0 few.0 (omega (arith, room_of q passed, few.0))) in
          ap₂ {C = Checked} (λ (l : List SegmentHead) (x : FrozenMessage). record { refused = None; plan = record { heads = l; count = x.count; message_octets = x.message_octets; payload_budget_octets = x.payload_budget_octets; acknowledgment_window = x.acknowledgment_window } }) kept (accepted q p said).1
          ∙ ap (λ (x : SegmentHead). record { refused = None; plan = record { heads = kept_heads (converted (other_dialect d) q).heads q.count; count = q.count; message_octets = length q.message; payload_budget_octets = q.budget; acknowledgment_window = (services_or_default (services_of x.segment.kind)).acknowledgment_window } }) first
          ∙ sym (plan_is d q (none_refused d q passed right (sym same_passes ∙ e)))

-- ---- a plan that the frozen check gave

-- the answer of the call is that of its plan or refusal
pub answered : (r : Result FrozenMessage ConvertError) → converted_by (answer_of r) ≡ plan_by r
answered (Ok p) = refl
answered (Err e) = refl

module _ (d : Dialect) (p : FrozenMessage) where
  abbrev pub PlanSays : Option Refusal → List SegmentHead → Type 0
  PlanSays r heads = plan_as r (record { heads = heads; count = p.count; message_octets = p.message_octets; payload_budget_octets = p.payload_budget_octets; acknowledgment_window = p.acknowledgment_window }) ≡ plan_as (refusal (plan_rows d p)) (restated_plan (other_dialect d) p)

  pub plan_wrong : in_dialect d p.heads p.count ≡ false → (heads : List SegmentHead) → PlanSays (Some (26, 0)) heads
  plan_wrong e heads = rw e refl

  pub plan_right : in_dialect d p.heads p.count ≡ true → (w : Dialect) (n : ℕ) (heads : List SegmentHead) (over : Bool) → w ≡ other_dialect d → n ≡ p.message_octets → heads ≡ restated_heads w n p.count p.heads → passes_budget p.payload_budget_octets heads p.count ≡ over → PlanSays (cond over (Some (20, 0)) None) heads
  plan_right e w n heads over f g h o =
      let k : heads ≡ restated_heads (other_dialect d) p.message_octets p.count p.heads = h ∙ ap₂ (λ (x : Dialect) (m : ℕ). restated_heads x m p.count p.heads) f g in
      rw (e, ← k, o) refl

module _ (d : Dialect) (q : Proposal) (said : record { refused = None; plan = frozen_of q } ≡ try_from_frozen q) where
  same_dialect : in_dialect d (kept_heads q.heads q.count) q.count ≡ in_dialect d q.heads q.count
  same_dialect = dialect_cong d (kept_heads q.heads q.count) q.heads q.count (few d q (frozen_of q) said).0 (λ i h. kept_head q.heads q.count i h)

  abbrev there : List SegmentHead
  there = restated_heads (other_dialect d) (length q.message) q.count (kept_heads q.heads q.count)

  frozen_converted : plan_as (refusal (plan_rows d (frozen_of q))) (restated_plan (other_dialect d) (frozen_of q)) ≡ convert_of d q
  frozen_converted = go (in_dialect d (kept_heads q.heads q.count) q.count) (passes_budget q.budget there q.count) refl refl
    where
      go : (a b : Bool) → in_dialect d (kept_heads q.heads q.count) q.count ≡ a → passes_budget q.budget there q.count ≡ b → plan_as (refusal {A = Refusal} ((not a, (26, 0)) ∷ (b, (20, 0)) ∷ [])) (restated_plan (other_dialect d) (frozen_of q)) ≡ convert_of d q
      go false b e f = wrong_dialect d q (frozen_of q) said (sym same_dialect ∙ e)
      go true true e f = too_large d q (frozen_of q) said (sym same_dialect ∙ e) (other_dialect d) refl there refl f
      go true false e f = done d q (frozen_of q) said (sym same_dialect ∙ e) (other_dialect d) refl there refl f

-- what it is converted to is what the definition says of what was proposed
pub plan_converted : (d : Dialect) (q : Proposal) (p : FrozenMessage) → record { refused = None; plan = p } ≡ try_from_frozen q → plan_as (refusal (plan_rows d p)) (restated_plan (other_dialect d) p) ≡ convert_of d q
plan_converted d q p said =
    let e = (accepted q p said).1 in
    subst (λ (x : FrozenMessage). plan_as (refusal (plan_rows d x)) (restated_plan (other_dialect d) x) ≡ convert_of d q) (sym e)
    (frozen_converted d q (subst (λ (x : FrozenMessage). record { refused = None; plan = x } ≡ try_from_frozen q) e said))

-- and its heads are as `converted` asks
pub plan_counted : (d : Dialect) (q : Proposal) (p : FrozenMessage) → record { refused = None; plan = p } ≡ try_from_frozen q → (1 ≤ p.count) × (p.count ≤ 256)
plan_counted d q p said = let f = few d q p said in let e : p.count ≡ q.count = ap (λ (x : FrozenMessage). x.count) (accepted q p said).1 in (omega arith, omega arith)

pub plan_stated : (d : Dialect) (q : Proposal) (p : FrozenMessage) → record { refused = None; plan = p } ≡ try_from_frozen q → states_other (length_in (head_at p.heads 0).segment.kind) p.message_octets ≡ false
plan_stated d q p said =
    let a = accepted q p said in
    let z = (few d q p said).0 in
    ap (λ (x : FrozenMessage). states_other (length_in (head_at x.heads 0).segment.kind) x.message_octets) a.1
    ∙ ap (λ (x : SegmentHead). states_other (length_in x.segment.kind) (length q.message)) (kept_head q.heads q.count 0 z)
    ∙ (frozen_acceptable q a.0).cutting.states 0 z
