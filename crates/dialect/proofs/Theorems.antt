-- What is shown of the converter: what is converted passes the check, there and back, what is kept. Refusals has every refusal. Assumes nothing.
use Prim.Native.Nat.{ℕ, zero, suc, ◌+◌, ◌-◌, ◌≤◌, ◌<◌}
use mathlib.Core.Path.{◌≡◌, refl, sym, ap, ap₂, ◌∙◌, subst}
use mathlib.Core.Bool.{Bool, true, false, not}
use mathlib.Core.List.{List, [], ◌∷◌, ◌++◌}
use Rattle.std.specs.Prelude.{Option, Some, None}
use native.Mathlib.Omega.{arith}
use lib.ListN.{length, take, drop, replicate, length-append, length-replicate}
use lib.Seq.{length-take-le}
use Rattle.tsar.specs.Rows.{Refusal, refusal, or_else}
use Rattle.tsar.specs.Writing.{header_octets, crc_in}
use Rattle.tsar.specs.Layout.{type_of}
use Rattle.tsar.specs.declared.AcknowledgmentWindow.{AcknowledgmentWindow}
use Rattle.tsar.specs.declared.SegmentKind.{SegmentKind}
use Rattle.tsar.specs.declared.SegmentKind.TheVariants as kind'
use Rattle.tsar.specs.declared.SegmentHead.{SegmentHead}
use Rattle.segmentation.specs.declared.FrozenMessage.{FrozenMessage}
use Rattle.segmentation.specs.Cutting.{services_or_default}
use Rattle.segmentation.specs.Frozen.{Proposal, Checked, proposed, no_head, head_at, frozen_refusal, services_of, kept_heads, frozen_of, checked_as, try_from_frozen, frozen_segment_at}
use Rattle.segmentation.specs.Heads.{kept_head, kept_before}
use Rattle.segmentation.specs.Accepted.{with_heads, frozen_acceptable, frozen_again, frozen_segment}
use Rattle.dialect.specs.declared.Dialect.{Dialect}
use Rattle.dialect.specs.declared.Dialect.TheVariants.{BeginOnly, Every}
use Rattle.dialect.specs.Convert.{other_dialect, is_stated, states, later_fits, later_in, in_dialect, length_for, with_length, restated, restated_heads, converted, passes_budget, dialect_rows, convert_refusal, convert_of}
use Rattle.dialect.specs.Statement.{again, PassesCheck, ThereAndBack, KeptAt, Keeps, KeepsAll, InDialect, OnlyInDialect, IntoOther}
use Rattle.dialect.proofs.Converted.{restated_at, heads_at, at_place, same_type, same_crc_lem, the_length, same_before, same_data, still_frozen}
use Rattle.dialect.proofs.Back.{length_is, heads_length, take_kept, kept_back}
use Rattle.dialect.proofs.Pattern.{both_true, and_true, later_each, later_all, passes_none, room_of}
use Rattle.dialect.proofs.Dialects.{in_to}

-- ---- the rows

-- where nothing is refused: the check passed, in the dialect, within the budget
came : (a : Option Refusal) (x y : Bool) → or_else a (refusal ((not x, (26, 0)) ∷ (y, (20, 0)) ∷ [])) ≡ None → (a ≡ None) × (x ≡ true) × (y ≡ false)
came None true true e = (refl, refl, absurd (let z : ◌≡◌ {A = ℕ} 0 1 = cc in omega arith))
came None true false e = (refl, refl, refl)
came None false y e = absurd (let z : ◌≡◌ {A = ℕ} 0 1 = cc in omega arith)
came (Some r) x y e = absurd (let z : ◌≡◌ {A = ℕ} 0 1 = cc in omega arith)

module _ (d : Dialect) (q : Proposal) where
  pub check_refused : (r : Refusal) → frozen_refusal q ≡ Some r → convert_refusal d q ≡ Some r
  unfolding convert_refusal
  check_refused r e = ap (λ (o : Option Refusal). or_else o (refusal (dialect_rows d q))) e

  pub other_dialect_lem : frozen_refusal q ≡ None → in_dialect d q.heads q.count ≡ false → convert_refusal d q ≡ Some (26, 0)
  unfolding convert_refusal
  other_dialect_lem e f =
      ap (λ (o : Option Refusal). or_else o (refusal (dialect_rows d q))) e
      ∙ ap (λ (x : Bool). refusal ((not x, (26, 0)) ∷ (passes_budget q.budget (converted (other_dialect d) q).heads q.count, (20, 0)) ∷ [])) f

  pub budget_passed : frozen_refusal q ≡ None → in_dialect d q.heads q.count ≡ true → passes_budget q.budget (converted (other_dialect d) q).heads q.count ≡ true → convert_refusal d q ≡ Some (20, 0)
  unfolding convert_refusal
  budget_passed e f g =
      ap (λ (o : Option Refusal). or_else o (refusal (dialect_rows d q))) e
      ∙ ap₂ {C = Option Refusal} (λ (x y : Bool). refusal ((not x, (26, 0)) ∷ (y, (20, 0)) ∷ [])) f g

  pub none_refused : frozen_refusal q ≡ None → in_dialect d q.heads q.count ≡ true → passes_budget q.budget (converted (other_dialect d) q).heads q.count ≡ false → convert_refusal d q ≡ None
  unfolding convert_refusal
  none_refused e f g =
      ap (λ (o : Option Refusal). or_else o (refusal (dialect_rows d q))) e
      ∙ ap₂ {C = Option Refusal} (λ (x y : Bool). refusal ((not x, (26, 0)) ∷ (y, (20, 0)) ∷ [])) f g

  pub parts : convert_refusal d q ≡ None → (frozen_refusal q ≡ None) × (in_dialect d q.heads q.count ≡ true) × (passes_budget q.budget (converted (other_dialect d) q).heads q.count ≡ false)
  unfolding convert_refusal
  parts e = came (frozen_refusal q) (in_dialect d q.heads q.count) (passes_budget q.budget (converted (other_dialect d) q).heads q.count) e

  pub plan_is : convert_refusal d q ≡ None → convert_of d q ≡ record { refused = None; plan = frozen_of (converted (other_dialect d) q) }
  unfolding convert_of
  plan_is e = ap (λ (o : Option Refusal). checked_as o (converted (other_dialect d) q)) e

-- ---- heads that are restated

-- what a restated head states is what its dialect wants
own_dialect : (e : Dialect) (n : ℕ) (h : SegmentHead) → later_fits e (restated e n h) ≡ true
own_dialect BeginOnly n h = ap (λ (l : Option ℕ). not (is_stated l)) (the_length None h.segment.kind)
own_dialect Every n h = ap is_stated (the_length (Some n) h.segment.kind)

other_other : (d : Dialect) → other_dialect (other_dialect d) ≡ d
other_other BeginOnly = refl
other_other Every = refl

-- a plan has 256 heads
kept_length : (l : List SegmentHead) (count : ℕ) → count ≤ length l → count ≤ 256 → length (kept_heads l count) ≡ 256
unfolding kept_heads
kept_length l count h k = omega (arith, length-append (take count l) (replicate (256 - count) no_head), length-take-le count l h, length-replicate (256 - count) no_head)

-- kept twice is kept once
kept_kept : (l : List SegmentHead) (count : ℕ) → count ≤ length l → kept_heads (kept_heads l count) count ≡ kept_heads l count
unfolding kept_heads
kept_kept l count h = ap (λ (t : List SegmentHead). t ++ replicate (256 - count) no_head) (take_kept l (replicate (256 - count) no_head) count h)

same_services_lem : (l : Option ℕ) (k : SegmentKind) → services_of (with_length l k) ≡ services_of k
same_services_lem l (kind'.Begin n s) = refl
same_services_lem l (kind'.Continue n) = refl
same_services_lem l (kind'.End n c) = refl

-- ---- a train that is converted

module _ (d : Dialect) (q : Proposal) (ok : convert_refusal d q ≡ None) where
  abbrev n : ℕ
  n = length q.message

  abbrev heads' : List SegmentHead
  heads' = restated_heads (other_dialect d) (length q.message) q.count q.heads

  abbrev kept' : List SegmentHead
  kept' = kept_heads (restated_heads (other_dialect d) (length q.message) q.count q.heads) q.count

  frozen_ok : frozen_refusal q ≡ None
  frozen_ok = (parts d q ok).0

  in_ok : (states (head_at q.heads 0) ≡ true) × (later_in d q.heads (q.count - 1) ≡ true)
  in_ok = both_true (states (head_at q.heads 0)) (later_in d q.heads (q.count - 1)) (parts d q ok).1

  room : q.count ≤ length q.heads
  room = room_of q frozen_ok

  two : 2 ≤ q.count
  two = (frozen_acceptable q frozen_ok).cutting.at_least

  room' : q.count ≤ length heads'
  room' = omega (arith, heads_length (other_dialect d) n q.count q.heads, room)

  pub converted_frozen : frozen_refusal (converted (other_dialect d) q) ≡ None
  converted_frozen = still_frozen (other_dialect d) q frozen_ok room in_ok.0 (parts d q ok).2

  pub again_is : again d q ≡ with_heads q kept'
  again_is = ap (λ (x : Checked). with_heads q x.plan.heads) (plan_is d q ok)

  -- what comes out, proposed again, passes
  kept_frozen : frozen_refusal (with_heads q kept') ≡ None
  kept_frozen = frozen_again (converted (other_dialect d) q) converted_frozen

  head_is : (i : ℕ) → i < q.count → head_at kept' i ≡ restated_at (other_dialect d) n i (head_at q.heads i)
  head_is i h = kept_head heads' q.count i h ∙ heads_at (other_dialect d) n q.count q.heads i h (omega (arith, room))

  first_is : head_at kept' 0 ≡ head_at q.heads 0
  first_is = head_is 0 (omega (arith, two))

  kept_in : in_dialect (other_dialect d) kept' q.count ≡ true
  kept_in =
      and_true (states (head_at kept' 0)) (later_in (other_dialect d) kept' (q.count - 1)) (ap states first_is ∙ in_ok.0)
      (later_all (other_dialect d) kept' (q.count - 1) (λ j a b. go j a (omega (arith, two))))
    where
      go : (j : ℕ) → 0 < j → j < q.count → later_fits (other_dialect d) (head_at kept' j) ≡ true
      go zero a b = absurd (omega arith)
      go (suc j) a b = ap (later_fits (other_dialect d)) (head_is (suc j) b) ∙ own_dialect (other_dialect d) n (head_at q.heads (suc j))

  -- the way back
  abbrev back : List SegmentHead
  back = restated_heads d (length q.message) q.count (kept_heads (restated_heads (other_dialect d) (length q.message) q.count q.heads) q.count)

  back_kept : kept_heads back q.count ≡ kept_heads q.heads q.count
  back_kept =
      let s : suc (q.count - 1) ≡ q.count = omega (arith, two) in
      subst (λ (c : ℕ). kept_heads (restated_heads d n c (kept_heads (restated_heads (other_dialect d) n c q.heads) c)) c ≡ kept_heads q.heads c) s
      (kept_back d (other_dialect d) n (q.count - 1) q.heads (omega (arith, room, two)) (λ j a b. length_is d n (head_at q.heads j) (later_each d q.heads (q.count - 1) in_ok.1 j a (omega (arith, two))) ((frozen_acceptable q frozen_ok).cutting.states j (omega (arith, two)))))

  back_head : (i : ℕ) → i < q.count → head_at back i ≡ head_at q.heads i
  back_head i h = sym (kept_head back q.count i h) ∙ ap (λ (l : List SegmentHead). head_at l i) back_kept ∙ kept_head q.heads q.count i h

  back_fits : passes_budget q.budget back q.count ≡ false
  back_fits =
      passes_none q.budget back q.count
      (λ i h. subst (λ (x : SegmentHead). header_octets x.segment.kind + x.segment_data_length ≤ q.budget) (sym (back_head i h)) ((frozen_acceptable q frozen_ok).fits i h))

  kept_none : convert_refusal (other_dialect d) (with_heads q kept') ≡ None
  kept_none =
      none_refused (other_dialect d) (with_heads q kept') kept_frozen kept_in
      (ap (λ (b : Dialect). passes_budget q.budget (restated_heads b n q.count kept') q.count) (other_other d) ∙ back_fits)

  first_plan : frozen_of (with_heads q back) ≡ frozen_of q
  first_plan =
      ap₂ {C = FrozenMessage}
      (λ (h : List SegmentHead) (w : AcknowledgmentWindow). record { heads = h; count = q.count; message_octets = n; payload_budget_octets = q.budget; acknowledgment_window = w })
      back_kept
      (ap (λ (x : SegmentHead). (services_or_default (services_of x.segment.kind)).acknowledgment_window) (back_head 0 (omega (arith, two))))

  pub back_again : convert_of (other_dialect d) (again d q) ≡ record { refused = None; plan = frozen_of q }
  back_again =
      ap (convert_of (other_dialect d)) again_is ∙ plan_is (other_dialect d) (with_heads q kept') kept_none
      ∙ ap (λ (b : Dialect). record { refused = None; plan = frozen_of (with_heads q (restated_heads b n q.count kept')) }) (other_other d)
      ∙ ap (λ (p : FrozenMessage). record { refused = None; plan = p }) first_plan

  -- the check gives that very plan
  pub checked_again : try_from_frozen (again d q) ≡ record { refused = None; plan = (convert_of d q).plan }
  unfolding try_from_frozen
  checked_again =
      ap try_from_frozen again_is ∙ ap (λ (o : Option Refusal). checked_as o (with_heads q kept')) kept_frozen
      ∙ ap₂ {C = Checked}
      (λ (h : List SegmentHead) (w : AcknowledgmentWindow). record { refused = None; plan = record { heads = h; count = q.count; message_octets = n; payload_budget_octets = q.budget; acknowledgment_window = w } })
      (kept_kept heads' q.count room')
      (ap (λ (x : SegmentHead). (services_or_default (services_of x.segment.kind)).acknowledgment_window) (kept_head heads' q.count 0 (omega (arith, two))))
      ∙ ap (λ (x : Checked). record { refused = None; plan = x.plan }) (sym (plan_is d q ok))

  -- so it is what the check gives of itself, with the 256 heads of every plan
  pub again_accepted : frozen_refusal (again d q) ≡ None
  again_accepted = ap frozen_refusal again_is ∙ kept_frozen

  pub again_plan : frozen_of (again d q) ≡ (convert_of d q).plan
  unfolding try_from_frozen
  again_plan = ap (λ (o : Option Refusal). (checked_as o (again d q)).plan) (sym again_accepted) ∙ ap (λ (x : Checked). x.plan) checked_again

  pub again_wide : length (again d q).heads ≡ 256
  again_wide = ap (λ (p : Proposal). length p.heads) again_is ∙ kept_length heads' q.count room' (frozen_acceptable q frozen_ok).cutting.at_most

  -- ---- what is kept

  kept_at : (i : ℕ) → i < q.count → KeptAt d q i
  kept_at i h =
      let plan : (convert_of d q).plan ≡ frozen_of (converted (other_dialect d) q) = ap (λ (x : Checked). x.plan) (plan_is d q ok) in
      let here : head_at (convert_of d q).plan.heads i ≡ restated_at (other_dialect d) n i (head_at q.heads i) = ap (λ (p : FrozenMessage). head_at p.heads i) plan ∙ head_is i h in
      let c = (frozen_acceptable q frozen_ok).cutting in
      record {
        same_transaction = each (λ x. x.segment.transaction_id ≡ (head_at q.heads i).segment.transaction_id) here refl refl;
        same_sequence = each (λ x. x.segment.sequence_number ≡ (head_at q.heads i).segment.sequence_number) here refl refl;
        same_type = each (λ x. type_of x.segment.kind ≡ type_of (head_at q.heads i).segment.kind) here refl (same_type (length_for (other_dialect d) n) (head_at q.heads i).segment.kind);
        same_services_lem = each (λ x. services_of x.segment.kind ≡ services_of (head_at q.heads i).segment.kind) here refl (same_services_lem (length_for (other_dialect d) n) (head_at q.heads i).segment.kind);
        same_crc_lem = each (λ x. crc_in x.segment.kind ≡ crc_in (head_at q.heads i).segment.kind) here refl (same_crc_lem (length_for (other_dialect d) n) (head_at q.heads i).segment.kind);
        same_octets = each (λ x. x.segment_data_length ≡ (head_at q.heads i).segment_data_length) here refl refl;
        same_data = ap (λ (p : Proposal). (proposed p i).segment_data) again_is
            ∙ ap₂ {C = List ℕ} (λ (x y : ℕ). take x (drop y q.joined)) (ap (λ (x : SegmentHead). x.segment_data_length) (kept_head heads' q.count i h)) (kept_before heads' q.count i (omega arith))
            ∙ same_data (other_dialect d) q frozen_ok room in_ok.0 i h;
        same_place = ap (λ (p : FrozenMessage). frozen_segment_at p i) plan ∙ frozen_segment (converted (other_dialect d) q) converted_frozen i h
            ∙ ap₂ (λ (x : SegmentHead) (o : ℕ). Some (record { head = x; offset = o })) (sym (kept_head heads' q.count i h) ∙ ap (λ (p : FrozenMessage). head_at p.heads i) (sym plan)) (same_before (other_dialect d) q frozen_ok room in_ok.0 i (omega arith));
      }
    where
      each : (P : SegmentHead → Type 0) → head_at (convert_of d q).plan.heads i ≡ restated_at (other_dialect d) n i (head_at q.heads i) → P (head_at q.heads i) → P (restated (other_dialect d) n (head_at q.heads i)) → P (head_at (convert_of d q).plan.heads i)
      each P here x y = subst P (sym here) (at_place P (other_dialect d) n i (head_at q.heads i) x (λ _. y))

  pub all_kept : Keeps d q
  all_kept =
      let plan : (convert_of d q).plan ≡ frozen_of (converted (other_dialect d) q) = ap (λ (x : Checked). x.plan) (plan_is d q ok) in
      record {
        same_count = ap (λ (p : FrozenMessage). p.count) plan;
        same_octets_of_message = ap (λ (p : FrozenMessage). p.message_octets) plan;
        same_budget = ap (λ (p : FrozenMessage). p.payload_budget_octets) plan;
        same_window = ap (λ (p : FrozenMessage). p.acknowledgment_window) plan
            ∙ ap (λ (x : SegmentHead). (services_or_default (services_of x.segment.kind)).acknowledgment_window) (sym (kept_head heads' q.count 0 (omega (arith, two))) ∙ first_is);
        each = kept_at;
      }

  pub out_in : InDialect (other_dialect d) (again d q)
  out_in = subst (λ (p : Proposal). InDialect (other_dialect d) p) (sym again_is) (in_to (other_dialect d) (with_heads q kept') kept_frozen kept_in)

-- ---- the statements

pub passes_check : PassesCheck
passes_check d q ok = checked_again d q ok

pub there_and_back : ThereAndBack
there_and_back d q ok = back_again d q ok

pub keeps : KeepsAll
keeps d q ok = all_kept d q ok

pub only_in_dialect : OnlyInDialect
only_in_dialect d q ok = in_to d q (frozen_ok d q ok) (parts d q ok).1

pub into_other : IntoOther
into_other d q ok = out_in d q ok
