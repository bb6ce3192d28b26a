-- The layout PLAN of a sender's plan, 5958 octets: the layout's version, 1, and the plan's body, 5957 octets: its form (0 planned, 1 frozen),
-- the record of a planner, all 0 under frozen, and the record of the frozen check. Assumes nothing.
use Rattle.std.specs.Prelude.{◌≡◌, refl, Bool, true, false, cond, ◌&&◌, List, [], ◌∷◌, ◌++◌, ℕ, ◌≤◌, eqb, length, get_or, drop}
use Rattle.std.proofs.Common.{arith}
use Rattle.std.proofs.lemmas.List.Edits.{sets}
use Rattle.octets.specs.Octets.{same_octets}
use Rattle.tsar.specs.declared.AcknowledgmentWindow.TheVariants.{Prohibited}
use Rattle.segmentation.specs.declared.SegmentedMessage.{SegmentedMessage}
use Rattle.sender.specs.declared.Plan.{Plan}
use Rattle.sender.specs.declared.PlanForm.{PlanForm}
use Rattle.sender.specs.declared.PlanForm.TheVariants.{Planned, Frozen}
use Rattle.image.specs.Spelling.{spells, Layout, spell_octet, read_octet, AnyOctet, octet_layout, spell_both, read_both, both_layout, both_spells, as_layout, put_back, put_spells}
use Rattle.plan_image.specs.Planned.{planned_image, planned_of, PlannedFits, planned_layout, planned_wide}
use Rattle.plan_image.specs.Frozen.{frozen_image, frozen_of, frozen_ok, FrozenFits, frozen_layout}

-- ---- the form, 44 octets

-- what stands in the place of a planned record under frozen: all 0
abbrev pub no_planned : SegmentedMessage
no_planned =
    record {
      message_octets = 0;
      payload_budget_octets = 0;
      transaction_id = 0;
      acknowledgment_window = Prohibited;
      begin_octets = 0;
      later_capacity = 0;
      count = 0;
      states_length = false;
    }

abbrev pub form_number : PlanForm → ℕ
form_number (Planned p) = 0
form_number Frozen = 1

abbrev pub planned_in : PlanForm → SegmentedMessage
planned_in (Planned p) = p
planned_in Frozen = no_planned

unfoldable pub form_image : PlanForm → List ℕ
form_image f = form_number f ∷ planned_image (planned_in f)

abbrev pub form_from : ℕ → SegmentedMessage → PlanForm
form_from n p = cond (eqb n 0) (Planned p) Frozen

unfoldable pub form_of : List ℕ → PlanForm
form_of l = form_from (get_or l 0 0) (planned_of (drop 1 l))

abbrev pub form_ok : List ℕ → Bool
form_ok l = spells form_image form_of 44 l

abbrev pub FormFits : PlanForm → Type 0
FormFits f = PlannedFits (planned_in f)

-- ---- the body, 5957 octets

unfoldable pub body_image : Plan → List ℕ
body_image p = form_image p.form ++ frozen_image p.frozen

unfoldable pub body_of : List ℕ → Plan
body_of l = record { form = form_of l; frozen = frozen_of (drop 44 l) }

abbrev pub body_ok : List ℕ → Bool
body_ok l = spells body_image body_of 5957 l

-- what the types of a plan's numbers say
pub record PlanFits (p : Plan) : Type 0 where
  pub form : FormFits p.form
  pub frozen : FrozenFits p.frozen

-- ---- PLAN, 5958 octets

unfoldable pub plan_image : Plan → List ℕ
plan_image p = 1 ∷ body_image p

unfoldable pub plan_of : List ℕ → Plan
plan_of l = body_of (drop 1 l)

abbrev pub plan_ok : List ℕ → Bool
plan_ok l = spells plan_image plan_of 5958 l

-- ---- laws

form_same : (f : PlanForm) → form_from (form_number f) (planned_in f) ≡ f
form_same (Planned p) = refl
form_same Frozen = refl

pub form_wide : (f : PlanForm) → length (form_image f) ≡ 44
unfolding form_image
form_wide f = let e = planned_wide (planned_in f) in omega arith

form_parts : Layout (spell_both spell_octet planned_image) (read_both read_octet 1 planned_of) 44 (λ x. AnyOctet x.0 × PlannedFits x.1)
form_parts = both_layout octet_layout planned_layout

pub form_layout : Layout form_image form_of 44 FormFits
unfolding form_image form_of
form_layout =
    as_layout form_parts (λ x. form_from x.0 x.1) (λ f. (form_number f, planned_in f)) form_same form_image form_of FormFits (λ f. refl) (λ l. refl)
    (λ f g. (tt, g))
    (λ l. form_wide (form_of l))

body_parts : Layout (spell_both form_image frozen_image) (read_both form_of 44 frozen_of) 5957 (λ x. FormFits x.0 × FrozenFits x.1)
body_parts = both_layout form_layout frozen_layout

pub body_layout : Layout body_image body_of 5957 PlanFits
unfolding body_image body_of
body_layout =
    as_layout body_parts (λ x. record { form = x.0; frozen = x.1 }) (λ p. (p.form, p.frozen)) (λ p. refl) body_image body_of PlanFits (λ p. refl) (λ l. refl)
    (λ p g. (g.form, g.frozen))
    (λ l. body_parts.reads_wide l)

-- its test is that of each part
pub body_spells : (l : List ℕ) → 44 ≤ length l → body_ok l ≡ (form_ok l && frozen_ok (drop 44 l))
unfolding spells body_image body_of
body_spells l h = both_spells form_layout frozen_layout l h

pub plan_layout : Layout plan_image plan_of 5958 PlanFits
unfolding plan_image plan_of
plan_layout =
    record {
      wide = λ p f. let e = body_layout.wide p f in omega arith;
      reads_wide = λ l. let e = body_layout.reads_wide (drop 1 l) in omega arith;
      back = λ p f rest. body_layout.back p f rest;
    }

-- its test is that of the version and of the body
pub plan_spells : (l : List ℕ) → 1 ≤ length l → plan_ok l ≡ (eqb 1 (get_or l 0 0) && body_ok (drop 1 l))
unfolding spells same_octets plan_image plan_of
plan_spells [] h = absurd (omega arith)
plan_spells (x ∷ l) h = refl

-- ---- the two theorems on PLAN, for every plan, the impossible ones too

-- what is spelled is read back as itself, and passes the test
pub plan_back : (l : List ℕ) (p : Plan) → 5958 ≤ length l → PlanFits p → (plan_of (sets l 0 (plan_image p)) ≡ p) × (plan_ok (sets l 0 (plan_image p)) ≡ true)
plan_back l p room f = put_spells plan_layout l p (sets l 0 (plan_image p)) room f refl

-- what passes the test, read and put back, changes no octet
pub plan_kept : (l : List ℕ) → 5958 ≤ length l → plan_ok l ≡ true → sets l 0 (plan_image (plan_of l)) ≡ l
plan_kept l room k = put_back plan_layout l room k
