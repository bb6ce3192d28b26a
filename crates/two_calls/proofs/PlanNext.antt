-- The law of plans: what catkhize_plan_message, catkhize_plan_even, catkhize_try_from_frozen or catkhize_convert wrote, given to catkhize_plan_segment and
-- catkhize_sender_new. Assumes nothing.
use mathlib.Core.Path.{◌≡◌, refl, sym, ap, subst, ◌∙◌}
use mathlib.Core.Bool.{Bool, true}
use mathlib.Core.List.{List, []}
use Rattle.std.specs.Prelude.{Option, Some, None}
use Rattle.segmentation.specs.declared.PlannedPart.{PlannedPart}
use Prim.Native.Nat.{ℕ}
use native.Mathlib.Omega.{arith}
use lib.ListN.{length}
use Rattle.tsar.specs.Rows.{Refusal, refusal, refusal_none}
use Rattle.segmentation.specs.Plan.{Planning, unsegmented, refused, segmented, plan_message, even_message}
use Rattle.segmentation.specs.Frozen.{Checked, try_from_frozen}
use Rattle.segmentation.specs.declared.FrozenMessage.{FrozenMessage}
use Rattle.dialect.specs.Convert.{convert_of}
use Rattle.sender.specs.TryNew.{plan_segment}
use Rattle.image.specs.Cases.{window_of}
use Rattle.codec_c.specs.Codes.{unless_refused}
use Rattle.plan_image.specs.Plans.{plan_of, plan_ok}
use Rattle.plan_c.specs.Calls.{PlanCall, spelled_by, plan_call, planning_gives, message_tests, planning_call, PartCall, part_call, segment_gives, segment_tests, plan_segment_call, frozen_gives, check_gives, frozen_tests, proposal, try_from_frozen_call, dialect_of, convert_tests, convert_call}
use Rattle.sender_c.specs.Calls as sender
use Rattle.two_calls.specs.TwoCalls.{NeverMisspelled, PlanMade, planned, evenly, checked, converted, PlanRead, segment, sender_new}
use Rattle.two_calls.proofs.Passing.{both, twice, not_false_is, is_some, cond_some, refusal_passes, passes, other, not_done, fine, fine_not_done, call_done}
use Rattle.two_calls.proofs.Numbers.{fine_planning, planning_fine, even_fine, frozen_fine, convert_fine}
use Rattle.two_calls.proofs.SenderNumbers.{answer_other, sender_new_fine}
use Rattle.two_calls.proofs.Behaving.{Making, Behaves, never_misspelled, unchanged_by, by_contract}

spelled_some : (plan : List ℕ) → is_some (spelled_by plan) ≡ plan_ok plan
unfolding spelled_by
spelled_some plan = cond_some (plan_ok plan) (plan_of plan)

-- ---- what is written

-- a call past its tests that gives 0 leaves what it spells
spelled_by_lem : (tests : List (Bool × Refusal)) (before plan : List ℕ) (done c : PlanCall) → passes not_done (refusal tests) ≡ true → c ≡ unless_refused (refusal tests) (λ n. plan_call n before) done
    → plan_call 0 plan ≡ c → (done.code ≡ 0 → is_some done.spelled ≡ true) → plan_ok plan ≡ true
spelled_by_lem tests before plan done c f d e w =
    let q : plan_call 0 plan ≡ unless_refused (refusal tests) (λ n. plan_call n before) done = e ∙ d in
    let z = call_done (λ (k : PlanCall). k.code) (λ n. plan_call n before) done (λ n. refl) (refusal tests) f (sym (ap (λ (k : PlanCall). k.code) q)) in
    sym (spelled_some plan) ∙ ap (λ (k : PlanCall). is_some k.spelled) q
    ∙ ap (λ (o : Option Refusal). is_some (unless_refused o (λ n. plan_call n before) done).spelled) z.0
    ∙ w z.1

planning_spells : (p : Planning) (before : List ℕ) → fine_planning p ≡ true → (planning_gives p before).code ≡ 0 → is_some (planning_gives p before).spelled ≡ true
planning_spells unsegmented before f e = absurd (omega arith)
planning_spells (refused x) before f e = absurd (fine_not_done x f e)
planning_spells (segmented p) before f e = refl

frozen_spells : (o : Option Refusal) (f : FrozenMessage) (before : List ℕ) → passes fine o ≡ true → (frozen_gives o f before).code ≡ 0 → is_some (frozen_gives o f before).spelled ≡ true
frozen_spells None f before p e = refl
frozen_spells (Some x) f before p e = absurd (fine_not_done x p e)

-- of either planner, by what it answered
planning_done : (p : Planning) → fine_planning p ≡ true → (window : ℕ) (before plan : List ℕ) → plan_call 0 plan ≡ planning_call p window before → plan_ok plan ≡ true
unfolding planning_call
planning_done p f window before plan e =
    spelled_by_lem (message_tests window before) before plan (planning_gives p before) (planning_call p window before)
    (refusal_passes not_done (message_tests window before) refl)
    refl
    e
    (planning_spells p before f)

-- of the frozen check and of the converter, by their tests and what they answered
checked_done : (tests : List (Bool × Refusal)) (k : Checked) → passes not_done (refusal tests) ≡ true → passes fine k.refused ≡ true → (before plan : List ℕ)
    → plan_call 0 plan ≡ unless_refused (refusal tests) (λ n. plan_call n before) (check_gives k before) → plan_ok plan ≡ true
checked_done tests k p f before plan e =
    spelled_by_lem tests before plan (check_gives k before) (unless_refused (refusal tests) (λ n. plan_call n before) (check_gives k before)) p refl e
    (frozen_spells k.refused k.plan before f)

-- ---- what is left where nothing is written

planning_left : (p : Planning) (before : List ℕ) → ((planning_gives p before).code ≡ 0 → ⊥) → (planning_gives p before).plan ≡ before
planning_left unsegmented before z = refl
planning_left (refused x) before z = refl
planning_left (segmented p) before z = absurd (z refl)

frozen_left : (o : Option Refusal) (f : FrozenMessage) (before : List ℕ) → ((frozen_gives o f before).code ≡ 0 → ⊥) → (frozen_gives o f before).plan ≡ before
frozen_left None f before z = absurd (z refl)
frozen_left (Some x) f before z = refl

left_by : (tests : List (Bool × Refusal)) (before : List ℕ) (n : ℕ) (plan : List ℕ) (done : PlanCall) → plan_call n plan ≡ unless_refused (refusal tests) (λ k. plan_call k before) done
    → ((done.code ≡ 0 → ⊥) → done.plan ≡ before) → (n ≡ 0 → ⊥) → plan ≡ before
left_by tests before n plan done e w z =
    unchanged_by before (λ (k : PlanCall). k.code) (λ (k : PlanCall). k.plan) (λ k. plan_call k before) done (λ k. refl) (refusal tests) (plan_call n plan) e w z

call_left : (p : Planning) (window : ℕ) (before : List ℕ) (n : ℕ) (plan : List ℕ) → plan_call n plan ≡ planning_call p window before → (n ≡ 0 → ⊥) → plan ≡ before
unfolding planning_call
call_left p window before n plan e = left_by (message_tests window before) before n plan (planning_gives p before) e (planning_left p before)

planning_making : (p : Planning) → fine_planning p ≡ true → (window : ℕ) (before : List ℕ) (n : ℕ) (plan : List ℕ) → plan_call n plan ≡ planning_call p window before → Making plan_ok before n plan
planning_making p f window before n plan e =
    record {
      made_ok = λ z. planning_done p f window before plan (ap (λ (k : ℕ). plan_call k plan) (sym z) ∙ e);
      unchanged = call_left p window before n plan e;
    }

checked_making : (tests : List (Bool × Refusal)) (k : Checked) → passes not_done (refusal tests) ≡ true → passes fine k.refused ≡ true → (before : List ℕ) (n : ℕ) (plan : List ℕ)
    → plan_call n plan ≡ unless_refused (refusal tests) (λ m. plan_call m before) (check_gives k before) → Making plan_ok before n plan
checked_making tests k p f before n plan e =
    record {
      made_ok = λ z. checked_done tests k p f before plan (ap (λ (m : ℕ). plan_call m plan) (sym z) ∙ e);
      unchanged = left_by tests before n plan (check_gives k before) e (frozen_left k.refused k.plan before);
    }

making : (before : List ℕ) (n : ℕ) (plan : List ℕ) → PlanMade before n plan → Making plan_ok before n plan
unfolding try_from_frozen_call convert_call
making before n plan (planned message budget transaction window version ceiling e) =
    planning_making (plan_message (length message) budget transaction (window_of window) version ceiling)
    (planning_fine (length message) budget transaction (window_of window) version ceiling) window before n plan e
making before n plan (evenly message budget transaction window version ceiling e) =
    planning_making (even_message (length message) budget transaction (window_of window) version ceiling)
    (even_fine (length message) budget transaction (window_of window) version ceiling) window before n plan e
making before n plan (checked heads count joined message budget version ceiling e) =
    checked_making (frozen_tests heads before) (try_from_frozen (proposal heads count joined message budget version ceiling)) (refusal_passes not_done (frozen_tests heads before) refl)
    (frozen_fine (proposal heads count joined message budget version ceiling)) before n plan e
making before n plan (converted heads count joined message budget version ceiling dialect e) =
    checked_making (convert_tests heads dialect before) (convert_of (dialect_of dialect) (proposal heads count joined message budget version ceiling)) (refusal_passes not_done (convert_tests heads dialect before) refl)
    (convert_fine (dialect_of dialect) (proposal heads count joined message budget version ceiling)) before n plan e

-- ---- what is read

segment_other : (s : Option PlannedPart) (answer : List ℕ) → other (segment_gives s answer).code ≡ true
segment_other None answer = refl
segment_other (Some p) answer = refl

segment_behaves : (others : Bool) (plan : List ℕ) (n index : ℕ) (answer answer' : List ℕ) → part_call n answer' ≡ plan_segment_call plan index answer → Behaves plan_ok others plan n plan
unfolding plan_segment_call
segment_behaves others plan n index answer answer' e =
    let tests : List (Bool × Refusal) = segment_tests plan answer in
    let reads : refusal tests ≡ None → plan_ok plan ≡ true = λ h. not_false_is (plan_ok plan) (refusal_none tests h 2) in
    by_contract plan_ok plan tests (λ (c : PartCall). c.code) (λ c. plan) (λ m. part_call m answer) (segment_gives (plan_segment (plan_of plan) index) answer) (λ m. refl) (λ m. refl)
    (part_call n answer') e others refl reads (λ q p. both _ _ (twice p) refl) (segment_other (plan_segment (plan_of plan) index) answer) reads

new_behaves : (others : Bool) (plan : List ℕ) (n : ℕ) (image : List ℕ) (kind width value protocol octet : ℕ) (message : List ℕ) (version profile number reading : ℕ) (image' : List ℕ)
    → sender.call n image' []
    ≡ sender.new_call (sender.new_tests image protocol plan) image (sender.new_step (sender.terms_of kind width value protocol octet version profile number) plan message reading)
    → Behaves plan_ok others plan n plan
unfolding sender.new_call
new_behaves others plan n image kind width value protocol octet message version profile number reading image' e =
    let tests : List (Bool × Refusal) = sender.new_tests image protocol plan in
    let terms = sender.terms_of kind width value protocol octet version profile number in
    let step = sender.new_step terms plan message reading in
    let reads : refusal tests ≡ None → plan_ok plan ≡ true = λ h. not_false_is (plan_ok plan) (refusal_none tests h 2) in
    by_contract plan_ok plan tests (λ (c : sender.Call). c.code) (λ c. plan) (λ m. sender.call m image []) (sender.made_call image step) (λ m. refl) (λ m. refl)
    (sender.call n image' []) e others refl reads (λ q p. both _ _ (twice p) refl) (answer_other step.answer (sender_new_fine terms (plan_of plan) message reading)) reads

behaves : (others : Bool) (before : List ℕ) (n : ℕ) (after : List ℕ) → PlanRead others before n after → Behaves plan_ok others before n after
behaves others before n after (segment index answer answer' p e) =
    subst (λ (l : List ℕ). Behaves plan_ok others before n l) (sym p) (segment_behaves others before n index answer answer' e)
behaves others before n after (sender_new image kind width value protocol octet message version profile number reading image' p m) =
    subst (λ (l : List ℕ). Behaves plan_ok others before n l) (sym p)
    (new_behaves others before n image kind width value protocol octet message version profile number reading image' m.0)

pub plan_next : NeverMisspelled PlanMade PlanRead
plan_next = never_misspelled PlanMade PlanRead plan_ok making behaves
