-- Document 02, 2026-09, of the exported planners: under window 5 a message that needs segments gives 6400, which is 25, and one that needs none gives
-- 1, where the plan has its room. Assumes nothing.
use mathlib.Core.Path.{◌≡◌, refl, sym, ap, ◌∙◌}
use mathlib.Core.List.{List}
use Rattle.std.specs.Prelude.{None}
use Prim.Native.Nat.{ℕ, ◌≤◌, ◌<◌}
use lib.ListN.{length}
use borrow.Author.Tests.{le-ltb}
use Rattle.tsar.specs.Rows.{refusal, refusal_pass}
use Rattle.tsar.specs.declared.AcknowledgmentWindow.TheVariants as window
use Rattle.segmentation.specs.Plan.{Planning, unsegmented, refused}
use Rattle.segmentation.specs.Planned.{Spread, full, even, planning}
use Rattle.segmentation.proofs.Retired.{refused_25, unaffected}
use Rattle.plan_c.specs.Calls.{PlanCall, plan_call, planning_gives, message_tests, plan_message_call, plan_even_call}
use Rattle.plan_c.specs.Laws.{planning_passed}

-- the two exported planners, for laws of both
abbrev pub planning_export : Spread → List ℕ → ℕ → ℕ → ℕ → ℕ → ℕ → List ℕ → PlanCall
planning_export full = plan_message_call
planning_export even = plan_even_call

module _ (x : Spread) (message : List ℕ) (budget transaction version ceiling : ℕ) (plan : List ℕ) (room : 5958 ≤ length plan) where
  given_5 : (v : Planning) → planning x (length message) budget transaction window.Exceptions version ceiling ≡ v
      → planning_export x message budget transaction 5 version ceiling plan ≡ planning_gives v plan
  given_5 v e = go x e
    where
      passed : refusal (message_tests 5 plan) ≡ None
      passed = refusal_pass (message_tests 5 plan) (le-ltb (length plan) 5958 room, (refl, tt))

      go : (y : Spread) → planning y (length message) budget transaction window.Exceptions version ceiling ≡ v → planning_export y message budget transaction 5 version ceiling plan ≡ planning_gives v plan
      go full q = sym (planning_passed _ 5 plan passed) ∙ ap (λ (r : Planning). planning_gives r plan) q
      go even q = sym (planning_passed _ 5 plan passed) ∙ ap (λ (r : Planning). planning_gives r plan) q

  -- a message that needs segments: 6400, and the plan is left as it was
  pub export_25 : budget < length message → budget ≤ ceiling → planning_export x message budget transaction 5 version ceiling plan ≡ plan_call 6400 plan
  export_25 h k = given_5 (refused (25, 0)) (refused_25 x (length message) budget transaction window.Exceptions version ceiling h k refl)

  -- one that needs none: 1, as for every window
  pub export_unaffected : length message ≤ budget → budget ≤ ceiling → planning_export x message budget transaction 5 version ceiling plan ≡ plan_call 1 plan
  export_unaffected h k = given_5 unsegmented (unaffected x (length message) budget transaction window.Exceptions version ceiling h k)
