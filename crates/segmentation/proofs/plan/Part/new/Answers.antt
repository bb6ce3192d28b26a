-- `Part::new` meets its contract: what it tests are tests of has_segment. Assumes nothing.
use native.Mathlib.Omega.{arith}
use Rattle.segmentation.proofs.Parts.{no_segment}
use Rattle.segmentation.proofs.plan.Part.new.Goals as goal

pub returns-then-plan-index-clause-none : goal.returns-then-plan-index-clause-none
returns-then-plan-index-clause-none c = λ _. no_segment c.args.plan c.args.index (λ h. omega (arith, c.then-plan-index.either))
