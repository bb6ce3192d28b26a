-- Document 01's numbers, 'Refusals by what is returned': 20 to 24, 25 of change request 2026-09, and the codec's own.
use Rattle.tsar.specs.Rows.{Refusal}
use Rattle.tsar.specs.Numbers.{number}
use Rattle.segmentation.specs.declared.PlanningError.{PlanningError}
use Rattle.segmentation.specs.declared.PlanningError.TheVariants as error

abbrev pub planning_number : PlanningError → Refusal
planning_number error.PayloadBudget = (20, 0)
planning_number error.HeaderCapacity = (21, 0)
planning_number error.SegmentCount = (22, 0)
planning_number error.FrozenPlan = (23, 0)
planning_number error.JoinedLength = (24, 0)
planning_number error.ExceptionsWindow = (25, 0)
planning_number (error.Codec e) = number e
