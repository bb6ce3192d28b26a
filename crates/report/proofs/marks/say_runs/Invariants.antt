-- The measure is how many numbers are left: each run ends past its start.
use Rattle.std.proofs.Common.{◌-◌}
use Rattle.report.proofs.marks.say_runs.Given as goal

abbrev pub decreases-loop-a : goal.decreases-loop-a
decreases-loop-a g l = l.n - l.a
