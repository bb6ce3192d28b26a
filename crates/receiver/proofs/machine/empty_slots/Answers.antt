-- `empty_slots` meets its contract by definition. Assumes nothing.
use Rattle.receiver.specs.Record.{empty_slots}
use mathlib.Core.Path.{refl}
use Rattle.receiver.proofs.machine.empty_slots.Goals as goal

pub returns : goal.returns
unfolding empty_slots
returns c = refl
