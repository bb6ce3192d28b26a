-- `empty_lengths` meets its contract by definition. Assumes nothing.
use Rattle.receiver.specs.Record.{empty_lengths}
use mathlib.Core.Path.{refl}
use Rattle.receiver.proofs.machine.empty_lengths.Goals as goal

pub returns : goal.returns
unfolding empty_lengths
returns c = refl
