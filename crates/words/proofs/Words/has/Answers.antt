-- `words::Words::has` meets its contract, which is how a mark is read. Assumes nothing.
use Prim.Native.Nat.{ℕ, ◌/◌, ◌%◌}
use mathlib.Core.Path.{ap}
use native.Mathlib.Omega.{arith}
use Rattle.words.specs.Marks.{bit, marked}
use Rattle.words.specs.Laws.{word_at}
use Rattle.words.proofs.Words.has.Goals as goal

pub returns : goal.returns
unfolding marked
returns c = ap (λ (x : ℕ). bit x (c.args.i % 64)) (word_at c.args.self (c.args.i / 64) (omega arith))
