-- `words::Words::below` meets its contract, word by word: each is what `front_in` makes from its place on. Assumes nothing.
use mathlib.Core.List.{[], ◌∷◌}
use Rattle.words.specs.Marks.{words_of}
use Rattle.words.proofs.Words.below.Goals as goal

pub returns : goal.returns
unfolding words_of
returns c = λ i. record { words = c.front_in.ensures i ∷ c.front_in-2.ensures i ∷ c.front_in-3.ensures i ∷ c.front_in-4.ensures i ∷ [] }
