-- `words::Words::is_none` meets its contract: the or of the four words is 0 just where no mark is set. Assumes nothing.
use mathlib.Core.Path.{◌∙◌}
use borrow.Author.Rules.{rules}
use Rattle.words.proofs.Wordwise.{none_marks}
use Rattle.words.proofs.Words.is_none.Goals as goal

pub returns : goal.returns
returns c = c.eq.ensures ∙ none_marks c.args.self (search rules)
