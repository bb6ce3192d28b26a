-- Rows after rows: those in front decide if one of them holds, else those behind. Assumes nothing.
use mathlib.Core.Path.{◌≡◌, sym, ap, ◌∙◌}
use mathlib.Core.Bool.{Bool}
use mathlib.Core.List.{List, ◌++◌}
use Rattle.std.specs.Prelude.{Option, Some, None}
use Rattle.tsar.specs.Rows.{Refusal, refusal, or_else, refusal_append}

pub front_decides : (cs ds : List (Bool × Refusal)) (n : Refusal) → Some n ≡ refusal cs → Some n ≡ refusal (cs ++ ds)
front_decides cs ds n e = ap (λ (o : Option Refusal). or_else o (refusal ds)) e ∙ sym (refusal_append cs ds)

pub behind_decides : (cs ds : List (Bool × Refusal)) (o : Option Refusal) → None ≡ refusal cs → o ≡ refusal ds → o ≡ refusal (cs ++ ds)
behind_decides cs ds o e h = h ∙ ap (λ (p : Option Refusal). or_else p (refusal ds)) e ∙ sym (refusal_append cs ds)
