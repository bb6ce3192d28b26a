-- How an outcome and a count are printed.
use Rattle.std.specs.Prelude.{ℕ, zero, suc, List, codes, ◌++◌, []}
use Rattle.std.specs.Fmt.{decimal}
use Rattle.tally.specs.declared.Outcome.{Outcome}
use Rattle.tally.specs.declared.Outcome.TheVariants.{Same, Differs, Malformed}
use Rattle.tally.specs.declared.Tally.{Tally}

abbrev pub text_of : Outcome → List ℕ
text_of Same = codes "same"
text_of Differs = codes "differs"
text_of Malformed = codes "malformed"

-- the malformed cases, where there are any
abbrev pub malformed_text : ℕ → List ℕ
malformed_text zero = []
malformed_text (suc n) = codes ", " ++ (decimal (suc n) ++ codes " malformed")

abbrev pub line_of : Tally → List ℕ
line_of t = decimal t.cases ++ (codes " cases, " ++ (decimal t.same ++ (codes " same, " ++ (decimal t.differ ++ (codes " differ" ++ malformed_text t.malformed)))))
