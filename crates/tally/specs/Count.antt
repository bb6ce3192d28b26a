-- What one more case makes of a count.
use Rattle.std.specs.Prelude.{ℕ, ◌+◌, ◌-◌, ◌^◌, min}
use Rattle.tally.specs.declared.Outcome.{Outcome}
use Rattle.tally.specs.declared.Outcome.TheVariants.{Same, Differs, Malformed}
use Rattle.tally.specs.declared.Tally.{Tally}

-- One more, up to the largest number.
abbrev pub more : ℕ → ℕ
more n = min (n + 1) (2 ^ 64 - 1)

abbrev pub counted : Tally → Outcome → Tally
counted t Same = record t { cases = more t.cases; same = more t.same }
counted t Differs = record t { cases = more t.cases; differ = more t.differ }
counted t Malformed = record t { cases = more t.cases; malformed = more t.malformed }
