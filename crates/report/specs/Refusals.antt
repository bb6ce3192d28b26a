-- What the number says that a call gave (docs/EXPORTS.md): 0 where it was taken, and else 256 * n + m of document 01's n/m.
use Rattle.std.specs.Prelude.{ℕ, ◌/◌, ◌%◌, cond, eqb, Some, None, Result, Ok, Err}
use Rattle.report.specs.declared.refusal.Refusal.{Refusal}

abbrev pub refusal_of : ℕ → Refusal
refusal_of code = record { number = code / 256; part = cond (eqb (code % 256) 0) None (Some (code % 256)) }

abbrev pub outcome_of : ℕ → Result (Unit {0}) Refusal
outcome_of code = cond (eqb code 0) (Ok tt) (Err (refusal_of code))
