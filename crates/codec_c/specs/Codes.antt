-- The number that an exported call gives: 0 when it is done, 1 when there is nothing, and 256 * n + m for the refusal n/m. The exports'
-- own refusals come first: 256, a lent buffer is shorter than its layout; 257, a buffer spells no value; 258, a number names no case. The
-- papers' n are below 256, so that none of them is one of these.
use Rattle.std.specs.Prelude.{ℕ, ◌+◌, ◌*◌, Option, Some, None}
use Rattle.tsar.specs.Rows.{Refusal}

abbrev pub code_of : Refusal → ℕ
code_of r = 256 * r.0 + r.1

abbrev pub short : Refusal
short = (256, 0)

abbrev pub misspelled : Refusal
misspelled = (257, 0)

abbrev pub unnamed : Refusal
unnamed = (258, 0)

-- a call of which the exports' own tests refuse nothing gives what is said of it, and one that they refuse leaves what it was lent
abbrev pub unless_refused : {A : Type 0} → Option Refusal → (ℕ → A) → A → A
unless_refused (Some r) left done = left (code_of r)
unless_refused None left done = done
