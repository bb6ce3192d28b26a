-- Numbers in decimal digits (docs/CAPTURE.md, 'Numbers').
use Rattle.std.specs.Prelude.{ℕ, ◌+◌, ◌*◌, ◌-◌, cond, List, [], ◌∷◌, eqb, ltb, length, Result, Ok, Err}
use Rattle.capture.specs.declared.text.Class.TheVariants as class
use Rattle.capture.specs.declared.number.NumberFault.{NumberFault}
use Rattle.capture.specs.declared.number.NumberFault.TheVariants as fault
use Rattle.capture.specs.Text.{in_class, leading}

-- what digits are worth after digits that are worth n: `0` is 48
unfoldable pub value_from : ℕ → List ℕ → ℕ
value_from n [] = n
value_from n (x ∷ l) = value_from (10 * n + (x - 48)) l

-- what digits are worth
abbrev pub value_of : List ℕ → ℕ
value_of l = value_from 0 l

-- a number of 64 bits, or one that is too large
abbrev pub fitting : ℕ → Result ℕ NumberFault
fitting n = cond (ltb n 18446744073709551616) (Ok n) (Err fault.TooLarge)

-- a word is a number when it has a digit and nothing else
abbrev pub number_of : List ℕ → Result ℕ NumberFault
number_of l =
    cond (eqb (length l) 0) (Err fault.NoNumber)
    (cond (eqb (leading (in_class class.Digit) l) (length l)) (fitting (value_of l)) (Err fault.NoNumber))

abbrev pub or_zero : Result ℕ NumberFault → ℕ
or_zero (Ok n) = n
or_zero (Err f) = 0

abbrev pub small_or_zero : ℕ → ℕ
small_or_zero n = cond (ltb 255 n) 0 n
