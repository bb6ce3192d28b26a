-- Octets in hexadecimal (docs/CAPTURE.md, 'Octets'): what each character does, from left to right. Grammar says which texts spell which
-- octets.
use Rattle.std.specs.Prelude.{ℕ, suc, ◌+◌, ◌*◌, ◌-◌, Bool, cond, ◌&&◌, ◌||◌, List, [], ◌∷◌, eqb, leb, length, get_or, Option, Some, None, Result, Ok, Err}
use Rattle.capture.specs.declared.octet.OctetFault.{OctetFault}
use Rattle.capture.specs.declared.octet.OctetFault.TheVariants as fault
use Rattle.capture.specs.declared.octet.BadOctets.{BadOctets}
use Rattle.capture.specs.declared.octet.Step.{Step}
use Rattle.capture.specs.declared.octet.Step.TheVariants as step
use Rattle.capture.specs.Text.{within, blank}

-- `0` to `9`, `A` to `F`, `a` to `f`
abbrev pub is_hex : ℕ → Bool
is_hex x = within 48 x 57 || (within 65 x 70 || within 97 x 102)

-- what a digit is worth, and 0 for any other character
abbrev pub hex_value : ℕ → ℕ
hex_value x = cond (within 48 x 57) (x - 48) (cond (within 65 x 70) (x - 55) (cond (within 97 x 102) (x - 87) 0))

-- two digits are an octet
abbrev pub octet_from : ℕ → ℕ → ℕ
octet_from h x = 16 * hex_value h + hex_value x

-- what a character does after the first digit of an octet, where that has come: blanks may stand between octets, and not within one
abbrev pub step_of : Option ℕ → ℕ → Result Step OctetFault
step_of None x = cond (is_hex x) (Ok (step.Wait (Some x))) (cond (blank x) (Ok (step.Wait None)) (Err fault.NoDigit))
step_of (Some h) x = cond (is_hex x) (Ok (step.Octet (octet_from h x))) (cond (blank x) (Err fault.Half) (Err fault.NoDigit))

-- a fault, and the character that it stands at
abbrev pub bad_octets : OctetFault → ℕ → BadOctets
bad_octets f at = record { fault = f; at = at }

-- what n octets end as, before the character at
abbrev pub end_of : Option ℕ → ℕ → ℕ → Result ℕ BadOctets
end_of None n at = Ok n
end_of (Some h) n at = Err (bad_octets fault.Half at)

-- what the character at does after n octets: `wait` is what follows where no octet ends there, `next` what follows an octet
abbrev pub on_step : Result Step OctetFault → ℕ → ℕ → ℕ → (Option ℕ → Result ℕ BadOctets × List ℕ) → Result ℕ BadOctets × List ℕ → Result ℕ BadOctets × List ℕ
on_step (Err f) room n at wait next = (Err (bad_octets f at), [])
on_step (Ok (step.Wait h)) room n at wait next = wait h
on_step (Ok (step.Octet x)) room n at wait next = cond (leb room n) (Err (bad_octets fault.NoRoom at), []) (next.0, x ∷ next.1)

-- what the characters from at on spell after n octets, and the octets: `room` is how many there is room for
unfoldable pub spelled_from : ℕ → Option ℕ → ℕ → ℕ → List ℕ → Result ℕ BadOctets × List ℕ
spelled_from room h n at [] = (end_of h n at, [])
spelled_from room h n at (x ∷ l) =
    on_step (step_of h x) room n at (λ k. spelled_from room k n (suc at) l) (spelled_from room None (suc n) (suc at) l)

-- what a text that starts at the character at spells
abbrev pub spelled_of : ℕ → ℕ → List ℕ → Result ℕ BadOctets × List ℕ
spelled_of room at l = spelled_from room None 0 at l

-- a word of two digits is an octet
abbrev pub octet_of : List ℕ → Option ℕ
octet_of l =
    cond (eqb (length l) 2 && (is_hex (get_or l 0 0) && is_hex (get_or l 1 0))) (Some (octet_from (get_or l 0 0) (get_or l 1 0))) None

abbrev pub octet_or_zero : Option ℕ → ℕ
octet_or_zero (Some x) = x
octet_or_zero None = 0
