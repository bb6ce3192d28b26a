-- The characters and the words of a line (docs/CAPTURE.md, 'Lines'). A line is the list of its octets.
use Rattle.std.specs.Prelude.{ℕ, zero, suc, ◌+◌, Bool, cond, not, ◌&&◌, ◌||◌, List, [], ◌∷◌, eqb, leb, take, drop}
use Rattle.std.specs.List.{prefix_len}
use Rattle.octets.specs.Octets.{same_octets}
use Rattle.capture.specs.declared.text.Class.{Class}
use Rattle.capture.specs.declared.text.Class.TheVariants as class

-- a ≤ x ≤ b
abbrev pub within : ℕ → ℕ → ℕ → Bool
within a x b = leb a x && leb x b

-- a space, a tab or a carriage return
abbrev pub blank : ℕ → Bool
blank x = eqb x 32 || (eqb x 9 || eqb x 13)

-- no line feed; no `#`; a blank; no blank; a decimal digit
abbrev pub in_class : Class → ℕ → Bool
in_class class.Line x = not (eqb x 10)
in_class class.Text x = not (eqb x 35)
in_class class.Blank x = blank x
in_class class.Word x = not (blank x)
in_class class.Digit x = within 48 x 57

-- how many elements at the start of a list pass a test
abbrev pub leading : (ℕ → Bool) → List ℕ → ℕ
leading p l = prefix_len p l

-- a line without its comment
abbrev pub text : List ℕ → List ℕ
text l = take (leading (in_class class.Text) l) l

-- without the blanks at the start
abbrev pub trim : List ℕ → List ℕ
trim l = drop (leading (in_class class.Blank) l) l

-- the first word
abbrev pub word : List ℕ → List ℕ
word l = take (leading (in_class class.Word) (trim l)) (trim l)

-- how many characters there are up to the end of the first word
abbrev pub word_end : List ℕ → ℕ
word_end l = leading (in_class class.Blank) l + leading (in_class class.Word) (trim l)

-- what follows the first word
unfoldable pub after : List ℕ → List ℕ
after l = drop (word_end l) l

-- word i, counted from 0
unfoldable pub word_at : List ℕ → ℕ → List ℕ
word_at l zero = word l
word_at l (suc i) = word_at (after l) i

-- the mark of byte order, which may stand before a capture, and a capture without it
abbrev pub mark : List ℕ
mark = 239 ∷ 187 ∷ 191 ∷ []

abbrev pub unmarked : List ℕ → List ℕ
unmarked l = cond (same_octets (take 3 l) mark) (drop 3 l) l
