-- Laws of what a text says.
use Rattle.std.specs.Prelude.{◌≡◌, refl, false, List, ℕ, eqb, length, Result, Ok, Err}
use Rattle.capture.specs.declared.form.Keyword.TheVariants as keyword
use Rattle.capture.specs.declared.form.BadWord.{BadWord}
use Rattle.capture.specs.declared.line.Line.{Line}
use Rattle.capture.specs.Text.{word}
use Rattle.capture.specs.Forms.{is}
use Rattle.capture.specs.Lines.{unless, segment_line, text_line}

-- a line of words that says something has words that are right, and says what these say
pub unless_says : (r : Result (Unit {0}) BadWord) (x y : Line) → unless r x ≡ Ok y → (r ≡ Ok tt) × (x ≡ y)
unless_says (Ok p) x y e = (refl, cc)
unless_says (Err f) x y e = cc

-- a text whose first word is none of the three is a segment
pub segment_text : (t out : List ℕ) → eqb (length (word t)) 0 ≡ false → is keyword.Receiver (word t) ≡ false → is keyword.Advance (word t) ≡ false
    → is keyword.Cancel (word t) ≡ false → text_line t out ≡ segment_line t out
unfolding text_line
segment_text t out n r a k = simp (n, r, a, k)
