-- A line that opens a section is read as a receiver line, good or bad; and every line that makes a receiver opens a section. Assumes nothing.
use Rattle.std.proofs.Common.{◌≡◌, ℕ, Bool, true, false, cond, List, Result, Ok, Err, refl, ap, eqb, length}
use Rattle.octets.specs.Octets.{same_true}
use Rattle.capture.specs.declared.number.NumberFault.{NumberFault}
use Rattle.capture.specs.declared.octet.BadOctets.{BadOctets}
use Rattle.capture.specs.declared.form.BadWord.{BadWord}
use Rattle.capture.specs.declared.form.Keyword.TheVariants as keyword
use Rattle.capture.specs.declared.form.Sentence.TheVariants as sentence
use Rattle.capture.specs.declared.line.Header.{Header}
use Rattle.capture.specs.declared.line.Line.{Line}
use Rattle.capture.specs.declared.line.Line.TheVariants as line
use Rattle.capture.specs.Text.{text, word, word_end, after}
use Rattle.capture.specs.Decimal.{number_of}
use Rattle.capture.specs.Hexadecimal.{spelled_of}
use Rattle.capture.specs.Forms.{is, spelling, forms, words_check}
use Rattle.capture.specs.LineLaws.{unless_says}
use Rattle.capture.specs.Lines.{read, value_at, unless, with_octets, with_reading, receiver_line, advance_line, cancel_line, octets_after, segment_line, text_line, line_of, opening}

-- a line that opens a section says what its words say as a receiver line, and writes nothing
pub opening_line : (l out : List ℕ) → opening l ≡ true → line_of l out ≡ read (receiver_line (text l)) out
unfolding text_line
opening_line l out e =
    let n : eqb (length (word (text l))) 0 ≡ false = ap (λ (w : List ℕ). eqb (length w) 0) (same_true (word (text l)) (spelling keyword.Receiver) e) in
    simp (n, e)

-- ---- no other line makes a receiver

octets_no : (h : Header) (reading : ℕ) (o : Result ℕ BadOctets) → with_octets reading o ≡ Ok (line.Receiver h) → ⊥
octets_no h reading (Ok n) e = cc
octets_no h reading (Err f) e = cc

reading_no : (h : Header) (t out : List ℕ) (n : Result ℕ NumberFault) → (with_reading n t out).says ≡ Ok (line.Receiver h) → ⊥
unfolding octets_after
reading_no h t out (Err f) e = cc
reading_no h t out (Ok r) e = octets_no h r (spelled_of (length out) (word_end t) (after t)).0 e

no_other : (r : Result (Unit {0}) BadWord) (x : Line) (h : Header) → (x ≡ line.Receiver h → ⊥) → unless r x ≡ Ok (line.Receiver h) → ⊥
no_other r x h apart e = apart (unless_says r x (line.Receiver h) e).1

pub receiver_opens : (l out : List ℕ) (h : Header) → (line_of l out).says ≡ Ok (line.Receiver h) → opening l ≡ true
unfolding text_line advance_line cancel_line segment_line
receiver_opens l out h =
    go (eqb (length (word (text l))) 0) (opening l) (is keyword.Advance (word (text l))) (is keyword.Cancel (word (text l)))
  where
    go : (n r a k : Bool)
        → (cond n (read (Ok line.Nothing) out)
        (cond r (read (receiver_line (text l)) out)
        (cond a (read (advance_line (text l)) out)
        (cond k (read (cancel_line (text l)) out)
        (segment_line (text l) out))))).says ≡ Ok (line.Receiver h) → r ≡ true
    go true r a k e = cc
    go false true a k e = refl
    go false false true k e = absurd (no_other (words_check (forms sentence.Advance) 0 (text l)) (line.Advance (value_at (text l) 1)) h (λ q. cc) e)
    go false false false true e = absurd (no_other (words_check (forms sentence.Cancel) 0 (text l)) (line.Cancel (value_at (text l) 1)) h (λ q. cc) e)
    go false false false false e = absurd (reading_no h (text l) out (number_of (word (text l))) e)
