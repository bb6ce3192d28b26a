-- What a line of a capture says (docs/CAPTURE.md, 'Lines'), with the octets of a segment at the start of a lent list.
use Rattle.std.specs.Prelude.{ℕ, ◌+◌, Bool, cond, List, eqb, length, Result, Ok, Err}
use Rattle.std.proofs.lemmas.List.Edits.{sets}
use Rattle.link.specs.declared.MobileIdentity.{MobileIdentity}
use Rattle.link.specs.declared.HigherLayerProtocol.{HigherLayerProtocol}
use Rattle.link.specs.declared.HigherLayerProtocol.TheVariants as protocol
use Rattle.capture.specs.declared.number.NumberFault.{NumberFault}
use Rattle.capture.specs.declared.number.NumberFault.TheVariants as number
use Rattle.capture.specs.declared.octet.BadOctets.{BadOctets}
use Rattle.capture.specs.declared.form.Keyword.TheVariants as keyword
use Rattle.capture.specs.declared.form.Form.TheVariants as form
use Rattle.capture.specs.declared.form.Sentence.{Sentence}
use Rattle.capture.specs.declared.form.Sentence.TheVariants as sentence
use Rattle.capture.specs.declared.form.WordFault.{WordFault}
use Rattle.capture.specs.declared.form.WordFault.TheVariants as fault
use Rattle.capture.specs.declared.form.BadWord.{BadWord}
use Rattle.capture.specs.declared.line.Header.{Header}
use Rattle.capture.specs.declared.line.Line.{Line}
use Rattle.capture.specs.declared.line.Line.TheVariants as line
use Rattle.capture.specs.declared.line.LineFault.{LineFault}
use Rattle.capture.specs.declared.line.LineFault.TheVariants as wrong
use Rattle.capture.specs.Text.{text, word, word_end, after, word_at}
use Rattle.capture.specs.Decimal.{number_of, or_zero, small_or_zero}
use Rattle.capture.specs.Hexadecimal.{spelled_of, octet_of, octet_or_zero}
use Rattle.capture.specs.Forms.{is, forms, bad_word, words_check}

-- what reading a line gives: what it says, and the lent list after it
pub record Reading : Type 0 where
  pub says : Result Line LineFault
  pub out : List ℕ

abbrev pub read : Result Line LineFault → List ℕ → Reading
read x out = record { says = x; out = out }

-- ---- the values of a receiver line

abbrev pub value_at : List ℕ → ℕ → ℕ
value_at t i = or_zero (number_of (word_at t i))

abbrev pub small_at : List ℕ → ℕ → ℕ
small_at t i = small_or_zero (value_at t i)

abbrev pub protocol_of : List ℕ → ℕ → HigherLayerProtocol
protocol_of w x =
    cond (is keyword.Segmented w) (protocol.Segmented x) (cond (is keyword.Carrier w) (protocol.CarrierSpecific x) (protocol.Other x))

abbrev pub peer_of : List ℕ → MobileIdentity
peer_of t = record { kind = small_at t 2; width = small_at t 3; value = value_at t 4 }

-- with a profile, and the place of the word `maximum`
abbrev pub header_of : (profile place : ℕ) → List ℕ → Header
header_of profile place t =
    record {
      peer = peer_of t;
      protocol = protocol_of (word_at t 6) (octet_or_zero (octet_of (word_at t 7)));
      transaction_id = small_at t 9;
      version = small_at t 11;
      profile = profile;
      maximum = value_at t (place + 1);
      at = value_at t (place + 3);
    }

-- ---- lines of words

abbrev pub unless : Result (Unit {0}) BadWord → Line → Result Line LineFault
unless (Ok p) x = Ok x
unless (Err f) x = Err (wrong.Word f)

unfoldable pub header_line : Sentence → (profile place : ℕ) → List ℕ → Result Line LineFault
header_line s profile place t = unless (words_check (forms s) 0 t) (line.Receiver (header_of profile place t))

-- the word behind the version tells which sentence it is; the profile of a line that says none is 1
unfoldable pub receiver_line : List ℕ → Result Line LineFault
receiver_line t =
    cond (is keyword.Profile (word_at t 12)) (header_line sentence.ReceiverProfile (small_at t 13) 14 t) (header_line sentence.Receiver 1 12 t)

unfoldable pub advance_line : List ℕ → Result Line LineFault
advance_line t = unless (words_check (forms sentence.Advance) 0 t) (line.Advance (value_at t 1))

unfoldable pub cancel_line : List ℕ → Result Line LineFault
cancel_line t = unless (words_check (forms sentence.Cancel) 0 t) (line.Cancel (value_at t 1))

-- ---- segments: a clock reading, and octets

abbrev pub with_octets : ℕ → Result ℕ BadOctets → Result Line LineFault
with_octets reading (Ok n) = Ok (line.Segment reading n)
with_octets reading (Err f) = Err (wrong.Octets f)

unfoldable pub octets_after : ℕ → List ℕ → List ℕ → Reading
octets_after reading t out =
    read (with_octets reading (spelled_of (length out) (word_end t) (after t)).0) (sets out 0 (spelled_of (length out) (word_end t) (after t)).1)

-- what is wrong with the first word of a segment
abbrev pub start_fault : NumberFault → WordFault
start_fault number.NoNumber = fault.Start
start_fault number.TooLarge = fault.TooLarge form.Number

abbrev pub with_reading : Result ℕ NumberFault → List ℕ → List ℕ → Reading
with_reading (Err f) t out = read (Err (wrong.Word (bad_word (start_fault f) 0))) out
with_reading (Ok reading) t out = octets_after reading t out

unfoldable pub segment_line : List ℕ → List ℕ → Reading
segment_line t out = with_reading (number_of (word t)) t out

-- ---- a line

-- what a text says: nothing, by its first word, or a segment
unfoldable pub text_line : List ℕ → List ℕ → Reading
text_line t out =
    cond (eqb (length (word t)) 0) (read (Ok line.Nothing) out)
    (cond (is keyword.Receiver (word t)) (read (receiver_line t) out)
    (cond (is keyword.Advance (word t)) (read (advance_line t) out)
    (cond (is keyword.Cancel (word t)) (read (cancel_line t) out)
    (segment_line t out))))

abbrev pub line_of : List ℕ → List ℕ → Reading
line_of l out = text_line (text l) out

-- ---- sections

-- a line opens a section by its first word alone, whatever follows it
abbrev pub opening : List ℕ → Bool
opening l = is keyword.Receiver (word (text l))
