-- The lines of words (docs/CAPTURE.md, 'Lines'): what stands at each place, and the first word that is wrong.
use Rattle.std.specs.Prelude.{ℕ, suc, Bool, true, false, cond, ◌||◌, List, [], ◌∷◌, eqb, ltb, length, get_or, Option, Some, None, Result, Ok, Err}
use Rattle.octets.specs.Octets.{same_octets}
use Rattle.capture.specs.declared.number.NumberFault.{NumberFault}
use Rattle.capture.specs.declared.number.NumberFault.TheVariants as number
use Rattle.capture.specs.declared.form.Keyword.{Keyword}
use Rattle.capture.specs.declared.form.Keyword.TheVariants as keyword
use Rattle.capture.specs.declared.form.Form.{Form}
use Rattle.capture.specs.declared.form.Form.TheVariants as form
use Rattle.capture.specs.declared.form.Sentence.{Sentence}
use Rattle.capture.specs.declared.form.Sentence.TheVariants as sentence
use Rattle.capture.specs.declared.form.WordFault.{WordFault}
use Rattle.capture.specs.declared.form.WordFault.TheVariants as fault
use Rattle.capture.specs.declared.form.BadWord.{BadWord}
use Rattle.capture.specs.Text.{word, after}
use Rattle.capture.specs.Decimal.{number_of}
use Rattle.capture.specs.Hexadecimal.{octet_of}

-- the characters of each word
abbrev pub spelling : Keyword → List ℕ
spelling keyword.Receiver = 114 ∷ 101 ∷ 99 ∷ 101 ∷ 105 ∷ 118 ∷ 101 ∷ 114 ∷ []
spelling keyword.Peer = 112 ∷ 101 ∷ 101 ∷ 114 ∷ []
spelling keyword.Protocol = 112 ∷ 114 ∷ 111 ∷ 116 ∷ 111 ∷ 99 ∷ 111 ∷ 108 ∷ []
spelling keyword.Segmented = 115 ∷ 101 ∷ 103 ∷ 109 ∷ 101 ∷ 110 ∷ 116 ∷ 101 ∷ 100 ∷ []
spelling keyword.Carrier = 99 ∷ 97 ∷ 114 ∷ 114 ∷ 105 ∷ 101 ∷ 114 ∷ []
spelling keyword.Other = 111 ∷ 116 ∷ 104 ∷ 101 ∷ 114 ∷ []
spelling keyword.Transaction = 116 ∷ 114 ∷ 97 ∷ 110 ∷ 115 ∷ 97 ∷ 99 ∷ 116 ∷ 105 ∷ 111 ∷ 110 ∷ []
spelling keyword.Version = 118 ∷ 101 ∷ 114 ∷ 115 ∷ 105 ∷ 111 ∷ 110 ∷ []
spelling keyword.Profile = 112 ∷ 114 ∷ 111 ∷ 102 ∷ 105 ∷ 108 ∷ 101 ∷ []
spelling keyword.Maximum = 109 ∷ 97 ∷ 120 ∷ 105 ∷ 109 ∷ 117 ∷ 109 ∷ []
spelling keyword.At = 97 ∷ 116 ∷ []
spelling keyword.Advance = 97 ∷ 100 ∷ 118 ∷ 97 ∷ 110 ∷ 99 ∷ 101 ∷ []
spelling keyword.Cancel = 99 ∷ 97 ∷ 110 ∷ 99 ∷ 101 ∷ 108 ∷ []

-- advance and cancel: the word, and a clock reading
abbrev pub timed_forms : Keyword → List Form
timed_forms k = form.Word k ∷ form.Number ∷ []

-- receiver peer KIND WIDTH VALUE protocol NAME OCTET transaction T version V, and what follows the version
abbrev pub receiver_forms : List Form → List Form
receiver_forms behind =
    form.Word keyword.Receiver ∷ form.Word keyword.Peer ∷ form.Small ∷ form.Small ∷ form.Number
    ∷ form.Word keyword.Protocol ∷ form.Protocol ∷ form.Octet ∷ form.Word keyword.Transaction ∷ form.Small
    ∷ form.Word keyword.Version ∷ form.Small ∷ behind

-- maximum N at MS
abbrev pub last_forms : List Form
last_forms = form.Word keyword.Maximum ∷ form.Number ∷ form.Word keyword.At ∷ form.Number ∷ []

-- a receiver line without a profile, and one with `profile P` behind the version
abbrev pub forms : Sentence → List Form
forms sentence.Receiver = receiver_forms last_forms
forms sentence.ReceiverProfile = receiver_forms (form.Word keyword.Profile ∷ form.Small ∷ last_forms)
forms sentence.Advance = timed_forms keyword.Advance
forms sentence.Cancel = timed_forms keyword.Cancel

-- what stands at place i; the last of a line is a number, and so is whatever would stand past it
abbrev pub form_at : List Form → ℕ → Form
form_at fs i = get_or fs i form.Number

abbrev pub passed_if : Bool → Form → Result (Unit {0}) WordFault
passed_if good f = cond good (Ok tt) (Err (fault.Wrong f))

-- a number that goes up to most
abbrev pub up_to : ℕ → Form → Result ℕ NumberFault → Result (Unit {0}) WordFault
up_to most f (Err number.NoNumber) = Err (fault.Wrong f)
up_to most f (Err number.TooLarge) = Err (fault.TooLarge f)
up_to most f (Ok n) = cond (ltb most n) (Err (fault.TooLarge f)) (Ok tt)

abbrev pub is_octet : Option ℕ → Bool
is_octet (Some x) = true
is_octet None = false

abbrev pub is : Keyword → List ℕ → Bool
is k w = same_octets w (spelling k)

abbrev pub is_protocol : List ℕ → Bool
is_protocol w = is keyword.Segmented w || (is keyword.Carrier w || is keyword.Other w)

-- a word that is there
abbrev pub word_check : Form → List ℕ → Result (Unit {0}) WordFault
word_check (form.Word k) w = passed_if (is k w) (form.Word k)
word_check form.Small w = up_to 255 form.Small (number_of w)
word_check form.Number w = up_to 18446744073709551615 form.Number (number_of w)
word_check form.Protocol w = passed_if (is_protocol w) form.Protocol
word_check form.Octet w = passed_if (is_octet (octet_of w)) form.Octet

-- a word that may be missing
abbrev pub check_of : Form → List ℕ → Result (Unit {0}) WordFault
check_of f w = cond (eqb (length w) 0) (Err (fault.Missing f)) (word_check f w)

-- a word that is wrong, and its place
abbrev pub bad_word : WordFault → ℕ → BadWord
bad_word f n = record { fault = f; at = n }

-- no word may follow
abbrev pub end_check : List ℕ → ℕ → Result (Unit {0}) BadWord
end_check t n = cond (eqb (length (word t)) 0) (Ok tt) (Err (bad_word fault.Extra n))

abbrev pub verdict_of : Result (Unit {0}) WordFault → ℕ → Result (Unit {0}) BadWord → Result (Unit {0}) BadWord
verdict_of (Err f) n rest = Err (bad_word f n)
verdict_of (Ok p) n rest = rest

-- the words of a text against forms, from left to right; the first is word n
unfoldable pub words_check : List Form → ℕ → List ℕ → Result (Unit {0}) BadWord
words_check [] n t = end_check t n
words_check (f ∷ fs) n t = verdict_of (check_of f (word t)) n (words_check fs (suc n) (after t))
