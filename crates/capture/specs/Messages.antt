-- What is printed of a fault: the messages of docs/CAPTURE.md, with characters and words counted from 1.
use Rattle.std.specs.Prelude.{ℕ, ◌+◌, ◌-◌, ◌^◌, min, List, codes, ◌++◌}
use Rattle.std.specs.Fmt.{decimal}
use Rattle.capture.specs.declared.form.BadWord.{BadWord}
use Rattle.capture.specs.declared.form.Form.{Form}
use Rattle.capture.specs.declared.form.Form.TheVariants as form
use Rattle.capture.specs.declared.form.WordFault.{WordFault}
use Rattle.capture.specs.declared.form.WordFault.TheVariants as fault
use Rattle.capture.specs.declared.line.LineFault.{LineFault}
use Rattle.capture.specs.declared.line.LineFault.TheVariants as line
use Rattle.capture.specs.declared.octet.BadOctets.{BadOctets}
use Rattle.capture.specs.declared.octet.OctetFault.{OctetFault}
use Rattle.capture.specs.declared.octet.OctetFault.TheVariants as octet
use Rattle.capture.specs.Forms.{spelling}

-- a place as it is printed: the first is 1
abbrev pub place_text : ℕ → List ℕ
place_text n = decimal (min (n + 1) (2 ^ 64 - 1))

abbrev pub form_text : Form → List ℕ
form_text (form.Word k) = codes "the word " ++ spelling k
form_text form.Small = codes "a number from 0 to " ++ decimal 255
form_text form.Number = codes "a number from 0 to " ++ decimal (2 ^ 64 - 1)
form_text form.Protocol = codes "segmented, carrier or other"
form_text form.Octet = codes "an octet of two hexadecimal digits"

-- what stands behind the number of the word
abbrev pub word_fault_text : WordFault → List ℕ
word_fault_text (fault.Missing f) = codes " is missing: it should be " ++ form_text f
word_fault_text (fault.Wrong f) = codes " should be " ++ form_text f
word_fault_text (fault.TooLarge f) = codes " is too large: it should be " ++ form_text f
word_fault_text fault.Extra = codes " is one too many"
word_fault_text fault.Start = codes " is no clock reading and not receiver, advance or cancel"

abbrev pub word_text : BadWord → List ℕ
word_text b = codes "word " ++ (place_text b.at ++ word_fault_text b.fault)

-- what stands behind the number of the character
abbrev pub octet_fault_text : OctetFault → List ℕ
octet_fault_text octet.NoDigit = codes ": no hexadecimal digit"
octet_fault_text octet.Half = codes ": an octet ends after one digit"
octet_fault_text octet.NoRoom = codes ": more octets than there is room for"

abbrev pub octets_text : BadOctets → List ℕ
octets_text b = codes "character " ++ (place_text b.at ++ octet_fault_text b.fault)

abbrev pub fault_text : LineFault → List ℕ
fault_text (line.Word b) = word_text b
fault_text (line.Octets b) = octets_text b
