-- What writing a segment answers and leaves: the tests in document 01's order, then the octets of the layout.
use Rattle.std.specs.Prelude.{ℕ, ◌+◌, ◌≤◌, ◌<◌, ◌≡◌, Bool, false, List, [], ◌∷◌, ◌++◌, length, ltb, Option, Result, Some, None, Ok, Err}
use Rattle.tsar.specs.declared.encode.EncodeError.{EncodeError}
use Rattle.tsar.specs.declared.encode.EncodeError.TheVariants.{Output}
use Rattle.tsar.specs.declared.encode.EncodeError.TheVariants.{Codec}
use Rattle.std.proofs.lemmas.List.Edits.{sets}
use Rattle.tsar.specs.declared.MessageCrc.{MessageCrc}
use Rattle.tsar.specs.declared.MessageCrc.TheVariants as crc
use Rattle.tsar.specs.declared.SegmentKind.{SegmentKind}
use Rattle.tsar.specs.declared.SegmentKind.TheVariants as kind'
use Rattle.tsar.specs.declared.Segment.{Segment}
pub use Rattle.tsar.specs.Numbers.{validated_by}
use Rattle.tsar.specs.Rows.{Refusal, refusal}
use Rattle.tsar.specs.Numbers.{number}
use Rattle.tsar.specs.Layout.{WholeSegment, whole, Param, services_param, crc_param, written, type_of}
use Rattle.tsar.specs.Reading.{begin_test}
use Rattle.tsar.specs.Spells.{Octets}

abbrev pub length_in : SegmentKind → Option ℕ
length_in (kind'.Begin n s) = n
length_in (kind'.Continue n) = n
length_in (kind'.End n c) = n

abbrev pub crc_in : SegmentKind → Option MessageCrc
crc_in (kind'.Begin n s) = None
crc_in (kind'.Continue n) = None
crc_in (kind'.End n c) = c

abbrev pub too_long : Option ℕ → Bool
too_long None = false
too_long (Some n) = ltb 4095 n

abbrev pub crc_too_large : Option MessageCrc → Bool
crc_too_large None = false
crc_too_large (Some (crc.Crc16 v)) = false
crc_too_large (Some (crc.Crc24 v)) = ltb 16777215 v

-- the codec's tests of a segment with n octets of data, under a version
abbrev pub codec_rows : ℕ → Segment → ℕ → List (Bool × Refusal)
codec_rows version s n =
    (ltb version 1, (1, 0))
    ∷ (ltb 7 s.transaction_id, (6, 1))
    ∷ (ltb 255 n, (6, 2))
    ∷ (begin_test (type_of s.kind) s.sequence_number, (6, 3))
    ∷ (too_long (length_in s.kind), (6, 4))
    ∷ (crc_too_large (crc_in s.kind), (6, 5))
    ∷ []

-- what writing answers and leaves: how many octets were written or a refusal, and the output
pub data Answer : Type 0 where
  wrote : ℕ → Answer
  refused : Refusal → Answer

pub record Written : Type 0 where
  pub answer : Answer
  pub output : List ℕ

abbrev pub after_tests : Option Refusal → List ℕ → List ℕ → Written
after_tests (Some n) l out = record { answer = refused n; output = out }
after_tests None l out = record { answer = wrote (length l); output = sets out 0 l }

-- the codec's tests, then 61
abbrev pub encode_rows : ℕ → Segment → List ℕ → List ℕ → List (Bool × Refusal)
encode_rows version s l out = codec_rows version s (length l) ++ ((ltb (length out) (length (written (whole s l))), (61, 0)) ∷ [])

unfoldable pub encode_of : ℕ → Segment → List ℕ → List ℕ → Written
encode_of version s l out = after_tests (refusal (encode_rows version s l out)) (written (whole s l)) out

-- what encode's answer says, beside the output that it leaves
abbrev pub leaves : Result ℕ EncodeError → List ℕ → Written
leaves (Ok n) out = record { answer = wrote n; output = out }
leaves (Err (Codec e)) out = record { answer = refused (number e); output = out }
leaves (Err Output) out = record { answer = refused (61, 0); output = out }

-- the octets of a segment beside its data
abbrev pub word_octets : {A : Type 0} → Option A → ℕ
word_octets None = 0
word_octets (Some x) = 2

abbrev pub crc_octets : Option MessageCrc → ℕ
crc_octets None = 0
crc_octets (Some (crc.Crc16 v)) = 3
crc_octets (Some (crc.Crc24 v)) = 4

unfoldable pub header_octets : SegmentKind → ℕ
header_octets (kind'.Begin n s) = 3 + word_octets n + word_octets s
header_octets (kind'.Continue n) = 3 + word_octets n
header_octets (kind'.End n c) = 3 + word_octets n + crc_octets c

-- ---- what the steps of writing speak of

-- the parameters behind the length
abbrev pub rest_params : SegmentKind → List Param
rest_params (kind'.Begin n s) = services_param s
rest_params (kind'.Continue n) = []
rest_params (kind'.End n c) = crc_param c

-- a segment that passed the tests
pub record Writable (s : Segment) (n : ℕ) : Type 0 where
  pub transaction_small : s.transaction_id ≤ 7
  pub data_short : n ≤ 255
  pub begin_first : begin_test (type_of s.kind) s.sequence_number ≡ false
  pub length_small : too_long (length_in s.kind) ≡ false
  pub crc_small : crc_too_large (crc_in s.kind) ≡ false

-- octets written where the output has room for them
abbrev pub in_room : List ℕ → List ℕ → Written
in_room l out = after_tests (refusal ((ltb (length out) (length l), (61, 0)) ∷ [])) l out

-- what the types of the fields say of every segment
abbrev pub CrcTyped : Option MessageCrc → Type 0
CrcTyped None = Unit {0}
CrcTyped (Some (crc.Crc16 v)) = v < 65536
CrcTyped (Some (crc.Crc24 v)) = Unit {0}

pub record Typed (s : WholeSegment) : Type 0 where
  pub sequence_typed : s.sequence_number < 256
  pub data_typed : Octets s.segment_data
  pub crc_typed : CrcTyped (crc_in s.kind)
