-- The layout of a segment, from document 01, 'Port order' 1: fields of bits, most significant bit first, and the octets that those bits are.
use Rattle.std.specs.Prelude.{ℕ, zero, suc, ◌+◌, ◌*◌, ◌/◌, ◌%◌, List, [], ◌∷◌, ◌++◌, map, length, Option, Some, None}
use Rattle.tsar.specs.declared.Compression.{Compression}
use Rattle.tsar.specs.declared.Compression.TheVariants as compression
use Rattle.tsar.specs.declared.AcknowledgmentWindow.{AcknowledgmentWindow}
use Rattle.tsar.specs.declared.AcknowledgmentWindow.TheVariants as window
use Rattle.tsar.specs.declared.CrcStatus.{CrcStatus}
use Rattle.tsar.specs.declared.CrcStatus.TheVariants as status
use Rattle.tsar.specs.declared.OptionalServices.{OptionalServices}
use Rattle.tsar.specs.declared.MessageCrc.{MessageCrc}
use Rattle.tsar.specs.declared.MessageCrc.TheVariants as crc
use Rattle.tsar.specs.declared.SegmentKind.{SegmentKind}
use Rattle.tsar.specs.declared.SegmentKind.TheVariants as kind'
use Rattle.tsar.specs.declared.SegmentType.{SegmentType}
use Rattle.tsar.specs.declared.SegmentType.TheVariants as type
use Rattle.tsar.specs.declared.Segment.{Segment}

-- ---- bits

-- a field: how many bits it has, and its value
abbrev pub Field : Type 0
Field = ℕ × ℕ

-- the last so many bits of a number, most significant first
unfoldable pub bits_of : ℕ → ℕ → List ℕ
bits_of zero v = []
bits_of (suc w) v = bits_of w (v / 2) ++ (v % 2 ∷ [])

-- one field after another
unfoldable pub bits : List Field → List ℕ
bits [] = []
bits (f ∷ fs) = bits_of f.0 f.1 ++ bits fs

-- each eight bits are an octet
unfoldable pub octets_of : List ℕ → List ℕ
octets_of (a ∷ b ∷ c ∷ d ∷ e ∷ f ∷ g ∷ h ∷ rest) = (a * 128 + b * 64 + c * 32 + d * 16 + e * 8 + f * 4 + g * 2 + h) ∷ octets_of rest
octets_of [] = []
octets_of (a ∷ []) = []
octets_of (a ∷ b ∷ []) = []
octets_of (a ∷ b ∷ c ∷ []) = []
octets_of (a ∷ b ∷ c ∷ d ∷ []) = []
octets_of (a ∷ b ∷ c ∷ d ∷ e ∷ []) = []
octets_of (a ∷ b ∷ c ∷ d ∷ e ∷ f ∷ []) = []
octets_of (a ∷ b ∷ c ∷ d ∷ e ∷ f ∷ g ∷ []) = []

-- ---- the numbers of the cases

-- the type of a kind
abbrev pub type_of : SegmentKind → SegmentType
type_of (kind'.Begin n s) = type.Begin
type_of (kind'.Continue n) = type.Continue
type_of (kind'.End n c) = type.End

-- 0 Begin, 1 Continue, 2 End
abbrev pub number_of_type : SegmentType → ℕ
number_of_type type.Begin = 0
number_of_type type.Continue = 1
number_of_type type.End = 2

abbrev pub type_number : SegmentKind → ℕ
type_number k = number_of_type (type_of k)

-- compression 0, 1
abbrev pub compression_number : Compression → ℕ
compression_number compression.None = 0
compression_number compression.V42Bis = 1

-- window 0 to 5
abbrev pub window_number : AcknowledgmentWindow → ℕ
window_number window.Prohibited = 0
window_number window.Every4 = 1
window_number window.Every8 = 2
window_number window.Every16 = 3
window_number window.Last = 4
window_number window.Exceptions = 5

-- CRC status 0 to 2
abbrev pub status_number : CrcStatus → ℕ
status_number status.None = 0
status_number status.Crc16 = 1
status_number status.Crc24 = 2

-- ---- a segment

-- a segment with its data, as the source's Segment has it
pub record WholeSegment : Type 0 where
  pub transaction_id : ℕ
  pub sequence_number : ℕ
  pub segment_data : List ℕ
  pub kind : SegmentKind

abbrev pub whole : Segment → List ℕ → WholeSegment
whole s l = record { transaction_id = s.transaction_id; sequence_number = s.sequence_number; segment_data = l; kind = s.kind }

-- octet 0: two zero bits, type in three, transaction in three; octet 1 sequence; octet 2 data length
abbrev pub header_fields : WholeSegment → List Field
header_fields s = (2, 0) ∷ (3, type_number s.kind) ∷ (3, s.transaction_id) ∷ (8, s.sequence_number) ∷ (8, length s.segment_data) ∷ []

-- data
abbrev pub octet_fields : List ℕ → List Field
octet_fields l = map (λ (o : ℕ). (8, o)) l

-- a parameter: the message length, the services of a Begin, a CRC of an End
pub data Param : Type 0 where
  stated : ℕ → Param
  services : OptionalServices → Param
  crc16 : ℕ → Param
  crc24 : ℕ → Param

-- its top four bits name it. 1: 12-bit length. 2 on Begin: compression 3, encryption 3 (0), window 3, CRC status 2, reserved 1 (0).
-- 2 on End: CRC-16, 3 on End: CRC-24, each followed by four zero bits
abbrev pub param_fields : Param → List Field
param_fields (stated n) = (4, 1) ∷ (12, n) ∷ []
param_fields (services s) =
    (4, 2) ∷ (3, compression_number s.compression) ∷ (3, 0) ∷ (3, window_number s.acknowledgment_window) ∷ (2, status_number s.crc_status) ∷ (1, 0) ∷ []
param_fields (crc16 v) = (4, 2) ∷ (16, v) ∷ (4, 0) ∷ []
param_fields (crc24 v) = (4, 3) ∷ (24, v) ∷ (4, 0) ∷ []

abbrev pub params_fields : List Param → List Field
params_fields [] = []
params_fields (p ∷ ps) = param_fields p ++ params_fields ps

-- header, data, and parameters in a given order
unfoldable pub fields_with : List Param → WholeSegment → List Field
fields_with ps s = header_fields s ++ (octet_fields s.segment_data ++ params_fields ps)

-- ---- a segment's own parameters

abbrev pub length_param : Option ℕ → List Param
length_param None = []
length_param (Some n) = stated n ∷ []

abbrev pub services_param : Option OptionalServices → List Param
services_param None = []
services_param (Some s) = services s ∷ []

abbrev pub crc_param : Option MessageCrc → List Param
crc_param None = []
crc_param (Some (crc.Crc16 v)) = crc16 v ∷ []
crc_param (Some (crc.Crc24 v)) = crc24 v ∷ []

-- the length first
abbrev pub parameters : SegmentKind → List Param
parameters (kind'.Begin n s) = length_param n ++ services_param s
parameters (kind'.Continue n) = length_param n
parameters (kind'.End n c) = length_param n ++ crc_param c

-- the octets of a segment, as they are written
abbrev pub written : WholeSegment → List ℕ
written s = octets_of (bits (fields_with (parameters s.kind) s))
