-- When octets spell a segment, with so many octets left unparsed: the relation that reading is held to, both ways.
use Rattle.std.specs.Prelude.{ℕ, ◌≤◌, ◌<◌, ◌≡◌, List, [], ◌∷◌, ◌++◌, reverse, length, get_or, take, Option, Some, None}
use Rattle.tsar.specs.declared.MessageCrc.{MessageCrc}
use Rattle.tsar.specs.declared.MessageCrc.TheVariants as crc
use Rattle.tsar.specs.declared.SegmentType.{SegmentType}
use Rattle.tsar.specs.declared.SegmentType.TheVariants as type
use Rattle.tsar.specs.declared.SegmentKind.{SegmentKind}
use Rattle.tsar.specs.declared.SegmentKind.TheVariants as kind'
use Rattle.tsar.specs.Layout.{Param, WholeSegment, fields_with, parameters, bits_of, bits, octets_of, type_of}

-- a segment has at most two parameters; any order of them is as they are listed, or the other way round
pub data AnyOrder (ps qs : List Param) : Type 0 where
  listed : ps ≡ qs → AnyOrder ps qs
  turned : ps ≡ reverse qs → AnyOrder ps qs

-- every value within the width of its field, and a Begin's sequence 0
abbrev pub LengthFits : Option ℕ → Type 0
LengthFits None = Unit {0}
LengthFits (Some n) = n ≤ 4095

abbrev pub CrcFits : Option MessageCrc → Type 0
CrcFits None = Unit {0}
CrcFits (Some (crc.Crc16 v)) = v < 65536
CrcFits (Some (crc.Crc24 v)) = v < 16777216

abbrev pub KindFits : ℕ → SegmentKind → Type 0
KindFits sequence (kind'.Begin n s) = (sequence ≡ 0) × LengthFits n
KindFits sequence (kind'.Continue n) = LengthFits n
KindFits sequence (kind'.End n c) = LengthFits n × CrcFits c

abbrev pub Octets : List ℕ → Type 0
Octets l = (i : ℕ) → get_or l i 0 < 256

pub record Fits (s : WholeSegment) : Type 0 where
  pub transaction_fits : s.transaction_id ≤ 7
  pub sequence_fits : s.sequence_number < 256
  pub length_fits : length s.segment_data ≤ 255
  pub data_fits : Octets s.segment_data
  pub kind_fits : KindFits s.sequence_number s.kind

-- the names that a type of segment has
abbrev pub names : SegmentType → List ℕ
names type.Begin = 1 ∷ 2 ∷ []
names type.Continue = 1 ∷ []
names type.End = 1 ∷ 2 ∷ 3 ∷ []

-- the top four bits of an octet are none of the names
abbrev pub NoneOf : List ℕ → ℕ → Type 0
NoneOf [] o = Unit {0}
NoneOf (n ∷ ns) o = (take 4 (bits_of 8 o) ≡ bits_of 4 n → ⊥) × NoneOf ns o

-- nothing, or octets that begin with a name that the type doesn't have
abbrev pub Unnamed : SegmentType → List ℕ → Type 0
Unnamed t [] = Unit {0}
Unnamed t (o ∷ r) = NoneOf (names t) o

-- header, data and parameters of the segment, those in any order, none twice; then what is unparsed
pub record Spells (l : List ℕ) (s : WholeSegment) (unparsed : ℕ) : Type 0 where
  pub order : List Param
  pub rest : List ℕ
  pub any_order : AnyOrder order (parameters s.kind)
  pub fits : Fits s
  pub spelled : l ≡ octets_of (bits (fields_with order s)) ++ rest
  pub stops : Unnamed (type_of s.kind) rest
  pub counted : unparsed ≡ length rest
