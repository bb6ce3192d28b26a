-- The layouts KIND (13 octets), SEGMENT (15) and HEAD (23), and their parts. What is absent is 0 in full width. Assumes nothing.
use Rattle.std.specs.Prelude.{◌≡◌, refl, Bool, true, false, cond, ◌&&◌, List, [], ◌∷◌, ◌++◌, ℕ, ◌≤◌, ◌<◌, eqb, length, get_or, drop, Option, Some, None}
use Rattle.std.proofs.Common.{sym, ap, ap₂, ◌∙◌, arith, eq-eqb, length-append, drop-drop, get_or-drop}
use Rattle.std.specs.Int.{from_bool}
use Rattle.std.specs.Option.{is_some, unwrap_or}
use Rattle.octets.specs.Octets.{same_octets}
use Rattle.tsar.specs.Layout.{type_number, compression_number, window_number, status_number as crc_status_number}
use Rattle.tsar.specs.Writing.{length_in, crc_in}
use Rattle.tsar.specs.declared.OptionalServices.{OptionalServices}
use Rattle.tsar.specs.declared.MessageCrc.{MessageCrc}
use Rattle.tsar.specs.declared.MessageCrc.TheVariants as crc
use Rattle.tsar.specs.declared.SegmentKind.{SegmentKind}
use Rattle.tsar.specs.declared.SegmentKind.TheVariants.{Begin, Continue, End}
use Rattle.tsar.specs.declared.Segment.{Segment}
use Rattle.tsar.specs.declared.SegmentHead.{SegmentHead}
use Rattle.image.specs.Spelling.{spells, Layout, spell_octet, read_octet, AnyOctet, octet_layout, spell_both, read_both, both_layout, both_spells, as_layout}
use Rattle.image.specs.Numbers.{spell, value_from, number_of, number_layout, number_back, octets_from, listed}
use Rattle.image.specs.Cases.{compression_of, window_of, crc_status_of, compression_back, window_back, crc_status_back}

and_true : (b : Bool) → (b && true) ≡ b
and_true true = refl
and_true false = refl

-- ---- a stated length, 3 octets: flag, number

abbrev pub stated_flag : Option ℕ → ℕ
stated_flag m = from_bool (is_some m)

abbrev pub stated_or0 : Option ℕ → ℕ
stated_or0 m = unwrap_or m 0

unfoldable pub length_image : Option ℕ → List ℕ
length_image m = stated_flag m ∷ spell 2 (stated_or0 m)

abbrev pub length_from : ℕ → ℕ → Option ℕ
length_from flag n = cond (eqb flag 0) None (Some n)

unfoldable pub length_of : List ℕ → Option ℕ
length_of l = length_from (get_or l 0 0) (number_of 2 (drop 1 l))

abbrev pub LengthFits : Option ℕ → Type 0
LengthFits m = stated_or0 m < 65536

length_wide : (m : Option ℕ) → length (length_image m) ≡ 3
unfolding length_image spell
length_wide m = refl

length_back : (m : Option ℕ) → LengthFits m → (rest : List ℕ) → length_of (length_image m ++ rest) ≡ m
unfolding length_image length_of
length_back None f rest = refl
length_back (Some n) f rest = ap Some (number_back 2 n rest f)

pub length_layout : Layout length_image length_of 3 LengthFits
length_layout = record { wide = λ m f. length_wide m; reads_wide = λ l. length_wide (length_of l); back = length_back }

-- ---- services that are spelled out, 3 octets: compression, window, CRC status

unfoldable pub optional_image : OptionalServices → List ℕ
optional_image s = compression_number s.compression ∷ window_number s.acknowledgment_window ∷ crc_status_number s.crc_status ∷ []

abbrev pub optional_from : ℕ → ℕ → ℕ → OptionalServices
optional_from c w s = record { compression = compression_of c; acknowledgment_window = window_of w; crc_status = crc_status_of s }

unfoldable pub optional_of : List ℕ → OptionalServices
optional_of l = optional_from (get_or l 0 0) (get_or l 1 0) (get_or l 2 0)

abbrev pub AnyOptional : OptionalServices → Type 0
AnyOptional s = Unit {0}

optional_wide : (s : OptionalServices) → length (optional_image s) ≡ 3
unfolding optional_image
optional_wide s = refl

optional_back : (s : OptionalServices) → AnyOptional s → (rest : List ℕ) → optional_of (optional_image s ++ rest) ≡ s
unfolding optional_image optional_of
optional_back s f rest =
    λ i.
    record {
      compression = compression_back s.compression i;
      acknowledgment_window = window_back s.acknowledgment_window i;
      crc_status = crc_status_back s.crc_status i;
    }

pub optional_layout : Layout optional_image optional_of 3 AnyOptional
optional_layout = record { wide = λ s f. optional_wide s; reads_wide = λ l. optional_wide (optional_of l); back = optional_back }

-- ---- services, 4 octets: flag, services

unfoldable pub services_image : Option OptionalServices → List ℕ
services_image None = 0 ∷ 0 ∷ 0 ∷ 0 ∷ []
services_image (Some s) = 1 ∷ optional_image s

abbrev pub services_from : ℕ → OptionalServices → Option OptionalServices
services_from flag s = cond (eqb flag 0) None (Some s)

unfoldable pub services_of : List ℕ → Option OptionalServices
services_of l = services_from (get_or l 0 0) (optional_of (drop 1 l))

abbrev pub AnyServices : Option OptionalServices → Type 0
AnyServices s = Unit {0}

services_wide : (s : Option OptionalServices) → length (services_image s) ≡ 4
unfolding services_image optional_image
services_wide None = refl
services_wide (Some s) = refl

services_back : (s : Option OptionalServices) → AnyServices s → (rest : List ℕ) → services_of (services_image s ++ rest) ≡ s
unfolding services_image services_of
services_back None f rest = refl
services_back (Some s) f rest = ap Some (optional_back s tt rest)

pub services_layout : Layout services_image services_of 4 AnyServices
services_layout = record { wide = λ s f. services_wide s; reads_wide = λ l. services_wide (services_of l); back = services_back }

-- ---- a CRC, 5 octets: 0 absent, 1 CRC-16, 2 CRC-24; value

abbrev pub crc_number : Option MessageCrc → ℕ
crc_number None = 0
crc_number (Some (crc.Crc16 v)) = 1
crc_number (Some (crc.Crc24 v)) = 2

abbrev pub crc_value : Option MessageCrc → ℕ
crc_value None = 0
crc_value (Some (crc.Crc16 v)) = v
crc_value (Some (crc.Crc24 v)) = v

unfoldable pub crc_image : Option MessageCrc → List ℕ
crc_image c = crc_number c ∷ spell 4 (crc_value c)

-- a CRC-16 is the last two octets of the value
abbrev pub crc_from : ℕ → ℕ → ℕ → Option MessageCrc
crc_from tag v16 v24 = cond (eqb tag 0) None (cond (eqb tag 1) (Some (crc.Crc16 v16)) (Some (crc.Crc24 v24)))

unfoldable pub crc_of : List ℕ → Option MessageCrc
crc_of l = crc_from (get_or l 0 0) (number_of 2 (drop 3 l)) (number_of 4 (drop 1 l))

abbrev pub CrcFits : Option MessageCrc → Type 0
CrcFits None = Unit {0}
CrcFits (Some (crc.Crc16 v)) = v < 65536
CrcFits (Some (crc.Crc24 v)) = v < 4294967296

crc_wide : (c : Option MessageCrc) → length (crc_image c) ≡ 5
unfolding crc_image spell
crc_wide c = refl

crc_back : (c : Option MessageCrc) → CrcFits c → (rest : List ℕ) → crc_of (crc_image c ++ rest) ≡ c
unfolding crc_image crc_of spell value_from
crc_back None f rest = refl
crc_back (Some (crc.Crc16 v)) f rest = ap (λ x. Some (crc.Crc16 x)) (let e : number_of 2 (drop 3 (1 ∷ spell 4 v ++ rest)) ≡ v = omega arith in e)
crc_back (Some (crc.Crc24 v)) f rest = ap (λ x. Some (crc.Crc24 x)) (number_back 4 v rest f)

pub crc_layout : Layout crc_image crc_of 5 CrcFits
crc_layout = record { wide = λ c f. crc_wide c; reads_wide = λ l. crc_wide (crc_of l); back = crc_back }

-- ---- KIND, 13 octets: kind, stated length, services of a Begin, CRC of an End

abbrev pub services_in : SegmentKind → Option OptionalServices
services_in (Begin n s) = s
services_in (Continue n) = None
services_in (End n c) = None

unfoldable pub kind_image : SegmentKind → List ℕ
kind_image k = type_number k ∷ (length_image (length_in k) ++ (services_image (services_in k) ++ crc_image (crc_in k)))

abbrev pub kind_from : ℕ → Option ℕ → Option OptionalServices → Option MessageCrc → SegmentKind
kind_from tag n s c = cond (eqb tag 0) (Begin n s) (cond (eqb tag 1) (Continue n) (End n c))

unfoldable pub kind_of : List ℕ → SegmentKind
kind_of l = kind_from (get_or l 0 0) (length_of (drop 1 l)) (services_of (drop 4 l)) (crc_of (drop 8 l))

-- whether 13 octets spell a kind
abbrev pub kind_ok : List ℕ → Bool
kind_ok l = spells kind_image kind_of 13 l

pub record KindFits (k : SegmentKind) : Type 0 where
  pub stated : LengthFits (length_in k)
  pub crc : CrcFits (crc_in k)

-- its parts, one behind another
parts_layout : Layout (spell_both spell_octet (spell_both length_image (spell_both services_image crc_image))) (read_both read_octet 1 (read_both length_of 3 (read_both services_of 4 crc_of))) 13 (λ x. AnyOctet x.0 × (LengthFits x.1.0 × (AnyServices x.1.1.0 × CrcFits x.1.1.1)))
parts_layout = both_layout octet_layout (both_layout length_layout (both_layout services_layout crc_layout))

abbrev kind_parts : SegmentKind → ℕ × (Option ℕ × (Option OptionalServices × Option MessageCrc))
kind_parts k = (type_number k, (length_in k, (services_in k, crc_in k)))

kind_same : (k : SegmentKind) → kind_from (type_number k) (length_in k) (services_in k) (crc_in k) ≡ k
kind_same (Begin n s) = refl
kind_same (Continue n) = refl
kind_same (End n c) = refl

pub kind_wide : (k : SegmentKind) → length (kind_image k) ≡ 13
unfolding kind_image
kind_wide k =
    let a = length_wide (length_in k) in
    let b = services_wide (services_in k) in
    let c = crc_wide (crc_in k) in
    simp (length-append) (omega arith)

kind_reads : (l : List ℕ) → kind_of l ≡ kind_from (get_or l 0 0) (length_of (drop 1 l)) (services_of (drop 3 (drop 1 l))) (crc_of (drop 4 (drop 3 (drop 1 l))))
unfolding kind_of
kind_reads l =
    let a : drop 4 l ≡ drop 3 (drop 1 l) = sym (drop-drop 3 1 l) in
    let b : drop 8 l ≡ drop 4 (drop 3 (drop 1 l)) = sym (ap (drop 4) (drop-drop 3 1 l) ∙ drop-drop 4 4 l) in
    ap₂ (λ (x y : List ℕ). kind_from (get_or l 0 0) (length_of (drop 1 l)) (services_of x) (crc_of y)) a b

pub kind_layout : Layout kind_image kind_of 13 KindFits
unfolding kind_image
kind_layout =
    as_layout parts_layout (λ x. kind_from x.0 x.1.0 x.1.1.0 x.1.1.1) kind_parts kind_same kind_image kind_of KindFits (λ k. refl) kind_reads
    (λ k f. (tt, (f.stated, (tt, f.crc)))) (λ l. kind_wide (kind_of l))

-- its octets one by one, as code reads them
pub kind_flat : (l : List ℕ)
    → kind_of l
    ≡ kind_from (get_or l 0 0) (length_from (get_or l 1 0) (number_of 2 (drop 2 l))) (services_from (get_or l 4 0) (optional_from (get_or l 5 0) (get_or l 6 0) (get_or l 7 0)))
    (crc_from (get_or l 8 0) (number_of 2 (drop 11 l)) (number_of 4 (drop 9 l)))
unfolding kind_of length_of services_of optional_of crc_of
kind_flat l = simp (get_or-drop, drop-drop)

-- and as code lists them
pub kind_listed : (k : SegmentKind) (number : ℕ) (m s c : List ℕ) → number ≡ type_number k → m ≡ length_image (length_in k) → s ≡ services_image (services_in k) → c ≡ crc_image (crc_in k)
    → number ∷ get_or m 0 0 ∷ get_or m 1 0 ∷ get_or m 2 0 ∷ get_or s 0 0 ∷ get_or s 1 0 ∷ get_or s 2 0 ∷ get_or s 3 0 ∷ get_or c 0 0 ∷ get_or c 1 0 ∷ get_or c 2 0 ∷ get_or c 3 0 ∷ get_or c 4 0 ∷ []
    ≡ kind_image k
unfolding kind_image
kind_listed k number m s c p q r t =
    let a : octets_from 3 0 0 m ≡ length_image (length_in k) = listed 3 m (ap length q ∙ length_wide (length_in k)) ∙ q in
    let b : octets_from 4 0 0 s ≡ services_image (services_in k) = listed 4 s (ap length r ∙ services_wide (services_in k)) ∙ r in
    let d : octets_from 5 0 0 c ≡ crc_image (crc_in k) = listed 5 c (ap length t ∙ crc_wide (crc_in k)) ∙ t in
    ap (λ (n : ℕ). n ∷ (octets_from 3 0 0 m ++ (octets_from 4 0 0 s ++ octets_from 5 0 0 c))) p
    ∙ ap (λ (x : List ℕ). type_number k ∷ (x ++ (octets_from 4 0 0 s ++ octets_from 5 0 0 c))) a
    ∙ ap (λ (x : List ℕ). type_number k ∷ (length_image (length_in k) ++ (x ++ octets_from 5 0 0 c))) b
    ∙ ap (λ (x : List ℕ). type_number k ∷ (length_image (length_in k) ++ (services_image (services_in k) ++ x))) d

-- ---- SEGMENT, 15 octets: transaction, sequence, KIND

unfoldable pub segment_image : Segment → List ℕ
segment_image s = s.transaction_id ∷ s.sequence_number ∷ kind_image s.kind

unfoldable pub segment_of : List ℕ → Segment
segment_of l = record { transaction_id = get_or l 0 0; sequence_number = get_or l 1 0; kind = kind_of (drop 2 l) }

abbrev pub segment_ok : List ℕ → Bool
segment_ok l = spells segment_image segment_of 15 l

abbrev pub SegmentFits : Segment → Type 0
SegmentFits s = KindFits s.kind

segment_back : (s : Segment) → SegmentFits s → (rest : List ℕ) → segment_of (segment_image s ++ rest) ≡ s
unfolding segment_image segment_of
segment_back s f rest = ap (λ (k : SegmentKind). record { transaction_id = s.transaction_id; sequence_number = s.sequence_number; kind = k }) (kind_layout.back s.kind f rest)

pub segment_wide : (s : Segment) → length (segment_image s) ≡ 15
unfolding segment_image
segment_wide s = let e = kind_wide s.kind in omega arith

pub segment_layout : Layout segment_image segment_of 15 SegmentFits
segment_layout = record { wide = λ s f. segment_wide s; reads_wide = λ l. segment_wide (segment_of l); back = segment_back }

-- the test of a segment is that of its kind
pub segment_spells : (l : List ℕ) → 15 ≤ length l → segment_ok l ≡ kind_ok (drop 2 l)
unfolding spells same_octets segment_image segment_of
segment_spells [] h = absurd (omega arith)
segment_spells (x ∷ []) h = absurd (omega arith)
segment_spells (x ∷ y ∷ l) h = rw (eq-eqb x x refl, eq-eqb y y refl)

-- ---- HEAD, 23 octets: SEGMENT, data length

unfoldable pub head_image : SegmentHead → List ℕ
head_image h = segment_image h.segment ++ spell 8 h.segment_data_length

unfoldable pub head_of : List ℕ → SegmentHead
head_of l = record { segment = segment_of l; segment_data_length = number_of 8 (drop 15 l) }

abbrev pub head_ok : List ℕ → Bool
head_ok l = spells head_image head_of 23 l

pub record HeadFits (h : SegmentHead) : Type 0 where
  pub segment : SegmentFits h.segment
  pub octets : h.segment_data_length < 18446744073709551616

pub head_layout : Layout head_image head_of 23 HeadFits
unfolding head_image head_of
head_layout =
    let two : Layout (spell_both segment_image (spell 8)) (read_both segment_of 15 (number_of 8)) 23 (λ x. SegmentFits x.0 × (x.1 < 18446744073709551616)) =
    both_layout segment_layout (number_layout 8) in
    as_layout two (λ x. record { segment = x.0; segment_data_length = x.1 }) (λ h. (h.segment, h.segment_data_length)) (λ h. refl) head_image head_of HeadFits (λ h. refl)
    (λ l. refl) (λ h f. (f.segment, f.octets)) (λ l. two.reads_wide l)

-- the test of a head is that of its segment, where the rest spells a number
pub head_spells : (l : List ℕ) → 23 ≤ length l → spells (spell 8) (number_of 8) 8 (drop 15 l) ≡ true → head_ok l ≡ segment_ok l
unfolding spells head_image head_of
head_spells l h f =
    both_spells segment_layout (number_layout 8) l (omega arith) ∙ ap (λ (t : Bool). segment_ok l && t) f
    ∙ and_true (segment_ok l)
