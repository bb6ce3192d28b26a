-- What reading a segment's octets gives: the tests in document 01's order, each with its answer.
use Rattle.std.specs.Prelude.{ℕ, zero, suc, ◌+◌, ◌-◌, ◌*◌, ◌/◌, ◌%◌, List, [], ◌∷◌, Bool, false, cond, not, length, get_or, take, drop, eqb, leb, ltb, Option, Result, is_some, Some, None, Ok, Err}
use Rattle.tsar.specs.declared.DecodedSegment.{DecodedSegment}
use Rattle.tsar.specs.declared.Error.{Error}
use Rattle.tsar.specs.declared.decode.Parsed.{Parsed}
use Rattle.tsar.specs.declared.Compression.{Compression}
use Rattle.tsar.specs.declared.Compression.TheVariants as compression
use Rattle.tsar.specs.declared.AcknowledgmentWindow.{AcknowledgmentWindow}
use Rattle.tsar.specs.declared.AcknowledgmentWindow.TheVariants as window
use Rattle.tsar.specs.declared.CrcStatus.{CrcStatus}
use Rattle.tsar.specs.declared.CrcStatus.TheVariants as status
use Rattle.tsar.specs.declared.OptionalServices.{OptionalServices}
use Rattle.tsar.specs.declared.MessageCrc.{MessageCrc}
use Rattle.tsar.specs.declared.MessageCrc.TheVariants as crc
use Rattle.tsar.specs.declared.Error.TheVariants.{Truncated, Reserved, DuplicateParameter, UnsupportedResponse, MessageType}
use Rattle.tsar.specs.declared.decode.Params.{Params}
use Rattle.tsar.specs.declared.SegmentType.{SegmentType}
use Rattle.tsar.specs.declared.SegmentType.TheVariants as type
use Rattle.tsar.specs.declared.SegmentKind.{SegmentKind}
use Rattle.tsar.specs.declared.SegmentKind.TheVariants as kind'
use Rattle.tsar.specs.declared.SegmentHead.{SegmentHead}
use Rattle.tsar.specs.Rows.{Refusal, first_of}
use Rattle.tsar.specs.Numbers.{number}
use Rattle.tsar.specs.Layout.{WholeSegment, whole}

-- ---- the services in the sixteen bits of a parameter

unfoldable pub compression_of : ℕ → Option Compression
compression_of n = first_of ((eqb n 0, Some compression.None) ∷ (eqb n 1, Some compression.V42Bis) ∷ []) None

unfoldable pub window_of : ℕ → Option AcknowledgmentWindow
window_of n =
    first_of
    ((eqb n 0, Some window.Prohibited) ∷ (eqb n 1, Some window.Every4) ∷ (eqb n 2, Some window.Every8)
    ∷ (eqb n 3, Some window.Every16) ∷ (eqb n 4, Some window.Last) ∷ (eqb n 5, Some window.Exceptions) ∷ [])
    None

unfoldable pub status_of : ℕ → Option CrcStatus
status_of n = first_of ((eqb n 0, Some status.None) ∷ (eqb n 1, Some status.Crc16) ∷ (eqb n 2, Some status.Crc24) ∷ []) None

abbrev pub join3 : Compression → AcknowledgmentWindow → Option CrcStatus → Result OptionalServices Error
join3 c w (Some s) = Ok (record { compression = c; acknowledgment_window = w; crc_status = s })
join3 c w None = (Err Reserved)

abbrev pub join2 : Compression → Option AcknowledgmentWindow → Option CrcStatus → Result OptionalServices Error
join2 c (Some w) s = join3 c w s
join2 c None s = (Err Reserved)

abbrev pub joined : Option Compression → Option AcknowledgmentWindow → Option CrcStatus → Result OptionalServices Error
joined (Some c) w s = join2 c w s
joined None w s = (Err Reserved)

unfoldable pub services_of : ℕ → Result OptionalServices Error
services_of n =
    first_of ((not (eqb (n % 2) 0), (Err Reserved)) ∷ (not (eqb (n / 64 % 8) 0), (Err Reserved)) ∷ [])
    (joined (compression_of (n / 512 % 8)) (window_of (n / 8 % 8)) (status_of (n / 2 % 4)))

-- ---- one parameter, whose octets are the front of a list: a repeat before a cut; either CRC name after either is a repeat

abbrev pub with_length : Params → ℕ → Params
with_length p n = record { message_length = Some n; services = p.services; crc = p.crc }

abbrev pub with_services : Params → OptionalServices → Params
with_services p s = record { message_length = p.message_length; services = Some s; crc = p.crc }

abbrev pub with_crc : Params → Option MessageCrc → Params
with_crc p c = record { message_length = p.message_length; services = p.services; crc = c }

-- the number that the first octets are, highest first
abbrev pub two : List ℕ → ℕ
two l = get_or l 0 0 * 256 + get_or l 1 0

abbrev pub three : List ℕ → ℕ
three l = get_or l 0 0 * 65536 + get_or l 1 0 * 256 + get_or l 2 0

abbrev pub four : List ℕ → ℕ
four l = get_or l 0 0 * 16777216 + get_or l 1 0 * 65536 + get_or l 2 0 * 256 + get_or l 3 0

abbrev pub on_services : Params → Result OptionalServices Error → Result (Option (Params × ℕ)) Error
on_services p (Err e) = Err e
on_services p (Ok s) = (Ok (Some ((with_services p s), 2)))

abbrev pub length_step : Params → List ℕ → Result (Option (Params × ℕ)) Error
length_step p l =
    first_of ((is_some p.message_length, Err DuplicateParameter) ∷ (ltb (length l) 2, Err Truncated) ∷ []) (Ok (Some ((with_length p (two l % 4096)), 2)))

abbrev pub services_step : Params → List ℕ → Result (Option (Params × ℕ)) Error
services_step p l =
    first_of ((is_some p.services, Err DuplicateParameter) ∷ (ltb (length l) 2, Err Truncated) ∷ []) (on_services p (services_of (two l)))

-- what stands above four bits that are 0
abbrev pub unreserved : ℕ → Result ℕ Error
unreserved n = cond (eqb (n % 16) 0) (Ok (n / 16)) (Err Reserved)

abbrev pub crc16_step : Params → List ℕ → Result (Option (Params × ℕ)) Error
crc16_step p l =
    first_of ((is_some p.crc, Err DuplicateParameter) ∷ (ltb (length l) 3, Err Truncated) ∷ (not (eqb (three l % 16) 0), Err Reserved) ∷ [])
    (Ok (Some ((with_crc p (Some (crc.Crc16 (three l / 16 % 65536)))), 3)))

abbrev pub crc24_step : Params → List ℕ → Result (Option (Params × ℕ)) Error
crc24_step p l =
    first_of ((is_some p.crc, Err DuplicateParameter) ∷ (ltb (length l) 4, Err Truncated) ∷ (not (eqb (four l % 16) 0), Err Reserved) ∷ [])
    (Ok (Some ((with_crc p (Some (crc.Crc24 (four l / 16 % 16777216)))), 4)))

-- the parameters that a type has, by name
abbrev pub named : SegmentType → ℕ → Params → List ℕ → Result (Option (Params × ℕ)) Error
named type.Begin m p l = first_of ((eqb m 1, length_step p l) ∷ (eqb m 2, services_step p l) ∷ []) (Ok None)
named type.Continue m p l = first_of ((eqb m 1, length_step p l) ∷ []) (Ok None)
named type.End m p l = first_of ((eqb m 1, length_step p l) ∷ (eqb m 2, crc16_step p l) ∷ (eqb m 3, crc24_step p l) ∷ []) (Ok None)

unfoldable pub step_of : SegmentType → Params → List ℕ → Result (Option (Params × ℕ)) Error
step_of t p l = cond (eqb (length l) 0) (Ok None) (named t (get_or l 0 0 / 16) p l)

-- the octets that a step takes, none where no parameter is taken, and the offset after a step at an offset
abbrev pub octets_taken : Result (Option (Params × ℕ)) Error → ℕ
octets_taken (Ok (Some (p, n))) = n
octets_taken (Ok None) = 0
octets_taken (Err e) = 0

abbrev pub offset_after : Result (Option (Params × ℕ)) Error → ℕ → ℕ
offset_after s at = at + octets_taken s

-- ---- the parameters, one after another, from an offset on, up to the first name that the type doesn't have

abbrev pub no_params : Params
no_params = record { message_length = None; services = None; crc = None }

abbrev pub on_step : (Params → ℕ → Result Parsed Error) → Result Parsed Error → Result (Option (Params × ℕ)) Error → Result Parsed Error
on_step go stop (Ok (Some (p, n))) = go p n
on_step go stop (Ok None) = stop
on_step go stop (Err e) = Err e

unfoldable pub run_params : ℕ → SegmentType → Params → ℕ → List ℕ → Result Parsed Error
run_params zero t p at l = Ok (record { params = p; at = at })
run_params (suc f) t p at l =
    on_step (λ q n. run_params f t q (at + n) (drop n l)) (Ok (record { params = p; at = at })) (step_of t p l)

abbrev pub params_of : SegmentType → ℕ → List ℕ → Result Parsed Error
params_of t at l = run_params (suc (length l)) t no_params at l

-- ---- a segment

-- what reading gives: a segment with its data and so many octets unparsed, or a refusal
pub data Decoded : Type 0 where
  decoded : WholeSegment → ℕ → Decoded
  refused : Refusal → Decoded

abbrev pub kind_of : SegmentType → Params → SegmentKind
kind_of type.Begin p = kind'.Begin p.message_length p.services
kind_of type.Continue p = kind'.Continue p.message_length
kind_of type.End p = kind'.End p.message_length p.crc

abbrev pub with_params : SegmentType → List ℕ → Result Parsed Error → Decoded
with_params t l (Ok x) =
    decoded
    (record { transaction_id = get_or l 0 0 % 8; sequence_number = get_or l 1 0; segment_data = take (get_or l 2 0) (drop 3 l); kind = kind_of t x.params })
    (length l - x.at)
with_params t l (Err e) = refused (number e)

-- a Begin whose sequence is not 0
abbrev pub begin_test : SegmentType → ℕ → Bool
begin_test type.Begin s = not (eqb s 0)
begin_test type.Continue s = false
begin_test type.End s = false

-- the type of a number, 3 being that of responses
unfoldable pub type_numbered : ℕ → Result SegmentType Error
type_numbered n =
    first_of
    ((eqb n 3, Err UnsupportedResponse) ∷ (eqb n 0, Ok type.Begin) ∷ (eqb n 1, Ok type.Continue) ∷ (eqb n 2, Ok type.End) ∷ [])
    (Err MessageType)

-- three octets, Begin's sequence, data, then parameters
unfoldable pub segment_as : SegmentType → List ℕ → Decoded
segment_as t l =
    first_of
    ((ltb (length l) 3, refused (2, 0)) ∷ (begin_test t (get_or l 1 0), refused (6, 3)) ∷ (ltb (length l) (3 + get_or l 2 0), refused (2, 0)) ∷ [])
    (with_params t l (params_of t (3 + get_or l 2 0) (drop (3 + get_or l 2 0) l)))

-- version, first octet, protocol bits, type
unfoldable pub segment_of : ℕ → List ℕ → Decoded
segment_of version l =
    first_of
    ((ltb version 1, refused (1, 0))
    ∷ (eqb (length l) 0, refused (2, 0))
    ∷ (leb 64 (get_or l 0 0), refused (3, 0))
    ∷ (eqb (get_or l 0 0 / 8) 3, refused (5, 0))
    ∷ (eqb (get_or l 0 0 / 8) 0, segment_as type.Begin l)
    ∷ (eqb (get_or l 0 0 / 8) 1, segment_as type.Continue l)
    ∷ (eqb (get_or l 0 0 / 8) 2, segment_as type.End l)
    ∷ [])
    (refused (4, 0))

-- ---- what a caller is told of it

-- the head of a segment with its data
abbrev pub head_of_whole : WholeSegment → SegmentHead
head_of_whole s =
    record {
      segment = record { transaction_id = s.transaction_id; sequence_number = s.sequence_number; kind = s.kind };
      segment_data_length = length s.segment_data;
    }

-- the head, with the number of data octets, and the number of octets unparsed; or the refusal
pub data Told : Type 0 where
  told : SegmentHead → ℕ → Told
  not_read : Refusal → Told

-- of what reading gives
abbrev pub told_of : Decoded → Told
told_of (decoded s n) = told (head_of_whole s) n
told_of (refused r) = not_read r

-- by decode_segment's answer
abbrev pub told_by : Result DecodedSegment Error → Told
told_by (Ok d) = told d.head d.unparsed_octets
told_by (Err e) = not_read (number e)

-- the answer with its data, which are a part of the octets read
abbrev pub decoded_by : List ℕ → Result DecodedSegment Error → Decoded
decoded_by l (Ok d) = decoded (whole d.head.segment (take d.head.segment_data_length (drop 3 l))) d.unparsed_octets
decoded_by l (Err e) = refused (number e)
