-- Questions about kinds, services and windows that planner, receiver and sender ask.
use Rattle.std.specs.Prelude.{ℕ, Bool, true, false, not, ◌&&◌, eqb, Option, Some, None}
use Rattle.tsar.specs.declared.Compression.{Compression}
use Rattle.tsar.specs.declared.Compression.TheVariants as compression
use Rattle.tsar.specs.declared.AcknowledgmentWindow.{AcknowledgmentWindow}
use Rattle.tsar.specs.declared.AcknowledgmentWindow.TheVariants as window
use Rattle.tsar.specs.declared.CrcStatus.{CrcStatus}
use Rattle.tsar.specs.declared.CrcStatus.TheVariants as status
use Rattle.tsar.specs.declared.OptionalServices.{OptionalServices}
use Rattle.tsar.specs.declared.MessageCrc.{MessageCrc}
use Rattle.tsar.specs.declared.MessageCrc.TheVariants as crc
use Rattle.tsar.specs.declared.SegmentKind.{SegmentKind}
use Rattle.tsar.specs.declared.SegmentKind.TheVariants as kind'
use Rattle.tsar.specs.Layout.{compression_number, window_number, status_number}

abbrev pub is_begin : SegmentKind → Bool
is_begin (kind'.Begin n s) = true
is_begin (kind'.Continue n) = false
is_begin (kind'.End n c) = false

abbrev pub is_continue : SegmentKind → Bool
is_continue (kind'.Begin n s) = false
is_continue (kind'.Continue n) = true
is_continue (kind'.End n c) = false

abbrev pub is_end : SegmentKind → Bool
is_end (kind'.Begin n s) = false
is_end (kind'.Continue n) = false
is_end (kind'.End n c) = true

-- absent services mean no compression, Prohibited, no CRC
abbrev pub services_or_default : Option OptionalServices → OptionalServices
services_or_default None = record { compression = compression.None; acknowledgment_window = window.Prohibited; crc_status = status.None }
services_or_default (Some s) = s

abbrev pub compresses : Compression → Bool
compresses compression.None = false
compresses compression.V42Bis = true

abbrev pub selects_crc : CrcStatus → Bool
selects_crc status.None = false
selects_crc status.Crc16 = true
selects_crc status.Crc24 = true

abbrev pub has_crc : Option MessageCrc → Bool
has_crc None = false
has_crc (Some (crc.Crc16 v)) = true
has_crc (Some (crc.Crc24 v)) = true

abbrev pub prohibited : AcknowledgmentWindow → Bool
prohibited window.Prohibited = true
prohibited window.Every4 = false
prohibited window.Every8 = false
prohibited window.Every16 = false
prohibited window.Last = false
prohibited window.Exceptions = false

abbrev pub is_exceptions : AcknowledgmentWindow → Bool
is_exceptions window.Prohibited = false
is_exceptions window.Every4 = false
is_exceptions window.Every8 = false
is_exceptions window.Every16 = false
is_exceptions window.Last = false
is_exceptions window.Exceptions = true

-- a stated length that is another than n
abbrev pub states_other : Option ℕ → ℕ → Bool
states_other None n = false
states_other (Some m) n = not (eqb m n)

-- whether two kinds are the same, with their parameters: services absent and the same services spelled out differ
abbrev pub same_lengths : Option ℕ → Option ℕ → Bool
same_lengths None None = true
same_lengths None (Some n) = false
same_lengths (Some m) None = false
same_lengths (Some m) (Some n) = eqb m n

abbrev pub same_optional : OptionalServices → OptionalServices → Bool
same_optional s t =
    eqb (compression_number s.compression) (compression_number t.compression)
    && eqb (window_number s.acknowledgment_window) (window_number t.acknowledgment_window)
    && eqb (status_number s.crc_status) (status_number t.crc_status)

abbrev pub same_services : Option OptionalServices → Option OptionalServices → Bool
same_services None None = true
same_services None (Some t) = false
same_services (Some s) None = false
same_services (Some s) (Some t) = same_optional s t

abbrev pub same_crc : Option MessageCrc → Option MessageCrc → Bool
same_crc None None = true
same_crc None (Some (crc.Crc16 w)) = false
same_crc None (Some (crc.Crc24 w)) = false
same_crc (Some (crc.Crc16 v)) None = false
same_crc (Some (crc.Crc16 v)) (Some (crc.Crc16 w)) = eqb v w
same_crc (Some (crc.Crc16 v)) (Some (crc.Crc24 w)) = false
same_crc (Some (crc.Crc24 v)) None = false
same_crc (Some (crc.Crc24 v)) (Some (crc.Crc16 w)) = false
same_crc (Some (crc.Crc24 v)) (Some (crc.Crc24 w)) = eqb v w

abbrev pub same_kind : SegmentKind → SegmentKind → Bool
same_kind (kind'.Begin m s) (kind'.Begin n t) = same_lengths m n && same_services s t
same_kind (kind'.Begin m s) (kind'.Continue n) = false
same_kind (kind'.Begin m s) (kind'.End n c) = false
same_kind (kind'.Continue m) (kind'.Begin n t) = false
same_kind (kind'.Continue m) (kind'.Continue n) = same_lengths m n
same_kind (kind'.Continue m) (kind'.End n c) = false
same_kind (kind'.End m b) (kind'.Begin n t) = false
same_kind (kind'.End m b) (kind'.Continue n) = false
same_kind (kind'.End m b) (kind'.End n c) = same_lengths m n && same_crc b c
