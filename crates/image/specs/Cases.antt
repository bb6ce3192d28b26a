-- The cases that numbers name: each case of an enum has a number (ABI), and a number is read by a table. A number past the table reads as
-- the first case, which the strict test of an image then refuses. Assumes nothing.
use Rattle.std.specs.Prelude.{◌≡◌, refl, Bool, true, false, List, [], ◌∷◌, ℕ, eqb, get_or}
use Rattle.std.specs.Int.{from_bool}
use Rattle.tsar.specs.Layout.{compression_number, window_number, status_number as crc_status_number}
use Rattle.tsar.specs.declared.Compression.{Compression}
use Rattle.tsar.specs.declared.Compression.TheVariants as compression
use Rattle.tsar.specs.declared.AcknowledgmentWindow.{AcknowledgmentWindow}
use Rattle.tsar.specs.declared.AcknowledgmentWindow.TheVariants as window
use Rattle.tsar.specs.declared.CrcStatus.{CrcStatus}
use Rattle.tsar.specs.declared.CrcStatus.TheVariants as crc_status
use Rattle.link.specs.declared.HigherLayerProtocol.{HigherLayerProtocol}
use Rattle.link.specs.declared.HigherLayerProtocol.TheVariants.{Segmented, CarrierSpecific, Other}
use Rattle.response.specs.Responses.{status_number}
use Rattle.response.specs.declared.Status.{Status}
use Rattle.response.specs.declared.Status.TheVariants as status

abbrev pub flag_of : Bool → ℕ
flag_of b = from_bool b

pub flag_back : (b : Bool) → eqb (flag_of b) 1 ≡ b
flag_back true = refl
flag_back false = refl

-- ---- the services of a segment

abbrev pub compressions : List Compression
compressions = compression.None ∷ compression.V42Bis ∷ []

abbrev pub compression_of : ℕ → Compression
compression_of n = get_or compressions n compression.None

pub compression_back : (c : Compression) → compression_of (compression_number c) ≡ c
compression_back compression.None = refl
compression_back compression.V42Bis = refl

abbrev pub windows : List AcknowledgmentWindow
windows = window.Prohibited ∷ window.Every4 ∷ window.Every8 ∷ window.Every16 ∷ window.Last ∷ window.Exceptions ∷ []

abbrev pub window_of : ℕ → AcknowledgmentWindow
window_of n = get_or windows n window.Prohibited

pub window_back : (w : AcknowledgmentWindow) → window_of (window_number w) ≡ w
window_back window.Prohibited = refl
window_back window.Every4 = refl
window_back window.Every8 = refl
window_back window.Every16 = refl
window_back window.Last = refl
window_back window.Exceptions = refl

abbrev pub crc_statuses : List CrcStatus
crc_statuses = crc_status.None ∷ crc_status.Crc16 ∷ crc_status.Crc24 ∷ []

abbrev pub crc_status_of : ℕ → CrcStatus
crc_status_of n = get_or crc_statuses n crc_status.None

pub crc_status_back : (s : CrcStatus) → crc_status_of (crc_status_number s) ≡ s
crc_status_back crc_status.None = refl
crc_status_back crc_status.Crc16 = refl
crc_status_back crc_status.Crc24 = refl

-- ---- protocols: a number, and an octet beside it

abbrev pub protocol_number : HigherLayerProtocol → ℕ
protocol_number (Segmented o) = 0
protocol_number (CarrierSpecific o) = 1
protocol_number (Other o) = 2

abbrev pub protocol_octet : HigherLayerProtocol → ℕ
protocol_octet (Segmented o) = o
protocol_octet (CarrierSpecific o) = o
protocol_octet (Other o) = o

abbrev pub protocols : ℕ → List HigherLayerProtocol
protocols o = Segmented o ∷ CarrierSpecific o ∷ Other o ∷ []

abbrev pub protocol_of : ℕ → ℕ → HigherLayerProtocol
protocol_of n o = get_or (protocols o) n (Segmented o)

pub protocol_back : (p : HigherLayerProtocol) → protocol_of (protocol_number p) (protocol_octet p) ≡ p
protocol_back (Segmented o) = refl
protocol_back (CarrierSpecific o) = refl
protocol_back (Other o) = refl

-- ---- the statuses of a response

abbrev pub statuses : List Status
statuses =
    status.Continuing
    ∷ status.InterSegmentTimeout
    ∷ status.Aborted
    ∷ status.CrcSelectionUnsupported
    ∷ status.CompressionUnsupported
    ∷ status.EncryptionUnsupported
    ∷ status.AcknowledgmentWindowUnsupported
    ∷ status.ProtocolUnsupported
    ∷ status.MessageLengthError
    ∷ status.MessageTooLong
    ∷ status.Received
    ∷ status.DuplicateSizeMismatch
    ∷ status.CrcError
    ∷ status.MultipleServicesUnsupported
    ∷ []

abbrev pub status_of : ℕ → Status
status_of n = get_or statuses n status.Continuing

pub status_back : (s : Status) → status_of (status_number s) ≡ s
status_back status.Continuing = refl
status_back status.InterSegmentTimeout = refl
status_back status.Aborted = refl
status_back status.CrcSelectionUnsupported = refl
status_back status.CompressionUnsupported = refl
status_back status.EncryptionUnsupported = refl
status_back status.AcknowledgmentWindowUnsupported = refl
status_back status.ProtocolUnsupported = refl
status_back status.MessageLengthError = refl
status_back status.MessageTooLong = refl
status_back status.Received = refl
status_back status.DuplicateSizeMismatch = refl
status_back status.CrcError = refl
status_back status.MultipleServicesUnsupported = refl
