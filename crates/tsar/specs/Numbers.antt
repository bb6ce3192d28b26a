-- Document 01's numbers, 'Refusals by what is returned': the number n and the field m of each refusal of the codec.
use Rattle.std.specs.Prelude.{ℕ, Option, Result, Some, None, Ok, Err}
use Rattle.tsar.specs.declared.ErrorField.{ErrorField}
use Rattle.tsar.specs.declared.ErrorField.TheVariants as field
use Rattle.tsar.specs.declared.Error.{Error}
use Rattle.tsar.specs.declared.Error.TheVariants as error
use Rattle.tsar.specs.Rows.{Refusal}

-- 6/1 to 6/7
abbrev pub field_number : ErrorField → ℕ
field_number field.TransactionId = 1
field_number field.SegmentDataLength = 2
field_number field.BeginSequenceNumber = 3
field_number field.MessageLength = 4
field_number field.Crc24 = 5
field_number field.AcknowledgmentMapLength = 6
field_number field.OptionalServicesSupportStatus = 7

-- 1 to 8
abbrev pub number : Error → Refusal
number error.Version = (1, 0)
number error.Truncated = (2, 0)
number error.Protocol = (3, 0)
number error.MessageType = (4, 0)
number error.UnsupportedResponse = (5, 0)
number (error.Field f) = (6, field_number f)
number error.Reserved = (7, 0)
number error.DuplicateParameter = (8, 0)

-- what a check says, by number
abbrev pub validated_by : Result Unit Error → Option Refusal
validated_by (Ok tt) = None
validated_by (Err e) = Some (number e)
