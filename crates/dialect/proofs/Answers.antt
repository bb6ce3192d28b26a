-- Each answer of convert has a number of its own: from the number back to the answer. Assumes nothing.
use Prim.Native.Nat.{ℕ}
use mathlib.Core.Path.{◌≡◌, refl, sym, ap, ◌∙◌}
use mathlib.Core.Bool.{cond}
use Rattle.std.specs.Prelude.{Option, Result, Some, None, Ok, Err}
use lib.Dec.{eqb}
use Rattle.tsar.specs.Rows.{Refusal}
use Rattle.tsar.specs.Numbers.{field_number, number}
use Rattle.tsar.specs.declared.ErrorField.{ErrorField}
use Rattle.tsar.specs.declared.ErrorField.TheVariants as field
use Rattle.tsar.specs.declared.Error.{Error}
use Rattle.tsar.specs.declared.Error.TheVariants as codec
use Rattle.segmentation.specs.Frozen.{Checked}
use Rattle.segmentation.specs.declared.PlanningError.TheVariants as planning
use Rattle.dialect.specs.declared.ConvertError.{ConvertError}
use Rattle.dialect.specs.declared.ConvertError.TheVariants as error
use Rattle.dialect.specs.Numbers.{convert_number}
use Rattle.dialect.specs.Convert.{refused_by, Conversion, converted_by}
use Rattle.dialect.specs.Statement.{OneAnswer}

-- ---- from the number back

abbrev field_of : ℕ → ErrorField
field_of m =
    cond (eqb m 1) field.TransactionId
    (cond (eqb m 2) field.SegmentDataLength
    (cond (eqb m 3) field.BeginSequenceNumber
    (cond (eqb m 4) field.MessageLength
    (cond (eqb m 5) field.Crc24
    (cond (eqb m 6) field.AcknowledgmentMapLength field.OptionalServicesSupportStatus)))))

abbrev codec_of : Refusal → Error
codec_of r =
    cond (eqb r.0 1) codec.Version
    (cond (eqb r.0 2) codec.Truncated
    (cond (eqb r.0 3) codec.Protocol
    (cond (eqb r.0 4) codec.MessageType
    (cond (eqb r.0 5) codec.UnsupportedResponse
    (cond (eqb r.0 6) (codec.Field (field_of r.1))
    (cond (eqb r.0 7) codec.Reserved codec.DuplicateParameter))))))

abbrev error_of : Refusal → ConvertError
error_of r =
    cond (eqb r.0 20) (error.Planning planning.PayloadBudget)
    (cond (eqb r.0 21) (error.Planning planning.HeaderCapacity)
    (cond (eqb r.0 22) (error.Planning planning.SegmentCount)
    (cond (eqb r.0 23) (error.Planning planning.FrozenPlan)
    (cond (eqb r.0 24) (error.Planning planning.JoinedLength)
    (cond (eqb r.0 25) (error.Planning planning.ExceptionsWindow)
    (cond (eqb r.0 26) error.OtherPattern (error.Planning (planning.Codec (codec_of r)))))))))

abbrev answer_of : Option Refusal → Result Unit ConvertError
answer_of None = (Ok tt)
answer_of (Some r) = Err (error_of r)

-- ---- it is the answer that was given

field_of_lem : (f : ErrorField) → field_of (field_number f) ≡ f
field_of_lem field.TransactionId = refl
field_of_lem field.SegmentDataLength = refl
field_of_lem field.BeginSequenceNumber = refl
field_of_lem field.MessageLength = refl
field_of_lem field.Crc24 = refl
field_of_lem field.AcknowledgmentMapLength = refl
field_of_lem field.OptionalServicesSupportStatus = refl

codec_of_lem : (e : Error) → error_of (number e) ≡ error.Planning (planning.Codec e)
codec_of_lem codec.Version = refl
codec_of_lem codec.Truncated = refl
codec_of_lem codec.Protocol = refl
codec_of_lem codec.MessageType = refl
codec_of_lem codec.UnsupportedResponse = refl
codec_of_lem (codec.Field f) = ap (λ (x : ErrorField). error.Planning (planning.Codec (codec.Field x))) (field_of_lem f)
codec_of_lem codec.Reserved = refl
codec_of_lem codec.DuplicateParameter = refl

error_of_lem : (e : ConvertError) → error_of (convert_number e) ≡ e
error_of_lem (error.Planning planning.PayloadBudget) = refl
error_of_lem (error.Planning planning.HeaderCapacity) = refl
error_of_lem (error.Planning planning.SegmentCount) = refl
error_of_lem (error.Planning planning.FrozenPlan) = refl
error_of_lem (error.Planning planning.JoinedLength) = refl
error_of_lem (error.Planning planning.ExceptionsWindow) = refl
error_of_lem (error.Planning (planning.Codec e)) = codec_of_lem e
error_of_lem error.OtherPattern = refl

answer_of_lem : (a : Result Unit ConvertError) → answer_of (refused_by a) ≡ a
answer_of_lem (Ok tt) = refl
answer_of_lem (Err e) = ap {B = Result Unit ConvertError} Err (error_of_lem e)

abbrev conversion_of : Checked → Conversion
conversion_of c = record { answer = answer_of c.refused; plan = c.plan }

conversion_of_lem : (r : Conversion) → conversion_of (converted_by r) ≡ r
conversion_of_lem r = let e : answer_of (refused_by r.answer) ≡ r.answer = answer_of_lem r.answer in λ i. record { answer = e i; plan = r.plan }

pub one_answer : OneAnswer
one_answer r s e = sym (conversion_of_lem r) ∙ ap conversion_of e ∙ conversion_of_lem s
