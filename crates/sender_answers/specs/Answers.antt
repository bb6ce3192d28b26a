-- The number that a sender's call gives, the layout SUBMISSION of what a sender offers, and the failure of the lower layer that a number names.
use Rattle.std.specs.Prelude.{Bool, true, false, List, [], ◌∷◌, ◌++◌, ℕ, get_or, Option, Some, None}
use Rattle.sender.specs.declared.LowerLayerFailure.{LowerLayerFailure}
use Rattle.sender.specs.declared.LowerLayerFailure.TheVariants.{Rejected, TimedOut, Cancelled}
use Rattle.sender.specs.declared.Offered.{Offered}
use Rattle.sender.specs.Calls.{Answer, refused, answered}
use Rattle.image.specs.Numbers.{spell}
use Rattle.codec_c.specs.Codes.{code_of}
use Rattle.codec_c.specs.Calls.{part_image}

-- 0, or the refusal
abbrev pub answer_code : Answer → ℕ
answer_code (refused n) = code_of n
answer_code (answered s) = 0

abbrev pub is_refused : Answer → Bool
is_refused (refused n) = true
is_refused (answered s) = false

-- ---- what a sender offers

-- SUBMISSION, 48 octets: sender number, ticket, index, and the segment as PART
unfoldable pub submission_image : Offered → List ℕ
submission_image o = spell 8 o.number ++ (spell 8 o.ticket ++ (o.index ∷ part_image o.part.head o.part.offset))

-- 0, or 1 where nothing is offered
abbrev pub offer_code : Option Offered → ℕ
offer_code None = 1
offer_code (Some o) = 0

-- what is written to the answer
abbrev pub offer_octets : Option Offered → List ℕ
offer_octets None = []
offer_octets (Some o) = submission_image o

-- ---- what the lower layer says: 0 Rejected, with its cause, 1 TimedOut, 2 Cancelled

abbrev pub failures : ℕ → List LowerLayerFailure
failures cause = Rejected cause ∷ TimedOut ∷ Cancelled ∷ []

-- a number past the table reads as the first case: the exports' tests refuse it before
abbrev pub failure_of : ℕ → ℕ → LowerLayerFailure
failure_of n cause = get_or (failures cause) n (Rejected cause)
