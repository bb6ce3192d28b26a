-- The number that a call on a receiver gives, and the layouts REPLY (46 octets) and RECEPTION (55) of what it answers. What is absent is 0 in
-- full width.
use Rattle.std.specs.Prelude.{List, [], ◌∷◌, ◌++◌, ℕ, replicate, Option, Some, None}
use Rattle.receiver.specs.declared.Reported.{Reported}
use Rattle.receiver.specs.Answers.{Answer, refused, answered}
use Rattle.codec_c.specs.Codes.{code_of}
use Rattle.image.specs.Numbers.{spell}
use Rattle.image_link.specs.Responses.{response_image}

-- the number: 0, or the refusal
abbrev pub answer_code : Answer → ℕ
answer_code (refused n) = code_of n
answer_code (answered r m) = 0

-- REPLY, a response: flag, RESPONSE, how many entries of its map are missing, the first of them
unfoldable pub reply_image : Option Reported → List ℕ
reply_image None = replicate 46 0
reply_image (Some x) = 1 ∷ response_image x.response ++ (spell 2 x.missing.count ++ spell 2 x.missing.first)

-- a message that is handed over: flag, number of octets
unfoldable pub message_image : Option ℕ → List ℕ
message_image None = replicate 9 0
message_image (Some n) = 1 ∷ spell 8 n

-- RECEPTION: both
unfoldable pub reception_image : Option Reported → Option ℕ → List ℕ
reception_image r m = reply_image r ++ message_image m

-- ---- what a call writes to its answer: nothing beside a refusal

-- an advance
abbrev pub reply_octets : Answer → List ℕ
reply_octets (refused n) = []
reply_octets (answered r m) = reply_image r

-- a receive
abbrev pub reception_octets : Answer → List ℕ
reception_octets (refused n) = []
reception_octets (answered r m) = reception_image r m

-- a cancel and a release are lent no answer
abbrev pub no_octets : Answer → List ℕ
no_octets a = []
