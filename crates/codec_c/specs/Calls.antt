-- What catkhize_encode and catkhize_decode give and leave in each lent buffer: the exports' own tests, then the codec's definitions.
use Rattle.std.specs.Prelude.{Bool, not, List, [], ◌∷◌, ◌++◌, ℕ, ltb, length}
use Rattle.std.proofs.lemmas.List.Edits.{sets}
use Rattle.tsar.specs.Rows.{Refusal, refusal}
use Rattle.tsar.specs.Reading.{Told, told, not_read, told_of, segment_of as decode_of}
use Rattle.tsar.specs.Writing.{Written, Answer, wrote, refused as unwritten, encode_of}
use Rattle.tsar.specs.declared.SegmentHead.{SegmentHead}
use Rattle.image.specs.Numbers.{spell}
use Rattle.image.specs.Segments.{segment_of, segment_ok, head_image}
use Rattle.codec_c.specs.Codes.{code_of, short, misspelled, unless_refused}

-- ---- catkhize_encode

-- the number that the call gives, and the output and the answer after it
pub record EncodeCall : Type 0 where
  pub code : ℕ
  pub output : List ℕ
  pub answer : List ℕ

abbrev pub encode_call : ℕ → List ℕ → List ℕ → EncodeCall
encode_call n output answer = record { code = n; output = output; answer = answer }

-- what encoding answers, as a call: WRITTEN is the number of octets written
abbrev pub encode_gives : Answer → List ℕ → List ℕ → EncodeCall
encode_gives (wrote n) output answer = encode_call 0 output (sets answer 0 (spell 8 n))
encode_gives (unwritten r) output answer = encode_call (code_of r) output answer

-- a segment is 15 octets and an answer 8
abbrev pub encode_tests : List ℕ → List ℕ → List (Bool × Refusal)
encode_tests segment answer =
    (ltb (length segment) 15, short)
    ∷ (ltb (length answer) 8, short)
    ∷ (not (segment_ok segment), misspelled)
    ∷ []

abbrev pub encoded_call : Written → List ℕ → EncodeCall
encoded_call w answer = encode_gives w.answer w.output answer

unfoldable pub encode_call_of : List ℕ → List ℕ → ℕ → List ℕ → List ℕ → EncodeCall
encode_call_of segment octets version output answer =
    unless_refused (refusal (encode_tests segment answer)) (λ n. encode_call n output answer)
    (encoded_call (encode_of version (segment_of segment) octets output) answer)

-- ---- catkhize_decode

pub record DecodeCall : Type 0 where
  pub code : ℕ
  pub answer : List ℕ

abbrev pub decode_call : ℕ → List ℕ → DecodeCall
decode_call n answer = record { code = n; answer = answer }

-- a head, and a number of 8 octets behind it: DECODED, where it is the number of unparsed octets, and PART, where it is an offset
unfoldable pub part_image : SegmentHead → ℕ → List ℕ
part_image h n = head_image h ++ spell 8 n

abbrev pub decode_gives : Told → List ℕ → DecodeCall
decode_gives (told h n) answer = decode_call 0 (sets answer 0 (part_image h n))
decode_gives (not_read r) answer = decode_call (code_of r) answer

-- an answer is 31 octets
abbrev pub decode_tests : List ℕ → List (Bool × Refusal)
decode_tests answer = (ltb (length answer) 31, short) ∷ []

unfoldable pub decode_call_of : List ℕ → ℕ → List ℕ → DecodeCall
decode_call_of octets version answer =
    unless_refused (refusal (decode_tests answer)) (λ n. decode_call n answer) (decode_gives (told_of (decode_of version octets)) answer)
