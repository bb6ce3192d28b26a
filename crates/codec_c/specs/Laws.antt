-- Laws of what the exported codec gives: a call that its own tests refuse, and one that they let pass. Assumes nothing.
use Rattle.std.specs.Prelude.{◌≡◌, List, ◌++◌, ℕ, ◌+◌, length, Option, Some, None}
use Rattle.std.proofs.Common.{sym, ◌∙◌, append-nil, arith, drop_of_length-le, length-append}
use Rattle.std.proofs.Math.Path.{ap}
use Rattle.std.proofs.lemmas.List.Edits.{sets, sets-eq}
use Rattle.tsar.specs.Rows.{Refusal, refusal}
use Rattle.tsar.specs.Reading.{Told, told_of, segment_of as decode_of}
use Rattle.tsar.specs.Writing.{encode_of}
use Rattle.tsar.specs.declared.Segment.{Segment}
use Rattle.tsar.specs.declared.SegmentHead.{SegmentHead}
use Rattle.image.specs.Spelling.{sets_then}
use Rattle.image.specs.Numbers.{spell, length_spell}
use Rattle.image.specs.Segments.{segment_of, head_image, HeadFits, head_layout}
use Rattle.codec_c.specs.Codes.{code_of, unless_refused}
use Rattle.codec_c.specs.Calls.{encode_call, encoded_call, encode_tests, encode_call_of, decode_call, decode_gives, decode_tests, decode_call_of, part_image}

-- octets written over as many others are all that is left
pub sets_whole : (z xs : List ℕ) → length z ≡ length xs → sets z 0 xs ≡ xs
sets_whole z xs e =
    sets-eq xs z 0 (omega arith) ∙ ap (λ (y : List ℕ). xs ++ y) (drop_of_length-le z {i = 0 + length xs} (omega arith))
    ∙ append-nil xs

-- a head and a number, written one behind the other over as many octets
pub part_spelled : (z m n : List ℕ) (h : SegmentHead) (x : ℕ) → length z ≡ 31 → HeadFits h → m ≡ sets z 0 (head_image h) → n ≡ sets m 23 (spell 8 x) → n ≡ part_image h x
unfolding part_image
part_spelled z m n h x e f p q =
    let a : length (head_image h) ≡ 23 = head_layout.wide h f in
    let b : length (head_image h ++ spell 8 x) ≡ 31 = length-append (head_image h) (spell 8 x) ∙ omega (arith, length_spell 8 x) in
    q ∙ ap (λ (l : List ℕ). sets l 23 (spell 8 x)) p ∙ sets_then z 0 (head_image h) (spell 8 x) 23 a ∙ sets_whole z (head_image h ++ spell 8 x) (e ∙ sym b)

-- ---- catkhize_encode

module _ (segment octets : List ℕ) (version : ℕ) (output answer : List ℕ) where
  pub encode_refused : (r : Refusal) → refusal (encode_tests segment answer) ≡ Some r → encode_call (code_of r) output answer ≡ encode_call_of segment octets version output answer
  unfolding encode_call_of
  encode_refused r e =
      ap
      (λ (o : Option Refusal).
      unless_refused o (λ n. encode_call n output answer) (encoded_call (encode_of version (segment_of segment) octets output) answer))
      (sym e)

  pub encode_passed : (s : Segment) → refusal (encode_tests segment answer) ≡ None → s ≡ segment_of segment
      → encoded_call (encode_of version s octets output) answer ≡ encode_call_of segment octets version output answer
  unfolding encode_call_of
  encode_passed s e q =
      ap (λ (x : Segment). encoded_call (encode_of version x octets output) answer) q
      ∙ ap
      (λ (o : Option Refusal).
      unless_refused o (λ n. encode_call n output answer) (encoded_call (encode_of version (segment_of segment) octets output) answer))
      (sym e)

-- ---- catkhize_decode

module _ (octets : List ℕ) (version : ℕ) (answer : List ℕ) where
  pub decode_refused : (r : Refusal) → refusal (decode_tests answer) ≡ Some r → decode_call (code_of r) answer ≡ decode_call_of octets version answer
  unfolding decode_call_of
  decode_refused r e = ap (λ (o : Option Refusal). unless_refused o (λ n. decode_call n answer) (decode_gives (told_of (decode_of version octets)) answer)) (sym e)

  pub decode_passed : (d : Told) → refusal (decode_tests answer) ≡ None → d ≡ told_of (decode_of version octets) → decode_gives d answer ≡ decode_call_of octets version answer
  unfolding decode_call_of
  decode_passed d e q =
      ap (λ (x : Told). decode_gives x answer) q
      ∙ ap (λ (o : Option Refusal). unless_refused o (λ n. decode_call n answer) (decode_gives (told_of (decode_of version octets)) answer)) (sym e)
