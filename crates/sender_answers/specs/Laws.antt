-- The law by which code writes SUBMISSION. Assumes nothing.
use Rattle.std.specs.Prelude.{◌≡◌, refl, List, [], ◌∷◌, ◌++◌, ℕ, length}
use Rattle.std.proofs.Common.{sym, ◌∙◌, append_assoc, arith, length-append}
use Rattle.std.proofs.lemmas.List.Edits.{sets}
use Rattle.sender.specs.declared.Offered.{Offered}
use Rattle.image.specs.Spelling.{put_next}
use Rattle.image.specs.Numbers.{spell, length_spell}
use Rattle.image.specs.Segments.{head_image, HeadFits, head_layout}
use Rattle.codec_c.specs.Calls.{part_image}
use Rattle.codec_c.specs.Laws.{sets_whole}
use Rattle.sender_answers.specs.Answers.{submission_image}

-- its five parts, written one behind the other over as many octets
pub submission_spelled : (o : Offered) (z u v w x y : List ℕ) → length z ≡ 48 → HeadFits o.part.head → u ≡ sets z 0 (spell 8 o.number) → v ≡ sets u 8 (spell 8 o.ticket)
    → w ≡ sets v 16 (o.index ∷ []) → x ≡ sets w 17 (head_image o.part.head) → y ≡ sets x 40 (spell 8 o.part.offset) → y ≡ submission_image o
unfolding submission_image part_image
submission_spelled o z u v w x y e f p q r s t =
    let a : List ℕ = spell 8 o.number in
    let b : List ℕ = spell 8 o.ticket in
    let d : List ℕ = o.index ∷ [] in
    let h : List ℕ = head_image o.part.head in
    let n : List ℕ = spell 8 o.part.offset in
    let la : length a ≡ 8 = length_spell 8 o.number in
    let lb : length b ≡ 8 = length_spell 8 o.ticket in
    let lh : length h ≡ 23 = head_layout.wide o.part.head f in
    let ln : length n ≡ 8 = length_spell 8 o.part.offset in
    let l2 : length (a ++ b) ≡ 16 = length-append a b ∙ omega arith in
    let l3 : length (a ++ b ++ d) ≡ 17 = length-append (a ++ b) d ∙ omega arith in
    let l4 : length (a ++ b ++ d ++ h) ≡ 40 = length-append (a ++ b ++ d) h ∙ omega arith in
    let l5 : length (a ++ b ++ d ++ h ++ n) ≡ 48 = length-append (a ++ b ++ d ++ h) n ∙ omega arith in
    let two : v ≡ sets z 0 (a ++ b) = put_next z 0 a b u v 8 8 p la refl q in
    let three : w ≡ sets z 0 (a ++ b ++ d) = put_next z 0 (a ++ b) d v w 16 16 two l2 refl r in
    let four : x ≡ sets z 0 (a ++ b ++ d ++ h) = put_next z 0 (a ++ b ++ d) h w x 17 17 three l3 refl s in
    let five : y ≡ sets z 0 (a ++ b ++ d ++ h ++ n) = put_next z 0 (a ++ b ++ d ++ h) n x y 40 40 four l4 refl t in
    five ∙ sets_whole z (a ++ b ++ d ++ h ++ n) (e ∙ sym l5) ∙ simp append_assoc
