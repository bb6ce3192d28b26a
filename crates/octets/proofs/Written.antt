-- What a copy into a part of a list writes: `put` cites it. Assumes nothing.
use Rattle.std.proofs.Common.{◌≡◌, ℕ, List, length, take, ◌≤◌, ◌<◌, ◌+◌, ◌-◌, min, sym, ap, ◌∙◌, ⊎_elim, arith, length-take-le}
use Rattle.std.proofs.lemmas.Slice.{put_mid-paste}
use Rattle.std.proofs.lemmas.List.Edits.{sets}
use Rattle.std.proofs.Math.Seq.{paste}
use borrow.Rule.Slice.PartMut.{put_mid}
use Rattle.octets.specs.Laws.{le_or_lt, sets_past, sets_fitting, sets_paste}

-- with the place and the number cut to what is there, the part l[s..s + n] written over by the first n of xs is `sets`
pub sets_part : (l : List ℕ) (i : ℕ) (xs new : List ℕ) (s n : ℕ) → s ≡ min i (length l) → n ≡ min (length xs) (length l - s) → new ≡ take n xs → put_mid s (s + n - s) l new ≡ sets l i xs
sets_part l i xs new s n e f g =
    let k : n ≡ length (take n xs) = sym (length-take-le n xs (omega arith)) in
    put_mid-paste s (s + n - s) l new (take n xs) n g (omega arith) k
    ∙ ap (paste l s (take n xs)) k ∙ sym (sets_paste l s (take n xs) (omega arith))
    ∙ ap (λ (j : ℕ). sets l s (take j xs)) f ∙ sets_fitting l s xs
    ∙ ⊎_elim (λ (h : i ≤ length l). ap (λ (j : ℕ). sets l j xs) (omega arith)) (λ (h : length l < i). sets_past l s xs (omega arith) ∙ sym (sets_past l i xs (omega arith))) (le_or_lt i (length l))
