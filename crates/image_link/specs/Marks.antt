-- The layout of four words of marks, 32 octets: the words one behind another, entry 0 being the lowest bit of the first. Assumes nothing.
use Rattle.std.specs.Prelude.{◌≡◌, Bool, true, ◌&&◌, length, get_or, take, drop}
use Rattle.std.proofs.Math.Path.{refl}
use Rattle.std.proofs.Common.{sym, ap, ap₂, ◌∙◌, arith, length-drop, drop-drop}
use mathlib.Core.List.{List, [], ◌∷◌, ◌++◌}
use Prim.Native.Nat.{ℕ, ◌+◌, ◌-◌, ◌≤◌, ◌<◌}
use Rattle.std.proofs.Math.Seq.{sets}
use Rattle.octets.specs.Octets.{same_octets}
use Rattle.words.specs.declared.Words.{Words}
use Rattle.words.specs.Laws.{list_of_four}
use Rattle.image.specs.Spelling.{spells, Layout, spell_both, read_both, both_layout, both_spells, put_next}
use Rattle.image.specs.Numbers.{spell, number_of, number_layout}

unfoldable pub marks_image : Words → List ℕ
marks_image w = spell 8 (get_or w.words 0 0) ++ (spell 8 (get_or w.words 1 0) ++ (spell 8 (get_or w.words 2 0) ++ spell 8 (get_or w.words 3 0)))

unfoldable pub marks_of : List ℕ → Words
marks_of l = record { words = number_of 8 l ∷ number_of 8 (drop 8 l) ∷ number_of 8 (drop 16 l) ∷ number_of 8 (drop 24 l) ∷ [] }

pub record MarksFit (w : Words) : Type 0 where
  pub four : length w.words ≡ 4
  pub first : get_or w.words 0 0 < 18446744073709551616
  pub second : get_or w.words 1 0 < 18446744073709551616
  pub third : get_or w.words 2 0 < 18446744073709551616
  pub fourth : get_or w.words 3 0 < 18446744073709551616

abbrev Fit : ℕ → Type 0
Fit x = x < 18446744073709551616

abbrev two_words : Layout (spell_both (spell 8) (spell 8)) (read_both (number_of 8) 8 (number_of 8)) 16 (λ x. Fit x.0 × Fit x.1)
two_words = both_layout (number_layout 8) (number_layout 8)

abbrev three_words : Layout (spell_both (spell 8) (spell_both (spell 8) (spell 8))) (read_both (number_of 8) 8 (read_both (number_of 8) 8 (number_of 8))) 24 (λ x. Fit x.0 × (Fit x.1.0 × Fit x.1.1))
three_words = both_layout (number_layout 8) two_words

abbrev four_words : Layout (spell_both (spell 8) (spell_both (spell 8) (spell_both (spell 8) (spell 8)))) (read_both (number_of 8) 8 (read_both (number_of 8) 8 (read_both (number_of 8) 8 (number_of 8)))) 32 (λ x. Fit x.0 × (Fit x.1.0 × (Fit x.1.1.0 × Fit x.1.1.1)))
four_words = both_layout (number_layout 8) three_words

abbrev words_from : ℕ × (ℕ × (ℕ × ℕ)) → Words
words_from x = record { words = x.0 ∷ x.1.0 ∷ x.1.1.0 ∷ x.1.1.1 ∷ [] }

abbrev words_to : Words → ℕ × (ℕ × (ℕ × ℕ))
words_to w = (get_or w.words 0 0, (get_or w.words 1 0, (get_or w.words 2 0, get_or w.words 3 0)))

marks_reads : (l : List ℕ) → marks_of l ≡ words_from (read_both (number_of 8) 8 (read_both (number_of 8) 8 (read_both (number_of 8) 8 (number_of 8))) l)
unfolding marks_of
marks_reads l =
    let e : drop 16 l ≡ drop 8 (drop 8 l) = sym (drop-drop 8 8 l) in
    let f : drop 24 l ≡ drop 8 (drop 8 (drop 8 l)) = sym (ap (drop 8) (drop-drop 8 8 l) ∙ drop-drop 8 16 l) in
    ap₂ (λ (x y : List ℕ). words_from (number_of 8 l, (number_of 8 (drop 8 l), (number_of 8 x, number_of 8 y)))) e f

pub marks_wide : (w : Words) → length (marks_image w) ≡ 32
unfolding marks_image spell
marks_wide w = refl

pub marks_layout : Layout marks_image marks_of 32 MarksFit
unfolding marks_image
marks_layout =
    record {
      wide = λ w f. marks_wide w;
      reads_wide = λ l. marks_wide (marks_of l);
      back = λ w f rest. marks_reads (marks_image w ++ rest) ∙ ap words_from (four_words.back (words_to w) (f.first, (f.second, (f.third, f.fourth))) rest)
          ∙ ap (λ (l : List ℕ). record { words = l }) (sym (list_of_four w.words f.four));
    }

abbrev passes : List ℕ → Bool
passes l = spells (spell 8) (number_of 8) 8 l

-- octets always spell marks
pub marks_spells : (l : List ℕ) → 32 ≤ length l → passes l ≡ true → passes (drop 8 l) ≡ true → passes (drop 16 l) ≡ true → passes (drop 24 l) ≡ true
    → spells marks_image marks_of 32 l ≡ true
unfolding marks_image spells
marks_spells l h p q r s =
    let e : drop 8 (drop 8 l) ≡ drop 16 l = drop-drop 8 8 l in
    let f : drop 8 (drop 8 (drop 8 l)) ≡ drop 24 l = ap (drop 8) (drop-drop 8 8 l) ∙ drop-drop 8 16 l in
    let m : length (drop 8 l) ≡ length l - 8 = length-drop 8 l in
    let n : length (drop 8 (drop 8 l)) ≡ length l - 16 = ap length e ∙ length-drop 16 l in
    ap (λ (w : Words). same_octets (marks_image w) (take 32 l)) (marks_reads l) ∙ both_spells (number_layout 8) three_words l (omega arith)
    ∙ both_true p (both_spells (number_layout 8) two_words (drop 8 l) (omega arith)
    ∙ both_true q (both_spells (number_layout 8) (number_layout 8) (drop 8 (drop 8 l)) (omega arith) ∙ both_true (ap passes e ∙ r) (ap passes f ∙ s)))
  where
    both_true : {a b : Bool} → a ≡ true → b ≡ true → (a && b) ≡ true
    both_true p q = rw (p, q)

-- written one word after another
module _ (l : List ℕ) (at : ℕ) (w : Words) (x y z t : List ℕ) where
  pub marks_put : x ≡ sets l at (spell 8 (get_or w.words 0 0)) → y ≡ sets x (at + 8) (spell 8 (get_or w.words 1 0)) → z ≡ sets y (at + 16) (spell 8 (get_or w.words 2 0)) → t ≡ sets z (at + 24) (spell 8 (get_or w.words 3 0))
      → t ≡ sets l at (marks_image w)
  unfolding marks_image spell
  marks_put p q r s =
      let a : List ℕ = spell 8 (get_or w.words 0 0) in
      let b : List ℕ = spell 8 (get_or w.words 1 0) in
      let c : List ℕ = spell 8 (get_or w.words 2 0) in
      let two : y ≡ sets l at (a ++ b) = put_next l at a b x y (at + 8) 8 p refl refl q in
      let three : z ≡ sets l at (a ++ b ++ c) = put_next l at (a ++ b) c y z (at + 16) 16 two refl refl r in
      put_next l at (a ++ b ++ c) (spell 8 (get_or w.words 3 0)) z t (at + 24) 24 three refl refl s
