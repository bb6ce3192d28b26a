-- The layout of three numbers and an octet, 25 octets, of which both records of a plan have one. Assumes nothing.
use Rattle.std.specs.Prelude.{◌≡◌, refl, List, [], ◌∷◌, ◌++◌, ℕ, ◌+◌, ◌<◌, length, get_or, drop}
use Rattle.std.proofs.Common.{sym, ap, ◌∙◌, drop-drop, get_or-drop}
use Rattle.std.proofs.lemmas.List.Edits.{sets}
use Rattle.image.specs.Spelling.{Layout, spell_octet, read_octet, AnyOctet, octet_layout, spell_both, read_both, both_layout, as_layout, put_next}
use Rattle.image.specs.Numbers.{spell, number_of, number_layout}
use Rattle.plan_image.specs.declared.Row.{Row}

unfoldable pub row_image : Row → List ℕ
row_image r = spell 8 r.first ++ (spell 8 r.second ++ (spell 8 r.third ++ (r.octet ∷ [])))

unfoldable pub row_of : List ℕ → Row
row_of l = record { first = number_of 8 l; second = number_of 8 (drop 8 l); third = number_of 8 (drop 16 l); octet = get_or l 24 0 }

pub record RowFits (r : Row) : Type 0 where
  pub first : r.first < 18446744073709551616
  pub second : r.second < 18446744073709551616
  pub third : r.third < 18446744073709551616

-- ---- laws

abbrev Fit : ℕ → Type 0
Fit x = x < 18446744073709551616

abbrev parts : Layout (spell_both (spell 8) (spell_both (spell 8) (spell_both (spell 8) spell_octet))) (read_both (number_of 8) 8 (read_both (number_of 8) 8 (read_both (number_of 8) 8 read_octet))) 25
    (λ x. Fit x.0 × (Fit x.1.0 × (Fit x.1.1.0 × AnyOctet x.1.1.1)))
parts = both_layout (number_layout 8) (both_layout (number_layout 8) (both_layout (number_layout 8) octet_layout))

abbrev row_from : ℕ × (ℕ × (ℕ × ℕ)) → Row
row_from x = record { first = x.0; second = x.1.0; third = x.1.1.0; octet = x.1.1.1 }

abbrev row_to : Row → ℕ × (ℕ × (ℕ × ℕ))
row_to r = (r.first, (r.second, (r.third, r.octet)))

row_reads : (l : List ℕ) → row_of l ≡ row_from (read_both (number_of 8) 8 (read_both (number_of 8) 8 (read_both (number_of 8) 8 read_octet)) l)
unfolding row_of
row_reads l = sym (simp (drop-drop, get_or-drop))

pub row_wide : (r : Row) → length (row_image r) ≡ 25
unfolding row_image spell
row_wide r = refl

pub row_layout : Layout row_image row_of 25 RowFits
unfolding row_image
row_layout =
    as_layout parts row_from row_to (λ r. refl) row_image row_of RowFits (λ r. refl) row_reads (λ r f. (f.first, (f.second, (f.third, tt))))
    (λ l. row_wide (row_of l))

-- read one after another, from a place on
pub row_read : (l : List ℕ) (at a b c : ℕ) → a ≡ number_of 8 (drop at l) → b ≡ number_of 8 (drop (at + 8) l) → c ≡ number_of 8 (drop (at + 16) l)
    → record { first = a; second = b; third = c; octet = get_or l (at + 24) 0 } ≡ row_of (drop at l)
unfolding row_of
row_read l at a b c p q r =
    let e : b ≡ number_of 8 (drop 8 (drop at l)) = q ∙ ap (number_of 8) (sym (drop-drop 8 at l)) in
    let f : c ≡ number_of 8 (drop 16 (drop at l)) = r ∙ ap (number_of 8) (sym (drop-drop 16 at l)) in
    let g : get_or l (at + 24) 0 ≡ get_or (drop at l) 24 0 = sym (get_or-drop at l 24 0) in
    λ i. record { first = p i; second = e i; third = f i; octet = g i }

-- written one after another
pub row_put : (l x y z t : List ℕ) (at : ℕ) (r : Row) → x ≡ sets l at (spell 8 r.first) → y ≡ sets x (at + 8) (spell 8 r.second) → z ≡ sets y (at + 16) (spell 8 r.third)
    → t ≡ sets z (at + 24) (r.octet ∷ [])
    → t ≡ sets l at (row_image r)
unfolding row_image spell
row_put l x y z t at r p q s u =
    let a : List ℕ = spell 8 r.first in
    let b : List ℕ = spell 8 r.second in
    let c : List ℕ = spell 8 r.third in
    let two : y ≡ sets l at (a ++ b) = put_next l at a b x y (at + 8) 8 p refl refl q in
    let three : z ≡ sets l at (a ++ b ++ c) = put_next l at (a ++ b) c y z (at + 16) 16 two refl refl s in
    put_next l at (a ++ b ++ c) (r.octet ∷ []) z t (at + 24) 24 three refl refl u
