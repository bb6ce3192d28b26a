-- What it means that octets spell a value of a type: how the value is spelled, how it is read off the front of a list, and the strict
-- test, that spelling what is read gives the octets back. The laws hold for every type and width. Assumes nothing.
use Rattle.std.specs.Prelude.{◌≡◌, refl, Bool, true, false, ◌&&◌, ℕ, suc, ◌+◌, ◌-◌, ◌≤◌, eqb, get_or, set, take, drop}
use Rattle.std.proofs.Common.{sym, ap₂, ◌∙◌, add-one, arith, eq-eqb, length-append, length-drop, take-append-drop, drop_of_length-le, length-take-le, take_all, drop_at, take-add}
use Rattle.std.proofs.Math.Path.{ap}
use mathlib.Core.List.{List, [], ◌∷◌, ◌++◌, append-nil, append_assoc}
use Rattle.std.proofs.Math.ListN.{length}
use Rattle.std.proofs.lemmas.List.Edits.{sets}
use Rattle.std.proofs.Math.Seq.{sets-eq, take_at}
use Rattle.octets.specs.Laws.{sets_append}
use Rattle.octets.specs.Octets.{same_octets, same_true, same_refl}

-- the strict test of the first w octets of a list
unfoldable pub spells : {A : Type 0} → (A → List ℕ) → (List ℕ → A) → ℕ → List ℕ → Bool
spells spell read w l = same_octets (spell (read l)) (take w l)

-- a layout of w octets: what is spelled is as wide, also where it was read off any octets, and a value that fits is read back, whatever
-- octets stand behind it
pub record Layout {A : Type 0} (spell : A → List ℕ) (read : List ℕ → A) (w : ℕ) (Fits : A → Type 0) : Type 0 where
  pub wide : (x : A) → Fits x → length (spell x) ≡ w
  pub reads_wide : (l : List ℕ) → length (spell (read l)) ≡ w
  pub back : (x : A) → Fits x → (rest : List ℕ) → read (spell x ++ rest) ≡ x

-- ---- written part by part

-- a part of n octets and the part behind it
pub sets_then : (l : List ℕ) (at : ℕ) (a b : List ℕ) (n : ℕ) → length a ≡ n → sets (sets l at a) (at + n) b ≡ sets l at (a ++ b)
sets_then l at a b n e = ap (λ (k : ℕ). sets (sets l at a) (at + k) b) (sym e) ∙ sym (sets_append l at a b)

-- the same by the lists that code leaves one after another: b is put at m, behind the n octets of a
pub put_next : (l : List ℕ) (at : ℕ) (a b x y : List ℕ) (m n : ℕ) → x ≡ sets l at a → length a ≡ n → m ≡ at + n → y ≡ sets x m b → y ≡ sets l at (a ++ b)
put_next l at a b x y m n p e q r = r ∙ ap₂ (λ (z : List ℕ) (k : ℕ). sets z k b) p q ∙ sets_then l at a b n e

-- two octets and the part behind them
pub sets_two : (l : List ℕ) (at x y : ℕ) (b : List ℕ) → sets (set (set l at x) (at + 1) y) (at + 2) b ≡ sets l at (x ∷ y ∷ b)
sets_two l at x y b =
    let e : at + 2 ≡ suc (suc at) = omega arith in
    ap₂ (λ (m n : ℕ). sets (set (set l at x) m y) n b) (add-one at) e

-- the rest of a list, as a part of it that goes to the end
pub rest_of : (n : ℕ) (l : List ℕ) → take (length l - n) (drop n l) ≡ drop n l
rest_of n l = take_all (length l - n) (drop n l) (omega (arith, length-drop n l))

-- ---- compared part by part

pub same_append : (a b c d : List ℕ) → length a ≡ length c → same_octets (a ++ b) (c ++ d) ≡ (same_octets a c && same_octets b d)
unfolding same_octets
same_append [] b [] d h = refl
same_append [] b (y ∷ c) d h = absurd (omega arith)
same_append (x ∷ a) b [] d h = absurd (omega arith)
same_append (x ∷ a) b (y ∷ c) d h = go (eqb x y) (same_append a b c d (omega arith))
  where
    go : (t : Bool) → same_octets (a ++ b) (c ++ d) ≡ (same_octets a c && same_octets b d) → (t && same_octets (a ++ b) (c ++ d)) ≡ ((t && same_octets a c) && same_octets b d)
    go true e = e
    go false e = refl

-- a part of m octets, and the n octets behind it
pub same_then : (a b l : List ℕ) (m n : ℕ) → length a ≡ m → m ≤ length l → same_octets (a ++ b) (take (m + n) l) ≡ (same_octets a (take m l) && same_octets b (take n (drop m l)))
same_then a b l m n e h =
    ap (same_octets (a ++ b)) (take-add m n l)
    ∙ same_append a b (take m l) (take n (drop m l)) (e ∙ sym (length-take-le m l h))

-- ---- what holds of every layout

module _ {A : Type 0} {spell : A → List ℕ} {read : List ℕ → A} {w : ℕ} {Fits : A → Type 0} (layout : Layout spell read w Fits) where
  -- what is spelled passes the test
  pub spelled_ok : (x : A) → Fits x → (rest : List ℕ) → spells spell read w (spell x ++ rest) ≡ true
  unfolding spells
  spelled_ok x f rest = rw (layout.back x f rest, take_at (spell x) rest w (layout.wide x f)) (same_refl (spell x))

  -- what passes it is what is spelled
  pub ok_is : (l : List ℕ) → spells spell read w l ≡ true → spell (read l) ≡ take w l
  unfolding spells
  ok_is l h = same_true (spell (read l)) (take w l) h

  -- so what is read off octets that pass it changes none of them when it is put back
  pub put_back : (l : List ℕ) → w ≤ length l → spells spell read w l ≡ true → sets l 0 (spell (read l)) ≡ l
  put_back l h k =
      let e : length (spell (read l)) ≡ w = layout.reads_wide l in
      let z : 0 + length (spell (read l)) ≡ w = omega arith in
      sets-eq (spell (read l)) l 0 (omega arith) ∙ ap (λ (n : ℕ). spell (read l) ++ drop n l) z ∙ ap (λ (x : List ℕ). x ++ drop w l) (ok_is l k)
      ∙ take-append-drop w l

  -- what is put at the front of octets is what they then spell
  pub put_spells : (l : List ℕ) (x : A) (m : List ℕ) → w ≤ length l → Fits x → m ≡ sets l 0 (spell x) → (read m ≡ x) × (spells spell read w m ≡ true)
  put_spells l x m room f e =
      let n : length (spell x) ≡ w = layout.wide x f in
      let d : m ≡ spell x ++ drop (0 + length (spell x)) l = e ∙ sets-eq (spell x) l 0 (omega arith) in
      (ap read d ∙ layout.back x f _, ap (spells spell read w) d ∙ spelled_ok x f _)

  -- the test by code: what is read is put into as many other octets, which are then compared
  pub put_again : (l z m : List ℕ) (x : A) → length z ≡ w → x ≡ read l → m ≡ sets z 0 (spell x) → same_octets m (take w l) ≡ spells spell read w l
  unfolding spells
  put_again l z m x n p q =
      let k : length (spell x) ≡ w = ap (λ (y : A). length (spell y)) p ∙ layout.reads_wide l in
      let e : m ≡ spell x =
      q ∙ sets-eq (spell x) z 0 (omega arith)
      ∙ ap (λ (y : List ℕ). spell x ++ y) (drop_of_length-le z {i = 0 + length (spell x)} (omega arith))
      ∙ append-nil (spell x) in
      ap (λ (y : List ℕ). same_octets y (take w l)) (e ∙ ap spell p)

  -- the same, where what is read is spelled as an array
  pub spelled_again : (l m : List ℕ) (x : A) → x ≡ read l → m ≡ spell x → same_octets m (take w l) ≡ spells spell read w l
  unfolding spells
  spelled_again l m x p q = ap (λ (y : List ℕ). same_octets y (take w l)) (q ∙ ap spell p)

-- ---- layouts made of layouts

-- one octet
abbrev pub spell_octet : ℕ → List ℕ
spell_octet x = x ∷ []

abbrev pub read_octet : List ℕ → ℕ
read_octet l = get_or l 0 0

abbrev pub AnyOctet : ℕ → Type 0
AnyOctet x = Unit {0}

pub octet_layout : Layout spell_octet read_octet 1 AnyOctet
octet_layout = record { wide = λ x f. refl; reads_wide = λ l. refl; back = λ x f rest. refl }

-- an octet that is there passes its test
pub octet_spells : (l : List ℕ) → 1 ≤ length l → spells spell_octet read_octet 1 l ≡ true
unfolding spells same_octets
octet_spells [] h = absurd (omega arith)
octet_spells (x ∷ l) h = rw (eq-eqb x x refl)

-- two values, one behind the other
abbrev pub spell_both : {A B : Type 0} → (A → List ℕ) → (B → List ℕ) → A × B → List ℕ
spell_both spell spell' x = spell x.0 ++ spell' x.1

abbrev pub read_both : {A B : Type 0} → (List ℕ → A) → ℕ → (List ℕ → B) → List ℕ → A × B
read_both read w read' l = (read l, read' (drop w l))

module _ {A B : Type 0} {spell : A → List ℕ} {read : List ℕ → A} {w : ℕ} {Fits : A → Type 0} {spell' : B → List ℕ} {read' : List ℕ → B} {w' : ℕ} {Fits' : B → Type 0}
    (one : Layout spell read w Fits) (two : Layout spell' read' w' Fits') where
  pub both_layout : Layout (spell_both spell spell') (read_both read w read') (w + w') (λ x. Fits x.0 × Fits' x.1)
  both_layout =
      record {
        wide = λ x f. length-append (spell x.0) (spell' x.1) ∙ ap₂ (λ (m n : ℕ). m + n) (one.wide x.0 f.0) (two.wide x.1 f.1);
        reads_wide = λ l. length-append (spell (read l)) (spell' (read' (drop w l))) ∙ ap₂ (λ (m n : ℕ). m + n) (one.reads_wide l) (two.reads_wide (drop w l));
        back = λ x f rest.
            let e : (spell x.0 ++ spell' x.1) ++ rest ≡ spell x.0 ++ (spell' x.1 ++ rest) = append_assoc (spell x.0) (spell' x.1) rest in
            ap₂ {C = A × B} (λ (a : A) (b : B). (a, b)) (ap read e ∙ one.back x.0 f.0 (spell' x.1 ++ rest))
            (ap read' (ap (drop w) e ∙ drop_at (spell x.0) (spell' x.1 ++ rest) w (one.wide x.0 f.0)) ∙ two.back x.1 f.1 rest);
      }

  -- their test is that of each
  pub both_spells : (l : List ℕ) → w ≤ length l → spells (spell_both spell spell') (read_both read w read') (w + w') l ≡ (spells spell read w l && spells spell' read' w' (drop w l))
  unfolding spells
  both_spells l h = same_then (spell (read l)) (spell' (read' (drop w l))) l w w' (one.reads_wide l) h

-- the same octets for values of another type
module _ {A B : Type 0} {spell : A → List ℕ} {read : List ℕ → A} {w : ℕ} {Fits : A → Type 0} (layout : Layout spell read w Fits)
    (to : A → B) (from : B → A) (same : (b : B) → to (from b) ≡ b) where
  pub as_layout : (spell' : B → List ℕ) (read' : List ℕ → B) (Fits' : B → Type 0) → ((b : B) → spell' b ≡ spell (from b)) → ((l : List ℕ) → read' l ≡ to (read l))
      → ((b : B) → Fits' b → Fits (from b)) → ((l : List ℕ) → length (spell' (read' l)) ≡ w) → Layout spell' read' w Fits'
  as_layout spell' read' Fits' p q f n =
      record {
        wide = λ b g. ap length (p b) ∙ layout.wide (from b) (f b g);
        reads_wide = n;
        back = λ b g rest. ap (λ (s : List ℕ). read' (s ++ rest)) (p b) ∙ q (spell (from b) ++ rest) ∙ ap to (layout.back (from b) (f b g) rest) ∙ same b;
      }
