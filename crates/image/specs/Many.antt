-- Values of one type, each spelled by w octets, one behind another: how they are spelled and read, the strict test of each, and the turns
-- of the loops that do so. Assumes nothing.
use Rattle.std.specs.Prelude.{◌≡◌, Bool, true, false, ◌&&◌, get_or, set}
use Rattle.std.proofs.Math.Path.{refl, ap, ap₂}
use Rattle.std.proofs.Common.{sym, ◌∙◌, ⊎_elim, eq-or-lt_of_le, add-one, length-take-le, take_all, take-suc-set, get_or-take, drop-drop}
use mathlib.Core.List.{List, [], ◌∷◌, ◌++◌, append-nil, append_assoc}
use Prim.Native.Nat.{ℕ, zero, suc, ◌+◌, ◌*◌, ◌≤◌, ◌<◌}
use Rattle.std.proofs.Math.Nat.{mul-suc}
use native.Mathlib.Omega.{arith}
use Rattle.std.proofs.Math.ListN.{length, take, drop, length-append}
use Rattle.std.proofs.lemmas.List.Edits.{sets}
use Rattle.std.proofs.Math.Seq.{take-suc, drop_at}
use Rattle.octets.specs.Octets.{same_octets}
use Rattle.image.specs.Spelling.{spells, Layout, sets_then, same_then}

unfoldable pub spell_all : {A : Type 0} → (A → List ℕ) → List A → List ℕ
spell_all spell [] = []
spell_all spell (x ∷ xs) = spell x ++ spell_all spell xs

unfoldable pub read_all : {A : Type 0} → (List ℕ → A) → ℕ → ℕ → List ℕ → List A
read_all read w zero l = []
read_all read w (suc n) l = read l ∷ read_all read w n (drop w l)

-- each of the first n passes its test
unfoldable pub all_pass : (List ℕ → Bool) → ℕ → ℕ → List ℕ → Bool
all_pass ok w zero l = true
all_pass ok w (suc n) l = all_pass ok w n l && ok (drop (w * n) l)

-- so many values, each of which fits
pub record AllFit {A : Type 0} (Fits : A → Type 0) (n : ℕ) (d : A) (xs : List A) : Type 0 where
  pub many : length xs ≡ n
  pub each : (k : ℕ) → k < n → Fits (get_or xs k d)

-- ---- spelling

module _ {A : Type 0} (spell : A → List ℕ) where
  pub all_append : (xs ys : List A) → spell_all spell (xs ++ ys) ≡ spell_all spell xs ++ spell_all spell ys
  unfolding spell_all
  all_append [] ys = refl
  all_append (x ∷ xs) ys = rw (all_append xs ys, append_assoc)

  -- one value more
  pub spell_more : (xs : List A) (i : ℕ) (d : A) → i < length xs → spell_all spell (take (i + 1) xs) ≡ spell_all spell (take i xs) ++ spell (get_or xs i d)
  unfolding spell_all
  spell_more xs i d h =
      ap (spell_all spell) (ap (λ (k : ℕ). take k xs) (add-one i) ∙ take-suc xs i d h)
      ∙ all_append (take i xs) (get_or xs i d ∷ [])
      ∙ ap (λ (x : List ℕ). spell_all spell (take i xs) ++ x) (append-nil (spell (get_or xs i d)))

  pub spell_none : (l : List ℕ) (at : ℕ) (xs : List A) → l ≡ sets l at (spell_all spell (take 0 xs))
  unfolding spell_all
  spell_none l at xs = refl

  module _ (w : ℕ) (d : A) where
    pub all_wide : (xs : List A) → ((k : ℕ) → k < length xs → length (spell (get_or xs k d)) ≡ w) → length (spell_all spell xs) ≡ w * length xs
    unfolding spell_all
    all_wide [] f = omega arith
    all_wide (x ∷ xs) f =
        let e : length (spell_all spell xs) ≡ w * length xs = all_wide xs (λ k h. f (suc k) (omega arith)) in
        let a : length (spell x) ≡ w = f 0 (omega arith) in
        let m : w * suc (length xs) ≡ w * length xs + w = mul-suc w (length xs) in
        length-append (spell x) (spell_all spell xs) ∙ (omega arith)

    -- a turn of the loop that writes them from a place on
    pub put_turn : (l : List ℕ) (at : ℕ) (xs : List A) (i : ℕ) → ((k : ℕ) → k < length xs → length (spell (get_or xs k d)) ≡ w) → i < length xs
        → sets (sets l at (spell_all spell (take i xs))) (at + w * i) (spell (get_or xs i d)) ≡ sets l at (spell_all spell (take (i + 1) xs))
    put_turn l at xs i f h =
        let n : length (take i xs) ≡ i = length-take-le i xs (omega arith) in
        let e : length (spell_all spell (take i xs)) ≡ w * i =
        all_wide (take i xs) (λ k q. ap (λ (x : A). length (spell x)) (get_or-take i xs k d (omega arith)) ∙ f k (omega arith)) ∙ ap (λ (k : ℕ). w * k) n in
        sets_then l at (spell_all spell (take i xs)) (spell (get_or xs i d)) (w * i) e ∙ ap (sets l at) (sym (spell_more xs i d h))

-- ---- reading

module _ {A : Type 0} (read : List ℕ → A) (w : ℕ) where
  pub read_many : (n : ℕ) (l : List ℕ) → length (read_all read w n l) ≡ n
  unfolding read_all
  read_many zero l = refl
  read_many (suc n) l = ap suc (read_many n (drop w l))

  -- one value more
  pub read_more : (n : ℕ) (l : List ℕ) → read_all read w (suc n) l ≡ read_all read w n l ++ (read (drop (w * n) l) ∷ [])
  unfolding read_all
  read_more zero l =
      let e : w * 0 ≡ 0 = omega arith in
      ap (λ (k : ℕ). read (drop k l) ∷ []) (sym e)
  read_more (suc n) l =
      let e : w + w * n ≡ w * suc n = omega (arith, mul-suc w n) in
      ap (λ x. read l ∷ x) (read_more n (drop w l))
      ∙ ap (λ (x : List ℕ). read_all read w (suc n) l ++ (read x ∷ [])) (drop-drop (w * n) w l ∙ ap (λ (k : ℕ). drop k l) e)

  pub read_none : (l : List ℕ) (xs : List A) → take 0 xs ≡ read_all read w 0 l
  unfolding read_all
  read_none l xs = refl

  -- a turn of the loop that reads them
  pub get_turn : (l : List ℕ) (xs : List A) (i : ℕ) (x : A) → i < length xs → take i xs ≡ read_all read w i l → x ≡ read (drop (w * i) l)
      → take (i + 1) (set xs i x) ≡ read_all read w (i + 1) l
  get_turn l xs i x h p q = rw (add-one, take-suc-set xs i x h, p, q) (sym (read_more i l))

  pub get_last : (n : ℕ) (l : List ℕ) (xs : List A) (i : ℕ) → i ≡ n → length xs ≡ n → take i xs ≡ read_all read w i l → xs ≡ read_all read w n l
  get_last n l xs i e m h = sym (take_all i xs (omega arith)) ∙ h ∙ ap (λ (k : ℕ). read_all read w k l) e

-- ---- testing

pub pass_none : (ok : List ℕ → Bool) (w : ℕ) (l : List ℕ) → true ≡ all_pass ok w 0 l
unfolding all_pass
pass_none ok w l = refl

-- a turn of the loop that tests them
pub pass_turn : (ok : List ℕ → Bool) (w : ℕ) (l : List ℕ) (i : ℕ) (b t : Bool) → b ≡ all_pass ok w i l → t ≡ ok (drop (w * i) l) → (b && t) ≡ all_pass ok w (i + 1) l
unfolding all_pass
pass_turn ok w l i b t p q = rw (add-one, p, q)

-- one that fails
pub pass_fails : (ok : List ℕ → Bool) (w n : ℕ) (l : List ℕ) (i : ℕ) → i < n → ok (drop (w * i) l) ≡ false → all_pass ok w n l ≡ false
unfolding all_pass
pass_fails ok w zero l i h f = absurd (omega arith)
pass_fails ok w (suc n) l i h f =
    ⊎_elim (λ (e : i ≡ n). ap (λ (t : Bool). all_pass ok w n l && t) (ap (λ (k : ℕ). ok (drop (w * k) l)) (sym e) ∙ f) ∙ none (all_pass ok w n l))
    (λ (q : i < n). ap (λ (t : Bool). t && ok (drop (w * n) l)) (pass_fails ok w n l i q f)) (eq-or-lt_of_le (le i n h))
  where
    none : (b : Bool) → (b && false) ≡ false
    none true = refl
    none false = refl

    le : (i n : ℕ) → i < suc n → i ≤ n
    le i n h = omega arith

-- values that always pass
pub pass_all : (ok : List ℕ → Bool) (w n : ℕ) (l : List ℕ) → ((i : ℕ) → i < n → ok (drop (w * i) l) ≡ true) → all_pass ok w n l ≡ true
unfolding all_pass
pass_all ok w zero l f = refl
pass_all ok w (suc n) l f = rw (pass_all ok w n l (λ i h. f i (omega arith)), f n (omega arith))

-- ---- what is spelled is read back

module _ {A : Type 0} {spell : A → List ℕ} {read : List ℕ → A} {w : ℕ} {Fits : A → Type 0} (layout : Layout spell read w Fits) (d : A) where
  all_back : (n : ℕ) (xs : List A) → AllFit Fits n d xs → (rest : List ℕ) → read_all read w n (spell_all spell xs ++ rest) ≡ xs
  unfolding read_all spell_all
  all_back zero [] f rest = refl
  all_back zero (x ∷ xs) f rest = let e = f.many in absurd (omega arith)
  all_back (suc n) [] f rest = let e = f.many in absurd (omega arith)
  all_back (suc n) (x ∷ xs) f rest =
      let m = f.many in
      let p : Fits x = f.each 0 (omega arith) in
      let q : AllFit Fits n d xs = record { many = omega arith; each = λ k h. f.each (suc k) (omega arith) } in
      let s : (spell x ++ spell_all spell xs) ++ rest ≡ spell x ++ (spell_all spell xs ++ rest) = append_assoc (spell x) (spell_all spell xs) rest in
      ap₂ {C = List A} ◌∷◌ (ap read s ∙ layout.back x p (spell_all spell xs ++ rest))
      (ap (read_all read w n) (ap (drop w) s ∙ drop_at (spell x) (spell_all spell xs ++ rest) w (layout.wide x p)) ∙ all_back n xs q rest)

  reads_all_wide : (n : ℕ) (l : List ℕ) → length (spell_all spell (read_all read w n l)) ≡ w * n
  unfolding read_all spell_all
  reads_all_wide zero l = omega arith
  reads_all_wide (suc n) l =
      length-append (spell (read l)) (spell_all spell (read_all read w n (drop w l)))
      ∙ omega (arith, layout.reads_wide l, reads_all_wide n (drop w l), mul-suc w n)

  -- n values are a layout of w * n octets
  pub all_layout : (n : ℕ) → Layout (spell_all spell) (read_all read w n) (w * n) (AllFit Fits n d)
  all_layout n =
      record {
        wide = λ xs f.
            let m = f.many in
            all_wide spell w d xs (λ k h. layout.wide (get_or xs k d) (f.each k (omega arith))) ∙ ap (λ (k : ℕ). w * k) m;
        reads_wide = reads_all_wide n;
        back = all_back n;
      }

  -- their strict test is that of each
  pub all_spells : (n : ℕ) (l : List ℕ) → w * n ≤ length l → spells (spell_all spell) (read_all read w n) (w * n) l ≡ all_pass (spells spell read w) w n l
  unfolding spells all_pass same_octets read_all spell_all
  all_spells zero l h =
      let e : w * 0 ≡ 0 = omega arith in
      ap (λ (k : ℕ). same_octets [] (take k l)) e
  all_spells (suc n) l h =
      let k : w * n + w ≡ w * suc n = omega (arith, mul-suc w n) in
      let room : w * n ≤ length l = omega arith in
      let x : A = read (drop (w * n) l) in
      let front : List ℕ = spell_all spell (read_all read w n l) in
      let e : spell_all spell (read_all read w (suc n) l) ≡ front ++ spell x =
      ap (spell_all spell) (read_more read w n l) ∙ all_append spell (read_all read w n l) (x ∷ []) ∙ ap (λ (y : List ℕ). front ++ y) (append-nil (spell x)) in
      ap₂ (λ (a : List ℕ) (m : ℕ). same_octets a (take m l)) e (sym k) ∙ same_then front (spell x) l (w * n) w (reads_all_wide n l) room
      ∙ ap (λ (t : Bool). t && same_octets (spell x) (take w (drop (w * n) l))) (all_spells n l room)
