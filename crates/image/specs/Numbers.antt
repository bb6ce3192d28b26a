-- Numbers spelled by a given number of octets, the highest first, and the laws that bring them back, for every width. Assumes nothing.
use Rattle.std.specs.Prelude.{◌≡◌, refl, true, List, [], ◌∷◌, ◌++◌, ℕ, zero, suc, ◌+◌, ◌*◌, ◌/◌, ◌%◌, ◌^◌, ◌≤◌, ◌<◌, length, get_or, take, drop}
use Rattle.std.proofs.Common.{sym, ap, ◌∙◌, append-nil, append_assoc, add-zero, add-suc, suc-add, add-one, arith, length-append, take_all, take_at, drop-cons}
use Rattle.std.proofs.Math.Nat.{pow-succ'}
use Rattle.octets.specs.Octets.{same_eq}
use Rattle.image.specs.Spelling.{spells, Layout}

-- the last n octets of a number
unfoldable pub spell : ℕ → ℕ → List ℕ
spell zero x = []
spell (suc n) x = spell n (x / 256) ++ (x % 256 ∷ [])

-- the number that octets spell, behind those that were read
unfoldable pub value_from : ℕ → List ℕ → ℕ
value_from a [] = a
value_from a (x ∷ xs) = value_from (256 * a + x) xs

abbrev pub value : List ℕ → ℕ
value l = value_from 0 l

-- the number of w octets that a list begins with
abbrev pub number_of : ℕ → List ℕ → ℕ
number_of w l = value (take w l)

-- ---- laws

pub length_spell : (n x : ℕ) → length (spell n x) ≡ n
unfolding spell
length_spell zero x = refl
length_spell (suc n) x = length-append (spell n (x / 256)) (x % 256 ∷ []) ∙ omega (arith, length_spell n (x / 256))

value_snoc : (a : ℕ) (l : List ℕ) (x : ℕ) → value_from a (l ++ (x ∷ [])) ≡ 256 * value_from a l + x
unfolding value_from
value_snoc a [] x = refl
value_snoc a (y ∷ l) x = value_snoc (256 * a + y) l x

-- a number that fits is the one that its octets spell
pub value_spell : (n x : ℕ) → x < 256 ^ n → value (spell n x) ≡ x
unfolding spell value_from
value_spell zero x h = omega arith
value_spell (suc n) x h =
    let p : 256 ^ suc n ≡ 256 * 256 ^ n = pow-succ' 256 n in
    let e : value (spell n (x / 256)) ≡ x / 256 = value_spell n (x / 256) (omega arith) in
    value_snoc 0 (spell n (x / 256)) (x % 256) ∙ (omega arith)

-- read off the front of a list
pub number_back : (n x : ℕ) (rest : List ℕ) → x < 256 ^ n → number_of n (spell n x ++ rest) ≡ x
number_back n x rest h = ap value (take_at (spell n x) rest n (length_spell n x)) ∙ value_spell n x h

-- octets: numbers below 256
abbrev pub Octets : List ℕ → Type 0
Octets [] = Unit {0}
Octets (x ∷ xs) = (x < 256) × Octets xs

spell_from : (k a : ℕ) (xs : List ℕ) → Octets xs → spell (k + length xs) (value_from a xs) ≡ spell k a ++ xs
unfolding spell value_from
spell_from k a [] f = ap (λ (n : ℕ). spell n a) (add-zero k) ∙ sym (append-nil (spell k a))
spell_from k a (x ∷ xs) f =
    ap (λ (n : ℕ). spell n (value_from (256 * a + x) xs)) (add-suc k (length xs) ∙ sym (suc-add k (length xs)))
    ∙ spell_from (suc k) (256 * a + x) xs f.1 ∙ ap (λ (l : List ℕ). l ++ xs) last ∙ append_assoc (spell k a) (x ∷ []) xs
  where
    last : spell (suc k) (256 * a + x) ≡ spell k a ++ (x ∷ [])
    last =
        let h : x < 256 = f.0 in
        let q : (256 * a + x) / 256 ≡ a = omega arith in
        let r : (256 * a + x) % 256 ≡ x = omega arith in
        rw (q, r)

-- octets are those of the number that they spell
pub spell_value : (l : List ℕ) → Octets l → spell (length l) (value l) ≡ l
unfolding spell
spell_value l f =
    let e : length l ≡ 0 + length l = omega arith in
    ap (λ (n : ℕ). spell n (value l)) e ∙ spell_from 0 0 l f

-- what code says of a number that it puts together of octets
pub joined : (l : List ℕ) (x : ℕ) → Octets l → x ≡ value l → (x ≡ value l) × (spell (length l) x ≡ l)
joined l x o e = (e, ap (spell (length l)) e ∙ spell_value l o)

-- a number of n octets
pub number_layout : (n : ℕ) → Layout (spell n) (number_of n) n (λ x. x < 256 ^ n)
number_layout n = record { wide = λ x f. length_spell n x; reads_wide = λ l. length_spell n (number_of n l); back = λ x f rest. number_back n x rest f }

-- what code reads: the number that a list begins with, whose octets are those of the list
pub record IsNumber (n : ℕ) (l : List ℕ) (x : ℕ) : Type 0 where
  pub reads : x ≡ number_of n l
  pub passes : spells (spell n) (number_of n) n l ≡ true

-- of the octets that a list begins with
pub number_read : (n : ℕ) (l : List ℕ) (x : ℕ) → x ≡ value (take n l) → spell n x ≡ take n l → IsNumber n l x
unfolding spells
number_read n l x p q =
    record { reads = p; passes = same_eq (spell n (number_of n l)) (take n l) (ap (spell n) (sym p) ∙ q) }

-- ---- numbers that code puts together of octets

-- the octets from at + i on, n of them
abbrev pub octets_from : ℕ → ℕ → ℕ → List ℕ → List ℕ
octets_from zero i at l = []
octets_from (suc n) i at l = get_or l (at + i) 0 ∷ octets_from n (suc i) at l

take_octets : (n i at : ℕ) (l : List ℕ) → at + i + n ≤ length l → take n (drop (at + i) l) ≡ octets_from n i at l
take_octets zero i at l h = refl
take_octets (suc n) i at l h =
    ap (take (suc n)) (drop-cons l (at + i) 0 (omega arith)) ∙ ap (λ (k : ℕ). get_or l (at + i) 0 ∷ take n (drop k l)) (sym (add-suc at i))
    ∙ ap (λ x. get_or l (at + i) 0 ∷ x) (take_octets n (suc i) at l (rw add-suc (omega arith)))

-- all elements of a list, listed
pub listed : (n : ℕ) (l : List ℕ) → length l ≡ n → octets_from n 0 0 l ≡ l
listed n l e = sym (take_octets n 0 0 l (omega arith)) ∙ take_all n l (omega arith)

-- a number whose octets were read one by one, the first at `at`
pub number_at : (n at : ℕ) (l : List ℕ) (x : ℕ) → at + suc n ≤ length l → x ≡ value (get_or l at 0 ∷ octets_from n 1 at l) → spell (suc n) x ≡ get_or l at 0 ∷ octets_from n 1 at l
    → IsNumber (suc n) (drop at l) x
number_at n at l x h p q =
    let e : take (suc n) (drop at l) ≡ get_or l at 0 ∷ octets_from n 1 at l =
    ap (take (suc n)) (drop-cons l at 0 (omega arith)) ∙ ap (λ (k : ℕ). get_or l at 0 ∷ take n (drop k l)) (sym (add-one at))
    ∙ ap (λ x. get_or l at 0 ∷ x) (take_octets n 1 at l (omega arith)) in
    number_read (suc n) (drop at l) x (p ∙ ap value (sym e)) (q ∙ sym e)
