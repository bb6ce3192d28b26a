-- Fields side by side are one number, and its octets are its digits in base 256. Assumes nothing.
use mathlib.Core.Path.{◌≡◌, refl, sym, ap, ◌∙◌}
use mathlib.Core.List.{List, [], ◌∷◌, ◌++◌, append-nil, append_assoc}
use Prim.Native.Nat.{ℕ, zero, suc, ◌+◌, ◌*◌, ◌/◌, ◌%◌, ◌<◌, ◌^◌}
use native.Mathlib.Nat.{add-zero, add-suc, pow-suc, mul_assoc, div-div-eq-div-mul}
use lib.Pow.{pow-add}
use native.Mathlib.Omega.{arith}
use lib.Arith.{digits_lt}
use lib.ListN.{take}
use lib.Seq.{take_at}
use mathlib.Core.Logic.{◌↔◌}
use Rattle.tsar.specs.Layout.{Field, bits_of, bits, octets_of}

-- two fields side by side are one field
pub join : (a x b y : ℕ) → y < 2 ^ b → bits_of a x ++ bits_of b y ≡ bits_of (a + b) (x * 2 ^ b + y)
unfolding bits_of
join a x zero y h =
    let e : x * 1 + y ≡ x = omega arith in
    append-nil (bits_of a x) ∙ sym (rw (add-zero, e))
join a x (suc b) y h =
    let p : 2 ^ suc b ≡ 2 ^ b * 2 = pow-suc 2 b in
    let d : x * 2 ^ suc b ≡ x * 2 ^ b * 2 = rw p (sym (mul_assoc x (2 ^ b) 2)) in
    let e : (x * 2 ^ suc b + y) / 2 ≡ x * 2 ^ b + y / 2 = omega arith in
    let m : (x * 2 ^ suc b + y) % 2 ≡ y % 2 = omega arith in
    sym (append_assoc (bits_of a x) (bits_of b (y / 2)) (y % 2 ∷ []))
    ∙ ap (λ (l : List ℕ). l ++ (y % 2 ∷ [])) (join a x b (y / 2) (omega arith))
    ∙ sym (rw (add-suc, e, m))

-- how many bits fields have
abbrev pub widths : List Field → ℕ
widths [] = 0
widths (f ∷ fs) = f.0 + widths fs

-- the number that fields side by side are
abbrev pub packed : List Field → ℕ
packed [] = 0
packed (f ∷ fs) = f.1 * 2 ^ widths fs + packed fs

-- every value within its width
abbrev pub Within : List Field → Type 0
Within [] = Unit {0}
Within (f ∷ fs) = (f.1 < 2 ^ f.0) × Within fs

-- that number is within all the bits
pub packed_lt : (fs : List Field) → Within fs → packed fs < 2 ^ widths fs
packed_lt [] h = omega arith
packed_lt (f ∷ fs) h = rw pow-add (digits_lt h.0 (packed_lt fs h.1))

-- fields side by side are one field
pub pack : (fs : List Field) → Within fs → bits fs ≡ bits_of (widths fs) (packed fs)
unfolding bits bits_of
pack [] h = refl
pack (f ∷ fs) h = ap (λ (l : List ℕ). bits_of f.0 f.1 ++ l) (pack fs h.1) ∙ join f.0 f.1 (widths fs) (packed fs) (packed_lt fs h.1)

-- the bits of fields after fields
pub bits_append : (a b : List Field) → bits (a ++ b) ≡ bits a ++ bits b
unfolding bits
bits_append [] b = refl
bits_append (f ∷ a) b = ap (λ (l : List ℕ). bits_of f.0 f.1 ++ l) (bits_append a b) ∙ sym (append_assoc (bits_of f.0 f.1) (bits a) (bits b))

-- ---- octets

module _ (r : List ℕ) where
  pub one_octet : (v : ℕ) → octets_of (bits_of 8 v ++ r) ≡ v % 256 ∷ octets_of r
  unfolding bits_of octets_of
  one_octet v =
      let e : v / 2 / 2 / 2 / 2 / 2 / 2 / 2 % 2 * 128 + v / 2 / 2 / 2 / 2 / 2 / 2 % 2 * 64 + v / 2 / 2 / 2 / 2 / 2 % 2 * 32 + v / 2 / 2 / 2 / 2 % 2 * 16 + v / 2 / 2 / 2 % 2 * 8 + v / 2 / 2 % 2 * 4 + v / 2 % 2 * 2 + v % 2 ≡ v % 256 = omega arith in
      ap (λ (o : ℕ). o ∷ octets_of r) e

-- the last eight bits apart
pub last_octet : (w v : ℕ) → bits_of (w + 8) v ≡ bits_of w (v / 256) ++ bits_of 8 (v % 256)
last_octet w v =
    let e : v / 256 * 256 + v % 256 ≡ v = omega arith in
    sym (join w (v / 256) 8 (v % 256) (omega arith) ∙ ap (bits_of (w + 8)) e)

-- sixteen bits are two octets, highest first
pub two_octets : (r : List ℕ) (v : ℕ) → v < 65536 → octets_of (bits_of 16 v ++ r) ≡ v / 256 ∷ v % 256 ∷ octets_of r
two_octets r v h =
    let a : v / 256 % 256 ≡ v / 256 = omega arith in
    let b : v % 256 % 256 ≡ v % 256 = omega arith in
    rw (last_octet 8 v, append_assoc, one_octet, one_octet, a, b)

-- 24 bits are three
pub three_octets : (r : List ℕ) (v : ℕ) → v < 16777216 → octets_of (bits_of 24 v ++ r) ≡ v / 65536 ∷ v / 256 % 256 ∷ v % 256 ∷ octets_of r
three_octets r v h =
    let a : v / 256 / 256 ≡ v / 65536 = omega arith in
    let b : v % 256 % 256 ≡ v % 256 = omega arith in
    rw (last_octet 16 v, append_assoc) (two_octets (bits_of 8 (v % 256) ++ r) (v / 256) (omega arith) ∙ rw (one_octet, a, b))

-- 32 bits are four
pub four_octets : (r : List ℕ) (v : ℕ) → v < 4294967296 → octets_of (bits_of 32 v ++ r) ≡ v / 16777216 ∷ v / 65536 % 256 ∷ v / 256 % 256 ∷ v % 256 ∷ octets_of r
four_octets r v h =
    let a : v / 256 / 65536 ≡ v / 16777216 = omega arith in
    let c : v / 256 / 256 % 256 ≡ v / 65536 % 256 = ap (λ (x : ℕ). x % 256) (div-div-eq-div-mul v 256 256) in
    let b : v % 256 % 256 ≡ v % 256 = omega arith in
    rw (last_octet 24 v, append_assoc) (three_octets (bits_of 8 (v % 256) ++ r) (v / 256) (omega arith) ∙ rw (one_octet, a, b, c))

-- ---- names

-- the top four bits of an octet are the bits of its sixteenth
pub top_bits : (o : ℕ) → take 4 (bits_of 8 o) ≡ bits_of 4 (o / 16)
unfolding bits_of
top_bits o =
    let e : o / 16 * 16 + o % 16 ≡ o = omega arith in
    ap (take 4) (sym (join 4 (o / 16) 4 (o % 16) (omega arith) ∙ ap (bits_of 8) e)) ∙ take_at (bits_of 4 (o / 16)) (bits_of 4 (o % 16)) 4 refl

-- four bits are those of one number below 16
four_bits : (n : ℕ) → n < 16 → octets_of (bits_of 4 0 ++ bits_of 4 n) ≡ n ∷ []
unfolding octets_of
four_bits n h =
    let e : (0 * 16 + n) % 256 ≡ n = omega arith in
    ap octets_of (join 4 0 4 n (omega arith) ∙ sym (append-nil (bits_of 8 (0 * 16 + n)))) ∙ one_octet [] (0 * 16 + n) ∙ ap (λ (x : ℕ). x ∷ []) e

-- an octet's top four bits are those of a name exactly where its sixteenth is the name
pub same_name : (o n : ℕ) → o < 256 → n < 16 → (take 4 (bits_of 8 o) ≡ bits_of 4 n) ↔ (o / 16 ≡ n)
same_name o n h k = (
  λ e.
      let s : o / 16 ∷ [] ≡ n ∷ [] = sym (four_bits (o / 16) (omega arith)) ∙ ap (λ (l : List ℕ). octets_of (bits_of 4 0 ++ l)) (sym (top_bits o) ∙ e) ∙ four_bits n k in
      cc,
  λ e. top_bits o ∙ ap (bits_of 4) e,
)
