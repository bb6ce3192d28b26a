-- Single bits of a number: what an or, an and, a complement, leading zeros, trailing zeros and ones say of them. Assumes nothing.
use mathlib.Core.Path.{◌≡◌, refl, sym, ap, ◌∙◌, subst}
use mathlib.Core.Bool.{false, cond, not, ◌&&◌, ◌||◌}
use Prim.Native.Nat.{ℕ, zero, suc, ◌+◌, ◌-◌, ◌/◌, ◌%◌, ◌^◌, ◌≤◌, ◌<◌}
use native.Mathlib.Nat.{div-eq_of_lt-le, mod-lt, pow-succ', one-mul, le_trans, le_of_eq, div-one, mod-one, add_comm, div-div-eq-div-mul}
use native.Mathlib.Numerals.{one-add}
use native.Mathlib.Omega.{arith}
use lib.Dec.{eqb, lit<}
use lib.Bits.{bit_and, bit_or, or_shr, or_mod, and_shr, and_mod, or_add_and, and_le_l, and_le_r}
use lib.Count.{count_leading_zeros, leading_top, count_trailing_zeros, under, ones, ones_cat}
use lib.Pow.{pow_pos, mod-pow-add}
use Rattle.words.specs.Marks.{bit, count_below}
use Rattle.words.specs.Search.{IsHighest, IsLowest}
use Rattle.words.specs.Sums.{bit_past, bit_cond}

-- ---- a bit of two numbers

-- what holds of the four pairs of digits holds of each
two_digits : (P : ℕ → ℕ → Type 0) → P 0 0 → P 0 1 → P 1 0 → P 1 1 → (p q : ℕ) → p < 2 → q < 2 → P p q
two_digits P a b c d zero zero k l = a
two_digits P a b c d zero (suc zero) k l = b
two_digits P a b c d zero (suc (suc q)) k l = absurd (omega arith)
two_digits P a b c d (suc zero) zero k l = c
two_digits P a b c d (suc zero) (suc zero) k l = d
two_digits P a b c d (suc zero) (suc (suc q)) k l = absurd (omega arith)
two_digits P a b c d (suc (suc p)) q k l = absurd (omega arith)

-- a bit is a digit
digit : (x c : ℕ) → x / 2 ^ c % 2 < 2
digit x c = mod-lt (x / 2 ^ c) (lit< tt)

pub bit_or_lem : (x y c : ℕ) → bit (bit_or x y) c ≡ (bit x c || bit y c)
bit_or_lem x y c =
    ap (λ (n : ℕ). eqb n 1) (ap (λ (n : ℕ). n % 2) (or_shr x y c) ∙ or_mod (x / 2 ^ c) (y / 2 ^ c) 1)
    ∙ two_digits (λ p q. eqb (bit_or p q) 1 ≡ (eqb p 1 || eqb q 1)) refl refl refl refl (x / 2 ^ c % 2) (y / 2 ^ c % 2) (digit x c) (digit y c)

pub bit_and_lem : (x y c : ℕ) → bit (bit_and x y) c ≡ (bit x c && bit y c)
bit_and_lem x y c =
    ap (λ (n : ℕ). eqb n 1) (ap (λ (n : ℕ). n % 2) (and_shr x y c) ∙ and_mod (x / 2 ^ c) (y / 2 ^ c) 1)
    ∙ two_digits (λ p q. eqb (bit_and p q) 1 ≡ (eqb p 1 && eqb q 1)) refl refl refl refl (x / 2 ^ c % 2) (y / 2 ^ c % 2) (digit x c) (digit y c)

-- an or is 0 where both are
pub or_zero : (x y : ℕ) → bit_or x y ≡ 0 → (x ≡ 0) × (y ≡ 0)
or_zero x y e =
    let s : bit_or x y + bit_and x y ≡ x + y = or_add_and x y in
    let l : bit_and x y ≤ x = and_le_l x y in
    let r : bit_and x y ≤ y = and_le_r x y in
    (omega arith, omega arith)

-- ---- a bit of the complement

half_pow : (n c : ℕ) → n / 2 ^ suc c ≡ n / 2 / 2 ^ c
half_pow n c = ap (λ (x : ℕ). n / x) (pow-succ' 2 c) ∙ sym (div-div-eq-div-mul n 2 (2 ^ c))

not_digit : (k a c : ℕ) → a < 2 ^ k → c < k → (2 ^ k - 1 - a) / 2 ^ c % 2 ≡ 1 - a / 2 ^ c % 2
not_digit zero a c h l = absurd (omega arith)
not_digit (suc k) a zero h l =
    let e = pow-succ' 2 k in
    let d0 : (2 ^ suc k - 1 - a) / 2 ^ 0 ≡ 2 ^ suc k - 1 - a = div-one (2 ^ suc k - 1 - a) in
    let d1 : a / 2 ^ 0 ≡ a = div-one a in
    rw (d0, d1) (omega arith)
not_digit (suc k) a (suc c) h l =
    let e = pow-succ' 2 k in
    let x : (2 ^ suc k - 1 - a) / 2 ≡ 2 ^ k - 1 - a / 2 = omega arith in
    ap (λ (n : ℕ). n % 2) (half_pow (2 ^ suc k - 1 - a) c) ∙ ap (λ (n : ℕ). n / 2 ^ c % 2) x ∙ not_digit k (a / 2) c (omega arith) (omega arith)
    ∙ ap (λ (n : ℕ). 1 - n % 2) (sym (half_pow a c))

pub bit_not : (k x c : ℕ) → x < 2 ^ k → c < k → bit (2 ^ k - 1 - x) c ≡ not (bit x c)
bit_not k x c h l =
    ap (λ (n : ℕ). eqb n 1) (not_digit k x c h l)
    ∙ two_digits (λ p q. eqb (1 - p) 1 ≡ not (eqb p 1)) refl refl refl refl (x / 2 ^ c % 2) 0 (digit x c) (lit< tt)

-- ---- the highest and the lowest set bit

-- by the leading zeros
pub top_bit : (w : ℕ) → 0 < w → w < 2 ^ 64 → (count_leading_zeros 64 w ≤ 63) × IsHighest (bit w) 64 (63 - count_leading_zeros 64 w)
top_bit w p h =
    (omega (arith, t.1), subst (IsHighest (bit w) 64) same (record { within = omega (arith, t.1); holds = ap (λ (n : ℕ). eqb (n % 2) 1) one; above = λ j l m. bit_past w (suc t.0) j t.3 l }))
  where
    t : (j : ℕ) × (count_leading_zeros 64 w + suc j ≡ 64) × (2 ^ j ≤ w) × (w < 2 ^ suc j)
    t = leading_top 64 w p h

    same : t.0 ≡ 63 - count_leading_zeros 64 w
    same = omega (arith, t.1)

    one : w / 2 ^ t.0 ≡ 1
    one =
        div-eq_of_lt-le (2 ^ t.0) (le_trans (le_of_eq (one-mul (2 ^ t.0))) t.2) (subst (λ (n : ℕ). w < n) (pow-succ' 2 t.0) t.3)

-- by the trailing zeros
pub bottom_bit : (k w : ℕ) → 0 < w → w < 2 ^ k → IsLowest (bit w) k (count_trailing_zeros k w)
unfolding count_trailing_zeros
bottom_bit zero w p h = absurd (omega arith)
bottom_bit (suc k) w p h = go (w % 2) refl (λ q. bottom_bit k (w / 2) q (omega (arith, pow-succ' 2 k)))
  where
    up : (c : ℕ) → bit w (suc c) ≡ bit (w / 2) c
    up c = ap (λ (n : ℕ). eqb (n % 2) 1) (half_pow w c)

    first : (d : ℕ) → w % 2 ≡ d → bit w 0 ≡ eqb d 1
    first d e = ap (λ (n : ℕ). eqb n 1) (ap (λ (n : ℕ). n % 2) (div-one w) ∙ e)

    lower : {t : ℕ} → w % 2 ≡ 0 → IsLowest (bit (w / 2)) k t → (c : ℕ) → c < suc t → bit w c ≡ false
    lower z r zero l = first 0 z
    lower z r (suc c) l = up c ∙ r.below c (omega arith)

    go : (d : ℕ) → w % 2 ≡ d → (0 < w / 2 → IsLowest (bit (w / 2)) k (count_trailing_zeros k (w / 2))) → IsLowest (bit w) (suc k) (under d (count_trailing_zeros k (w / 2)))
    go zero e r =
        let s = r (omega arith) in
        record { within = omega (arith, s.within); holds = up (count_trailing_zeros k (w / 2)) ∙ s.holds; below = lower e s }
    go (suc d) e r =
        let o : w % 2 ≡ 1 = omega arith in
        record { within = omega arith; holds = first 1 o; below = λ c l. absurd (omega arith) }

-- ---- how many bits are set

one_bit : (x : ℕ) → x < 2 → ones x ≡ x
unfolding ones
one_bit zero h = refl
one_bit (suc zero) h = refl
one_bit (suc (suc x)) h = absurd (omega arith)

-- the bits below k, counted, are the ones of what stands below 2 ^ k
pub ones_below : (k w : ℕ) → ones (w % 2 ^ k) ≡ count_below k (bit w)
unfolding count_below ones
ones_below zero w = ap ones (mod-one w)
ones_below (suc k) w =
    ap ones (ap (λ (n : ℕ). w % 2 ^ n) (sym (one-add k)) ∙ mod-pow-add w 1 k) ∙ ones_cat k (w / 2 ^ k % 2) (w % 2 ^ k) (mod-lt w (pow_pos k))
    ∙ ap (λ (n : ℕ). n + ones (w % 2 ^ k)) (one_bit (w / 2 ^ k % 2) (digit w k) ∙ bit_cond w k)
    ∙ ap (λ (n : ℕ). cond (bit w k) 1 0 + n) (ones_below k w) ∙ add_comm (cond (bit w k) 1 0) (count_below k (bit w))
