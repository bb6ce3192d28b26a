-- Laws of a number as the sum of the powers of two at its set bits: `sum_below n f` is below 2 ^ n, its bits are f's, a number is the sum
-- at its own bits, and the sums that a single bit and a run of low bits make. Assumes nothing.
use Rattle.std.specs.Prelude.{◌≡◌, refl, Bool, true, false, cond, ℕ, zero, suc, ◌+◌, ◌-◌, ◌*◌, ◌/◌, ◌%◌, ◌^◌, ◌≤◌, ◌<◌, eqb}
use Rattle.std.proofs.Common.{sym, ap, ap₂, ◌∙◌, ⊎_elim, mod-lt, mod-eq_of_lt, one-mul, zero-mul, zero-add, add-zero, lt_of_lt_of_le, one-add, arith, eqb-true, lit<, pow_pos, pow_mono}
use Rattle.std.proofs.Math.Nat.{mod-one, div-eq_of_lt, pow-succ'}
use Rattle.std.proofs.lemmas.Bool.{eqb-false}
use Rattle.std.proofs.Math.Pow.{high, low, field, mod-mod-pow}
use Rattle.std.proofs.lemmas.Nat.{mod-pow-add}
use Rattle.words.specs.Marks.{bit, sum_below}
use Rattle.words.specs.Search.{lt_or_le}

-- a bit is 0 or 1, as it is set or not
pub bit_cond : (x c : ℕ) → x / 2 ^ c % 2 ≡ cond (bit x c) 1 0
bit_cond x c = go (bit x c) refl
  where
    go : (t : Bool) → bit x c ≡ t → x / 2 ^ c % 2 ≡ cond t 1 0
    go true e = eqb-true (x / 2 ^ c % 2) 1 e
    go false e =
        let n : x / 2 ^ c % 2 ≡ 1 → ⊥ = eqb-false (x / 2 ^ c % 2) 1 e in
        let l : x / 2 ^ c % 2 < 2 = mod-lt (x / 2 ^ c) (lit< tt) in
        omega arith

-- a number below 2 ^ n has no bit from n on
pub bit_past : (x n c : ℕ) → x < 2 ^ n → n ≤ c → bit x c ≡ false
bit_past x n c h l = ap (λ (q : ℕ). eqb (q % 2) 1) (div-eq_of_lt (lt_of_lt_of_le h (pow_mono l)))

-- the sum is what n bits hold
pub sum_lt : (n : ℕ) (f : ℕ → Bool) → sum_below n f < 2 ^ n
unfolding sum_below
sum_lt zero f = lit< tt
sum_lt (suc n) f = go (f n) (sum_lt n f)
  where
    go : (t : Bool) → sum_below n f < 2 ^ n → cond t (2 ^ n) 0 + sum_below n f < 2 ^ suc n
    go true h = omega (arith, pow-succ' 2 n)
    go false h = omega (arith, pow-succ' 2 n)

-- it asks only about the numbers below n
pub sum_ext : (n : ℕ) (f g : ℕ → Bool) → ((j : ℕ) → j < n → f j ≡ g j) → sum_below n f ≡ sum_below n g
unfolding sum_below
sum_ext zero f g h = refl
sum_ext (suc n) f g h = rw (h n (omega arith), sum_ext n f g (λ j l. h j (omega arith)))

-- a term of the sum, as a digit times a power
scaled : (t : Bool) (n : ℕ) → cond t (2 ^ n) 0 ≡ cond t 1 0 * 2 ^ n
scaled true n = sym (one-mul (2 ^ n))
scaled false n = sym (zero-mul (2 ^ n))

-- a number is the sum at its own bits
pub sum_bits : (n x : ℕ) → sum_below n (bit x) ≡ x % 2 ^ n
unfolding sum_below
sum_bits zero x = sym (mod-one x)
sum_bits (suc n) x =
    ap₂ (λ (a b : ℕ). a + b) (scaled (bit x n) n ∙ ap (λ (b : ℕ). b * 2 ^ n) (sym (bit_cond x n))) (sum_bits n x)
    ∙ sym (mod-pow-add x 1 n) ∙ ap (λ (k : ℕ). x % 2 ^ k) (one-add n)

-- a number of n bits that has a predicate's bits is its sum
pub sum_is : (n x : ℕ) (f : ℕ → Bool) → x < 2 ^ n → ((c : ℕ) → c < n → bit x c ≡ f c) → x ≡ sum_below n f
sum_is n x f l h = sym (mod-eq_of_lt l) ∙ sym (sum_bits n x) ∙ sum_ext n (bit x) f h

-- what is cut off above a bit does not change it
pub bit_mod : (x n c : ℕ) → c < n → bit (x % 2 ^ n) c ≡ bit x c
bit_mod x n c h =
    let d : ℕ = n - c - 1 in
    let e : n ≡ d + 1 + c = omega arith in
    ap (λ (m : ℕ). bit (x % 2 ^ m) c) e ∙ ap (λ (m : ℕ). eqb m 1) (ap (λ (m : ℕ). m % 2) (field x (d + 1) c) ∙ mod-mod-pow (x / 2 ^ c) d 1)

-- the bits of the sum are the predicate's
pub bit_sum : (n : ℕ) (f : ℕ → Bool) (c : ℕ) → c < n → bit (sum_below n f) c ≡ f c
unfolding sum_below
bit_sum zero f c h = absurd (omega arith)
bit_sum (suc n) f c h = ap (λ (x : ℕ). bit (x + sum_below n f) c) (scaled (f n) n) ∙ ⊎_elim (λ (l : c < n). lower l (bit_sum n f c l)) last (lt_or_le c n)
  where
    b : ℕ
    b = cond (f n) 1 0

    lower : c < n → bit (sum_below n f) c ≡ f c → bit (b * 2 ^ n + sum_below n f) c ≡ f c
    lower l ih = sym (bit_mod (b * 2 ^ n + sum_below n f) n c l) ∙ ap (λ (x : ℕ). bit x c) (low b n (sum_lt n f)) ∙ ih

    as_bool : (t : Bool) → eqb (cond t 1 0 % 2) 1 ≡ t
    as_bool true = refl
    as_bool false = refl

    last : n ≤ c → bit (b * 2 ^ n + sum_below n f) c ≡ f c
    last l =
        let e : c ≡ n = omega arith in
        ap (bit (b * 2 ^ n + sum_below n f)) e ∙ ap (λ (q : ℕ). eqb (q % 2) 1) (high b n (sum_lt n f)) ∙ as_bool (f n) ∙ ap f (sym e)

-- the lowest k bits, and no other
pub sum_front : (n k : ℕ) (f : ℕ → Bool) → k ≤ n → ((j : ℕ) → j < k → f j ≡ true) → ((j : ℕ) → k ≤ j → j < n → f j ≡ false) → sum_below n f ≡ 2 ^ k - 1
unfolding sum_below
sum_front zero k f l on off =
    let e : 0 ≡ k = omega arith in
    ap (λ (m : ℕ). 2 ^ m - 1) e
sum_front (suc n) k f l on off =
    ⊎_elim (λ (h : k < suc n). rw (off n (omega arith) (omega arith), zero-add) (sum_front n k f (omega arith) on (λ j a b. off j a (omega arith))))
    (λ (h : suc n ≤ k).
    let e : suc n ≡ k = omega arith in
    let ih : sum_below n f ≡ 2 ^ n - 1 = sum_front n n f (omega arith) (λ j a. on j (omega arith)) (λ j a b. absurd (omega arith)) in
    rw (on n (omega arith)) (omega (arith, pow-succ' 2 n, pow_pos n) ∙ ap (λ (m : ℕ). 2 ^ m - 1) e)) (lt_or_le k (suc n))

-- bit k alone
pub sum_one : (n k : ℕ) (f : ℕ → Bool) → k < n → f k ≡ true → ((j : ℕ) → j < n → (j ≡ k → ⊥) → f j ≡ false) → sum_below n f ≡ 2 ^ k
unfolding sum_below
sum_one zero k f l on off = absurd (omega arith)
sum_one (suc n) k f l on off =
    ⊎_elim (λ (h : k < n). rw (off n (omega arith) (λ e. omega arith), zero-add) (sum_one n k f h on (λ j a b. off j (omega arith) b)))
    (λ (h : n ≤ k).
    let e : n ≡ k = omega arith in
    let z : sum_below n f ≡ 0 = sum_front n 0 f (omega arith) (λ j a. absurd (omega arith)) (λ j a b. off j (omega arith) (λ q. omega arith)) in
    rw (ap f e ∙ on, z, add-zero) (ap (λ (m : ℕ). 2 ^ m) e)) (lt_or_le k n)
