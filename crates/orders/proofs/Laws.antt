-- Every order appears exactly once, in lexicographic order. Assumes nothing.
use Prim.Native.Nat.{ℕ, zero, suc, ◌+◌, ◌*◌, ◌/◌, ◌%◌, ◌≤◌, ◌<◌}
use mathlib.Core.Path.{◌≡◌, refl, sym, ap, ap₂, ◌∙◌, subst}
use mathlib.Core.Logic.{⊎_elim}
use mathlib.Core.Bool.{true, false, cond}
use mathlib.Core.List.{List, [], ◌∷◌}
use native.Mathlib.Omega.{arith}
use native.Mathlib.Decide.{ℕ_discrete}
use native.Mathlib.Nat.{mod-lt, div-add-mod', div-lt_iff_lt-mul, div-eq_of_lt-le, mul-add-mod_self_right, mod-eq_of_lt, mul-le-mul_right}
use lib.ListN.{length, get_or}
use lib.Dec.{ltb}
use borrow.Author.Tests.{eq-eqb, ne_eqb, lt-ltb, le-ltb}
use Rattle.octets.specs.Laws.{le_or_lt}
use Rattle.orders.specs.Orders.{factorial, without, arranged, count_from, order_of}
use Rattle.orders.specs.Statement.{hit, occurs, IsOrder, Before, less, same, EveryTrain}

pub factorial_positive : (m : ℕ) → 0 < factorial m
factorial_positive zero = omega arith
factorial_positive (suc m) = omega (arith, factorial_positive m)

-- ---- a list without one

pub without_length : (l : List ℕ) (d : ℕ) → d < length l → suc (length (without l d)) ≡ length l
without_length [] d h = absurd (omega arith)
without_length (x ∷ l) zero h = refl
without_length (x ∷ l) (suc d) h = ap suc (without_length l d (omega arith))

without_occurs : (s : ℕ) (l : List ℕ) (d : ℕ) → d < length l → occurs s l ≡ hit s (get_or l d 0) + occurs s (without l d)
without_occurs s [] d h = absurd (omega arith)
without_occurs s (x ∷ l) zero h = refl
without_occurs s (x ∷ l) (suc d) h = omega (arith, without_occurs s l d (omega arith))

-- what is in a list stands somewhere
place : (s : ℕ) (l : List ℕ) → 0 < occurs s l → (d : ℕ) × (d < length l) × (get_or l d 0 ≡ s)
place s [] h = absurd (omega arith)
place s (x ∷ l) h = go (ℕ_discrete s x) (λ k. place s l k)
  where
    go : Dec (s ≡ x) → (0 < occurs s l → (d : ℕ) × (d < length l) × (get_or l d 0 ≡ s)) → (d : ℕ) × (d < length (x ∷ l)) × (get_or (x ∷ l) d 0 ≡ s)
    go (yes e) f = (0, omega arith, sym e)
    go (no n) f =
        let z : hit s x ≡ 0 = rw (ne_eqb s x n) in
        let p = f (omega (arith, z)) in
        (suc p.0, omega (arith, p.1), p.2)

-- ---- each number gives an order

pub digit : (m k : ℕ) → k < factorial (suc m) → k / factorial m < suc m
digit m k h = (div-lt_iff_lt-mul (factorial_positive m)).1 h

arranged_length : (m : ℕ) (l : List ℕ) (k : ℕ) → length (arranged m l k) ≡ m
unfolding arranged
arranged_length zero l k = refl
arranged_length (suc m) l k = ap suc (arranged_length m (without l (k / factorial m)) (k % factorial m))

pub arranged_occurs : (s m : ℕ) (l : List ℕ) (k : ℕ) → length l ≡ m → k < factorial m → occurs s (arranged m l k) ≡ occurs s l
unfolding arranged
arranged_occurs s zero [] k e h = refl
arranged_occurs s zero (x ∷ l) k e h = absurd (omega arith)
arranged_occurs s (suc m) l k e h =
    let d = digit m k h in
    let w = without_length l (k / factorial m) (omega arith) in
    ap (λ (n : ℕ). hit s (get_or l (k / factorial m) 0) + n) (arranged_occurs s m (without l (k / factorial m)) (k % factorial m) (omega (arith, w)) (mod-lt k (factorial_positive m)))
    ∙ sym (without_occurs s l (k / factorial m) (omega arith))

-- ---- each order has a number

pub hit_self : (x : ℕ) → hit x x ≡ 1
hit_self x = rw (eq-eqb x x refl)

pub arranged_all : (m : ℕ) (l o : List ℕ) → length l ≡ m → length o ≡ m → ((s : ℕ) → occurs s o ≡ occurs s l) → (k : ℕ) × (k < factorial m) × (arranged m l k ≡ o)
unfolding arranged
arranged_all zero l [] e f p = (0, omega arith, refl)
arranged_all zero l (x ∷ o) e f p = absurd (omega arith)
arranged_all (suc m) l [] e f p = absurd (omega arith)
arranged_all (suc m) l (x ∷ o) e f p =
    let q = place x l (omega (arith, p x, hit_self x)) in
    let d : ℕ = q.0 in
    let w = without_length l d q.1 in
    let r = arranged_all m (without l d) o (omega (arith, w)) (omega arith) (λ s. let a = without_occurs s l d q.1 in let b = ap (hit s) q.2 in omega (arith, p s, a, b)) in
    let k : ℕ = d * factorial m + r.0 in
    let most : suc d * factorial m ≤ suc m * factorial m = mul-le-mul_right (factorial m) (omega (arith, q.1)) in
    let quotient : k / factorial m ≡ d = div-eq_of_lt-le (factorial m) (omega arith) (omega (arith, r.1)) in
    let rest : k % factorial m ≡ r.0 = mul-add-mod_self_right d (factorial m) r.0 ∙ mod-eq_of_lt r.1 in (
      k,
      omega (arith, r.1, most),
      ap₂ {C = List ℕ} (λ (i j : ℕ). get_or l i 0 ∷ arranged m (without l i) j) quotient rest ∙ ap₂ {C = List ℕ} (λ (y : ℕ) (t : List ℕ). y ∷ t) q.2 r.2,
    )

-- ---- in lexicographic order

abbrev Rising : List ℕ → Type 0
Rising l = (i j : ℕ) → i < j → j < length l → get_or l i 0 < get_or l j 0

without_at : (l : List ℕ) (d i : ℕ) → i < d → get_or (without l d) i 0 ≡ get_or l i 0
without_at [] d i h = refl
without_at (x ∷ l) zero i h = absurd (omega arith)
without_at (x ∷ l) (suc d) zero h = refl
without_at (x ∷ l) (suc d) (suc i) h = without_at l d i (omega arith)

without_past : (l : List ℕ) (d i : ℕ) → d ≤ i → get_or (without l d) i 0 ≡ get_or l (suc i) 0
without_past [] d i h = refl
without_past (x ∷ l) zero i h = refl
without_past (x ∷ l) (suc d) zero h = absurd (omega arith)
without_past (x ∷ l) (suc d) (suc i) h = without_past l d i (omega arith)

without_rising : (l : List ℕ) (d : ℕ) → d < length l → Rising l → Rising (without l d)
without_rising l d h r i j a b =
    let w = without_length l d h in
    ⊎_elim
    (λ (p : d ≤ i). let x = without_past l d i p in let y = without_past l d j (omega arith) in let z = r (suc i) (suc j) (omega arith) (omega (arith, w)) in omega (arith, x, y, z))
    (λ (p : i < d).
    let x = without_at l d i p in
    ⊎_elim
    (λ (q : d ≤ j). let y = without_past l d j q in let z = r i (suc j) (omega arith) (omega (arith, w)) in omega (arith, x, y, z))
    (λ (q : j < d). let y = without_at l d j q in let z = r i j a (omega arith) in omega (arith, x, y, z))
    (le_or_lt d j))
    (le_or_lt d i)

pub arranged_rising : (m : ℕ) (l : List ℕ) (j k : ℕ) → length l ≡ m → Rising l → j < k → k < factorial m → Before (arranged m l j) (arranged m l k)
unfolding arranged
arranged_rising zero l j k e r h b = absurd (omega arith)
arranged_rising (suc m) l j k e r h b =
    let dj = digit m j (omega arith) in
    let dk = digit m k b in
    let ej = div-add-mod' j (factorial m) in
    let ek = div-add-mod' k (factorial m) in
    let rj = mod-lt j (factorial_positive m) in
    ⊎_elim
    (λ (p : suc (j / factorial m) ≤ k / factorial m). less (r (j / factorial m) (k / factorial m) p (omega arith)))
    (λ (p : k / factorial m < suc (j / factorial m)).
    ⊎_elim
    (λ (q : suc (k / factorial m) ≤ j / factorial m).
    let most : suc (k / factorial m) * factorial m ≤ j / factorial m * factorial m = mul-le-mul_right (factorial m) q in
    let rk = mod-lt k (factorial_positive m) in
    absurd (omega (arith, most, ej, ek, rk)))
    (λ (q : j / factorial m < suc (k / factorial m)).
    let eq : k / factorial m ≡ j / factorial m = omega arith in
    let prod : k / factorial m * factorial m ≡ j / factorial m * factorial m = ap (λ (x : ℕ). x * factorial m) eq in
    let below : j % factorial m < k % factorial m = omega (arith, prod, ej, ek) in
    let w = without_length l (j / factorial m) (omega arith) in
    subst (λ (x : ℕ). Before (get_or l (j / factorial m) 0 ∷ arranged m (without l (j / factorial m)) (j % factorial m)) (get_or l x 0 ∷ arranged m (without l x) (k % factorial m))) (sym eq)
    (same (arranged_rising m (without l (j / factorial m)) (j % factorial m) (k % factorial m) (omega (arith, w)) (without_rising l (j / factorial m) (omega arith) r) below (mod-lt k (factorial_positive m)))))
    (le_or_lt (suc (k / factorial m)) (j / factorial m)))
    (le_or_lt (suc (j / factorial m)) (k / factorial m))

-- of two lists that are the same none is before the other
never_same : (l m : List ℕ) → Before l m → l ≡ m → ⊥
never_same [] m x' e = elim x' [ ]
never_same (x ∷ l) [] x' e = elim x' [ ]
never_same (x ∷ l) (y ∷ m) (less h) e = let q : x ≡ y = cc in omega arith
never_same (x ∷ l) (y ∷ m) (same b) e = let q : l ≡ m = cc in never_same l m b q

-- no list is before itself
pub never_itself : (l : List ℕ) → Before l l → ⊥
never_itself l b = never_same l l b refl

-- ---- the orders of a train

pub count_length : (n m : ℕ) → length (count_from n m) ≡ m
count_length n zero = refl
count_length n (suc m) = ap suc (count_length (suc n) m)

count_at : (n m i : ℕ) → i < m → get_or (count_from n m) i 0 ≡ n + i
count_at n zero i h = absurd (omega arith)
count_at n (suc m) zero h = omega arith
count_at n (suc m) (suc i) h = let e = count_at (suc n) m i (omega arith) in omega (arith, e)

count_rising : (n m : ℕ) → Rising (count_from n m)
count_rising n m i j h b =
    let l = count_length n m in
    let x = count_at n m i (omega arith) in
    let y = count_at n m j (omega arith) in
    omega (arith, x, y)

no_hit : (s x : ℕ) → (s ≡ x → ⊥) → hit s x ≡ 0
no_hit s x n = rw (ne_eqb s x n) refl

one_hit : (s x : ℕ) → s ≡ x → hit s x ≡ 1
one_hit s x e = rw (eq-eqb s x e) refl

-- those below n are not in it
count_below : (s n m : ℕ) → s < n → occurs s (count_from n m) ≡ 0
count_below s n zero h = refl
count_below s n (suc m) h = omega (arith, no_hit s n (λ e. omega arith), count_below s (suc n) m (omega arith))

count_occurs : (s n m : ℕ) → n ≤ s → occurs s (count_from n m) ≡ cond (ltb s (n + m)) 1 0
count_occurs s n zero h = let e : ltb s (n + 0) ≡ false = le-ltb s (n + 0) (omega arith) in rw e
count_occurs s n (suc m) h =
    ⊎_elim
    (λ (l : s ≤ n).
    let e : s ≡ n = omega arith in
    let a = count_below s (suc n) m (omega arith) in
    let t : ltb s (n + suc m) ≡ true = lt-ltb s (n + suc m) (omega arith) in
    let u : ◌≡◌ {A = ℕ} (cond (ltb s (n + suc m)) 1 0) 1 = rw t refl in
    omega (arith, one_hit s n e, a, u))
    (λ (l : n < s).
    let a = count_occurs s (suc n) m l in
    let p : suc n + m ≡ n + suc m = omega arith in
    let u : ◌≡◌ {A = ℕ} (cond (ltb s (suc n + m)) 1 0) (cond (ltb s (n + suc m)) 1 0) = ap (λ (k : ℕ). cond (ltb s k) 1 0) p in
    omega (arith, no_hit s n (λ e. omega arith), a, u))
    (le_or_lt s n)

-- how often s is in 0 to m
all_occurs : (s m : ℕ) → hit s 0 + occurs s (count_from 1 m) ≡ cond (ltb s (suc m)) 1 0
all_occurs zero m =
    let a = count_below 0 1 m (omega arith) in
    let t : ltb 0 (suc m) ≡ true = lt-ltb 0 (suc m) (omega arith) in
    let u : ◌≡◌ {A = ℕ} (cond (ltb 0 (suc m)) 1 0) 1 = rw t refl in
    omega (arith, one_hit 0 0 refl, a, u)
all_occurs (suc s) m =
    let a = count_occurs (suc s) 1 m (omega arith) in
    let p : 1 + m ≡ suc m = omega arith in
    let u : ◌≡◌ {A = ℕ} (cond (ltb (suc s) (1 + m)) 1 0) (cond (ltb (suc s) (suc m)) 1 0) = ap (λ (k : ℕ). cond (ltb (suc s) k) 1 0) p in
    omega (arith, no_hit (suc s) 0 (λ e. omega arith), a, u)

module _ (m : ℕ) where
  -- each number gives an order
  pub each_is : (k : ℕ) → k < factorial m → IsOrder (suc m) (order_of (suc m) k)
  unfolding order_of
  each_is k h = record {
    long = ap suc (arranged_length m (count_from 1 m) k);
    begins = refl;
    each = λ s. ap (λ (n : ℕ). hit s 0 + n) (arranged_occurs s m (count_from 1 m) k (count_length 1 m) h) ∙ all_occurs s m;
  }

  -- each order has a number
  pub every_is : (o : List ℕ) → IsOrder (suc m) o → (k : ℕ) × (k < factorial m) × (order_of (suc m) k ≡ o)
  unfolding order_of
  every_is [] c = absurd (omega (arith, c.long))
  every_is (x ∷ o) c =
      let z : 0 ≡ x = sym c.begins in
      let r = arranged_all m (count_from 1 m) o (count_length 1 m) (omega (arith, c.long)) (λ s. let a = all_occurs s m in let b = c.each s in let e = ap (hit s) z in omega (arith, a, b, e)) in
      (r.0, r.1, ap₂ {C = List ℕ} (λ (y : ℕ) (t : List ℕ). y ∷ t) z r.2)

  -- in lexicographic order
  pub rising : (j k : ℕ) → j < k → k < factorial m → Before (order_of (suc m) j) (order_of (suc m) k)
  unfolding order_of
  rising j k h b = same (arranged_rising m (count_from 1 m) j k (count_length 1 m) (count_rising 1 m) h b)

  -- so each once
  pub once : (j k : ℕ) → j < factorial m → k < factorial m → order_of (suc m) j ≡ order_of (suc m) k → j ≡ k
  once j k a b e =
      ⊎_elim
      (λ (l : j ≤ k).
      ⊎_elim (λ (p : k ≤ j). omega arith) (λ (p : j < k). absurd (never_itself (order_of (suc m) k) (subst (λ (o : List ℕ). Before o (order_of (suc m) k)) e (rising j k p b)))) (le_or_lt k j))
      (λ (l : k < j). absurd (never_itself (order_of (suc m) k) (subst (λ (o : List ℕ). Before (order_of (suc m) k) o) e (rising k j l a))))
      (le_or_lt j k)

-- so the statement; a train of no segments has no order
none_of_0 : (o : List ℕ) → IsOrder 0 o → ⊥
none_of_0 [] c = omega (arith, c.begins)
none_of_0 (x ∷ o) c = omega (arith, c.long)

pub every_order_once : EveryTrain
every_order_once zero = record { each_is = λ k h. absurd (omega arith); every_is = λ o c. absurd (none_of_0 o c); rising = λ j k g h. absurd (omega arith); once = λ j k g h e. absurd (omega arith) }
every_order_once (suc m) = record { each_is = each_is m; every_is = every_is m; rising = rising m; once = once m }
