-- What write_order answers, test by test, and what it leaves in its output. Assumes nothing.
use Prim.Native.Nat.{ℕ, zero, suc, ◌-◌, ◌≤◌, ◌<◌}
use mathlib.Core.Path.{◌≡◌, sym, ap, ap₂, ◌∙◌}
use mathlib.Core.List.{List, ◌∷◌, ◌++◌}
use Rattle.std.specs.Prelude.{Option, Some, None}
use native.Mathlib.Omega.{arith}
use lib.ListN.{length, take, drop}
use lib.Seq.{take_at, drop_at, length-take-le}
use borrow.Author.Tests.{lt-ltb, le-ltb, le-leb, lt-leb}
use borrow.Rule.Slice.PartMut.{put_mid}
use Rattle.tsar.specs.Rows.{Refusal, refusal}
use Rattle.orders.specs.Orders.{factorial, arranged, count_from, orders_of, order_of, order_rows, ordered_as, write_order_of}
use Rattle.orders.proofs.Laws.{count_length}

pub orders_of_lem : (n : ℕ) → 0 < n → factorial (n - 1) ≡ orders_of n
orders_of_lem zero h = absurd (omega arith)
orders_of_lem (suc m) h = let e : suc m - 1 ≡ m = omega arith in ap factorial e

-- ---- the tests in front

module _ (n k : ℕ) (output : List ℕ) where
  abbrev Refuses : Refusal → Type 0
  Refuses r = record { refused = Some r; output = output } ≡ write_order_of n k output

  by_refusal : (r : Refusal) → refusal (order_rows n k output) ≡ Some r → Refuses r
  unfolding write_order_of
  by_refusal r e = ap (λ (o : Option Refusal). ordered_as o n k output) (sym e)

  pub too_few : n < 2 → Refuses (28, 0)
  too_few h = by_refusal (28, 0) (rw (lt-ltb n 2 h))

  pub too_many : 2 ≤ n → 6 < n → Refuses (28, 0)
  too_many a h = by_refusal (28, 0) (rw (le-ltb n 2 a, lt-ltb 6 n h))

  pub no_order : 2 ≤ n → n ≤ 6 → factorial (n - 1) ≤ k → Refuses (28, 0)
  no_order a b h =
      let c : orders_of n ≤ k = omega (arith, orders_of_lem n (omega arith)) in
      by_refusal (28, 0) (rw (le-ltb n 2 a, le-ltb 6 n b, le-leb (orders_of n) k c))

  pub too_short : 2 ≤ n → n ≤ 6 → k < factorial (n - 1) → length output < n → Refuses (61, 0)
  too_short a b h l =
      let c : k < orders_of n = omega (arith, orders_of_lem n (omega arith)) in
      by_refusal (61, 0) (rw (le-ltb n 2 a, le-ltb 6 n b, lt-leb (orders_of n) k c, lt-ltb (length output) n l))

  pub passes : 2 ≤ n → n ≤ 6 → k < factorial (n - 1) → n ≤ length output → write_order_of n k output ≡ record { refused = None; output = order_of n k ++ drop n output }
  unfolding write_order_of
  passes a b h l =
      let c : k < orders_of n = omega (arith, orders_of_lem n (omega arith)) in
      rw (le-ltb n 2 a, le-ltb 6 n b, lt-leb (orders_of n) k c, le-ltb (length output) n l)

-- ---- the output

-- the places counted
counted : (m : ℕ) (output ys : List ℕ) → suc m ≤ length output → ys ≡ count_from 0 (length (take (suc m - 0) (drop 0 output))) → put_mid 0 (suc m - 0) output ys ≡ 0 ∷ (count_from 1 m ++ drop (suc m) output)
counted m output ys h e =
    let z : suc m - 0 ≡ suc m = omega arith in
    let f : length (take (suc m - 0) output) ≡ suc m = ap (λ (i : ℕ). length (take i output)) z ∙ length-take-le (suc m) output h in
    ap₂ {C = List ℕ} (λ (a b : List ℕ). a ++ b) (e ∙ ap (count_from 0) f) (ap (λ (i : ℕ). drop i output) z)

-- and those behind the first arranged
ordered : (m k : ℕ) (rest zs : List ℕ) → zs ≡ arranged (length (take (suc m - 1) (count_from 1 m ++ rest))) (take (suc m - 1) (count_from 1 m ++ rest)) k → put_mid 1 (suc m - 1) (0 ∷ (count_from 1 m ++ rest)) zs ≡ order_of (suc m) k ++ rest
unfolding order_of
ordered m k rest zs e =
    let z : suc m - 1 ≡ m = omega arith in
    let f : take (suc m - 1) (count_from 1 m ++ rest) ≡ count_from 1 m = ap (λ (i : ℕ). take i (count_from 1 m ++ rest)) z ∙ take_at (count_from 1 m) rest m (count_length 1 m) in
    let g : drop (suc m - 1) (count_from 1 m ++ rest) ≡ rest = ap (λ (i : ℕ). drop i (count_from 1 m ++ rest)) z ∙ drop_at (count_from 1 m) rest m (count_length 1 m) in
    ap₂ {C = List ℕ} (λ (a b : List ℕ). 0 ∷ (a ++ b)) (e ∙ ap (λ (l : List ℕ). arranged (length l) l k) f ∙ ap (λ (i : ℕ). arranged i (count_from 1 m) k) (count_length 1 m)) g

pub written : (n k : ℕ) (output ys zs : List ℕ) → 0 < n → n ≤ length output → ys ≡ count_from 0 (length (take (n - 0) (drop 0 output)))
    → zs ≡ arranged (length (take (n - 1) (drop 1 (put_mid 0 (n - 0) output ys)))) (take (n - 1) (drop 1 (put_mid 0 (n - 0) output ys))) k
    → put_mid 1 (n - 1) (put_mid 0 (n - 0) output ys) zs ≡ order_of n k ++ drop n output
written zero k output ys zs a h e f = absurd (omega arith)
written (suc m) k output ys zs a h e f =
    let c = counted m output ys h e in
    ap (λ (l : List ℕ). put_mid 1 (suc m - 1) l zs) c
    ∙ ordered m k (drop (suc m) output) zs (f ∙ ap (λ (l : List ℕ). arranged (length (take (suc m - 1) (drop 1 l))) (take (suc m - 1) (drop 1 l)) k) c)
