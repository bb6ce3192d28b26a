-- Laws of decimal values.
use Rattle.std.specs.Prelude.{ℕ, suc, ◌+◌, ◌*◌, ◌-◌, ◌≤◌, ◌<◌, ◌≡◌, List, [], ◌∷◌, length, get_or, drop}
use Rattle.std.proofs.Common.{ap, arith, drop_of_length-le, drop-cons}
use Rattle.capture.specs.Decimal.{value_from}

-- one digit more
pub value_at : (n : ℕ) (l : List ℕ) (i : ℕ) → i < length l → value_from n (drop i l) ≡ value_from (10 * n + (get_or l i 0 - 48)) (drop (suc i) l)
unfolding value_from
value_at n l i h = ap (value_from n) (drop-cons l i 0 h)

-- no digit more
pub value_end : (n : ℕ) (l : List ℕ) (i : ℕ) → length l ≤ i → value_from n (drop i l) ≡ n
unfolding value_from
value_end n l i h = ap (value_from n) (drop_of_length-le l {i = i} h)

-- digits make a number no smaller
pub value_grows : (n : ℕ) (l : List ℕ) → n ≤ value_from n l
unfolding value_from
value_grows n [] = omega arith
value_grows n (x ∷ l) = let h = value_grows (10 * n + (x - 48)) l in omega arith
