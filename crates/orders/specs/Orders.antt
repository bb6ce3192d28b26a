-- Document 02, 2026-10: what write_order answers. The delivery orders of a train of n segments, Begin first and the others in every order, by number;
-- and the refusals in order.
use Rattle.std.specs.Prelude.{ℕ, zero, suc, ◌*◌, ◌/◌, ◌%◌, Bool, ◌||◌, List, [], ◌∷◌, ◌++◌, length, get_or, drop, leb, ltb, Option, Result, Some, None, Ok, Err}
use Rattle.orders.specs.declared.OrderError.{OrderError}
use Rattle.tsar.specs.Rows.{Refusal, refusal}
use Rattle.orders.specs.Numbers.{order_number}

-- in how many orders m things stand: m!
abbrev pub factorial : ℕ → ℕ
factorial zero = 1
factorial (suc m) = suc m * factorial m

-- a list but for what stands at place d
abbrev pub without : List ℕ → ℕ → List ℕ
without [] d = []
without (x ∷ l) zero = l
without (x ∷ l) (suc d) = x ∷ without l d

-- order k of the m things of a list: each of them is first in as many orders as the others have
unfoldable pub arranged : ℕ → List ℕ → ℕ → List ℕ
arranged zero l k = []
arranged (suc m) l k = get_or l (k / factorial m) 0 ∷ arranged m (without l (k / factorial m)) (k % factorial m)

-- m numbers from n on
abbrev pub count_from : ℕ → ℕ → List ℕ
count_from n zero = []
count_from n (suc m) = n ∷ count_from (suc n) m

-- how many orders a train of n segments has: Begin stands first, so (n − 1)!
abbrev pub orders_of : ℕ → ℕ
orders_of zero = 0
orders_of (suc m) = factorial m

-- order k of a train of n segments, as sequence numbers
unfoldable pub order_of : ℕ → ℕ → List ℕ
order_of zero k = []
order_of (suc m) k = 0 ∷ arranged m (count_from 1 m) k

-- ---- the call

-- 28 where n is not 2 to 6, or k no number of an order of n; then 61 where the output has under n octets
abbrev pub order_rows : ℕ → ℕ → List ℕ → List (Bool × Refusal)
order_rows n k output = (ltb n 2 || ltb 6 n, (28, 0)) ∷ (leb (orders_of n) k, (28, 0)) ∷ (ltb (length output) n, (61, 0)) ∷ []

-- what a call leaves: its refusal, if any, and the output
pub record Ordered : Type 0 where
  pub refused : Option Refusal
  pub output : List ℕ

-- the order in front, the octets behind it as they were; refused, all as they were
abbrev pub ordered_as : Option Refusal → ℕ → ℕ → List ℕ → Ordered
ordered_as None n k output = record { refused = None; output = order_of n k ++ drop n output }
ordered_as (Some r) n k output = record { refused = Some r; output = output }

unfoldable pub write_order_of : ℕ → ℕ → List ℕ → Ordered
write_order_of n k output = ordered_as (refusal (order_rows n k output)) n k output

-- ---- what write_order's answer says: each answer has a number of its own (Statement, OneAnswer)

abbrev pub refused_by : Result Unit OrderError → Option Refusal
refused_by (Ok tt) = None
refused_by (Err e) = Some (order_number e)

abbrev pub ordered_by : Result Unit OrderError → List ℕ → Ordered
ordered_by r output = record { refused = refused_by r; output = output }
