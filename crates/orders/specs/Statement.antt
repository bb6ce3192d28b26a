-- Document 02, 2026-10: what is shown of the orders and of the call: of `write_order_of`, which the contract cites, and of `order_of` and `orders_of` in it.
use Rattle.std.specs.Prelude.{ℕ, ◌+◌, ◌≤◌, ◌<◌, ◌≡◌, cond, List, [], ◌∷◌, ◌++◌, length, get_or, drop, eqb, ltb, Result, Some, None}
use Rattle.orders.specs.declared.OrderError.{OrderError}
use Rattle.orders.specs.Orders.{orders_of, order_of, write_order_of, ordered_by}

-- ---- every order, exactly once, in lexicographic order, numbered from 0

-- 1 where x is s, else 0
abbrev pub hit : ℕ → ℕ → ℕ
hit s x = cond (eqb s x) 1 0

-- how often s is in a list
abbrev pub occurs : ℕ → List ℕ → ℕ
occurs s [] = 0
occurs s (x ∷ l) = hit s x + occurs s l

-- an order of a train of n segments: n numbers, the first 0 (1 stands for the first of none, so that an empty list does not begin with 0),
-- each below n once and no other
pub record IsOrder (n : ℕ) (o : List ℕ) : Type 0 where
  pub long : length o ≡ n
  pub begins : get_or o 0 1 ≡ 0
  pub each : (s : ℕ) → occurs s o ≡ cond (ltb s n) 1 0

-- one list of numbers is before another of equal length: smaller at the first place where they differ
pub data Before : List ℕ → List ℕ → Type 0 where
  less : {x y : ℕ} {l m : List ℕ} → x < y → Before (x ∷ l) (y ∷ m)
  same : {x : ℕ} {l m : List ℕ} → Before l m → Before (x ∷ l) (x ∷ m)

-- each number below the count gives an order, each order has a number, in lexicographic order, and so each once
pub record EveryOrderOnce (n : ℕ) : Type 0 where
  pub each_is : (k : ℕ) → k < orders_of n → IsOrder n (order_of n k)
  pub every_is : (o : List ℕ) → IsOrder n o → (k : ℕ) × (k < orders_of n) × (order_of n k ≡ o)
  pub rising : (j k : ℕ) → j < k → k < orders_of n → Before (order_of n j) (order_of n k)
  pub once : (j k : ℕ) → j < orders_of n → k < orders_of n → order_of n j ≡ order_of n k → j ≡ k

abbrev pub EveryTrain : Type 0
EveryTrain = (n : ℕ) → EveryOrderOnce n

-- ---- what is refused, and what is written

-- there is an order k of n segments: n from 2 to 6, k below the count of orders
abbrev pub HasOrder : ℕ → ℕ → Type 0
HasOrder n k = (2 ≤ n) × (n ≤ 6) × (k < orders_of n)

-- the order is written exactly when there is one and the output has n octets; 28 where there is none, whatever the output; else 61.
-- What is refused changes no octet.
pub record Refusals (n k : ℕ) (output : List ℕ) : Type 0 where
  pub writes : HasOrder n k → n ≤ length output → write_order_of n k output ≡ record { refused = None; output = order_of n k ++ drop n output }
  pub writes_only : (write_order_of n k output).refused ≡ None → HasOrder n k × (n ≤ length output)
  pub too_few : n < 2 → write_order_of n k output ≡ record { refused = Some (28, 0); output = output }
  pub too_many : 6 < n → write_order_of n k output ≡ record { refused = Some (28, 0); output = output }
  pub no_number : orders_of n ≤ k → write_order_of n k output ≡ record { refused = Some (28, 0); output = output }
  pub too_short : HasOrder n k → length output < n → write_order_of n k output ≡ record { refused = Some (61, 0); output = output }

abbrev pub EveryCall : Type 0
EveryCall = (n k : ℕ) (output : List ℕ) → Refusals n k output

-- ---- the contract leaves no answer open: two answers that it takes for the same, with their outputs, are the same

abbrev pub OneAnswer : Type 0
OneAnswer = (r s : Result Unit OrderError) (o p : List ℕ) → ordered_by r o ≡ ordered_by s p → (r ≡ s) × (o ≡ p)
