-- Orders and calls of 2026-10 spelled out, by computation. Assumes nothing.
use mathlib.Core.Path.{◌≡◌, refl}
use mathlib.Core.List.{[], ◌∷◌}
use Rattle.std.specs.Prelude.{Some, None}
use lib.ListN.{replicate}
use Rattle.orders.specs.Orders.{arranged, orders_of, order_of, write_order_of}

-- how many, and which
abbrev Counts : Type 0
Counts = (orders_of 2 ≡ 1) × (orders_of 3 ≡ 2) × (orders_of 4 ≡ 6) × (orders_of 5 ≡ 24) × (orders_of 6 ≡ 120)

abbrev Orders : Type 0
Orders =
    (order_of 2 0 ≡ 0 ∷ 1 ∷ [])
    × (order_of 3 0 ≡ 0 ∷ 1 ∷ 2 ∷ [])
    × (order_of 3 1 ≡ 0 ∷ 2 ∷ 1 ∷ [])
    × (order_of 4 3 ≡ 0 ∷ 2 ∷ 3 ∷ 1 ∷ [])
    × (order_of 6 0 ≡ 0 ∷ 1 ∷ 2 ∷ 3 ∷ 4 ∷ 5 ∷ [])
    × (order_of 6 23 ≡ 0 ∷ 1 ∷ 5 ∷ 4 ∷ 3 ∷ 2 ∷ [])
    × (order_of 6 24 ≡ 0 ∷ 2 ∷ 1 ∷ 3 ∷ 4 ∷ 5 ∷ [])
    × (order_of 6 119 ≡ 0 ∷ 5 ∷ 4 ∷ 3 ∷ 2 ∷ 1 ∷ [])

counts : Counts
counts = (refl, refl, refl, refl, refl)

some_orders : Orders
unfolding order_of arranged
some_orders = (refl, refl, refl, refl, refl, refl, refl, refl)

-- calls: the octets behind the order stay, and so do all beside a refusal; the edges of 28 and of 61, and 28 before 61
abbrev Calls : Type 0
Calls =
    (write_order_of 3 1 (replicate 4 0xa5) ≡ record { refused = None; output = 0 ∷ 2 ∷ 1 ∷ 0xa5 ∷ [] })
    × (write_order_of 2 0 (replicate 2 0xa5) ≡ record { refused = None; output = 0 ∷ 1 ∷ [] })
    × (write_order_of 6 119 (replicate 6 0xa5) ≡ record { refused = None; output = 0 ∷ 5 ∷ 4 ∷ 3 ∷ 2 ∷ 1 ∷ [] })
    × (write_order_of 0 0 (replicate 2 0xa5) ≡ record { refused = Some (28, 0); output = replicate 2 0xa5 })
    × (write_order_of 1 0 [] ≡ record { refused = Some (28, 0); output = [] })
    × (write_order_of 7 0 (replicate 7 0xa5) ≡ record { refused = Some (28, 0); output = replicate 7 0xa5 })
    × (write_order_of 2 1 (replicate 2 0xa5) ≡ record { refused = Some (28, 0); output = replicate 2 0xa5 })
    × (write_order_of 3 2 (replicate 2 0xa5) ≡ record { refused = Some (28, 0); output = replicate 2 0xa5 })
    × (write_order_of 6 120 [] ≡ record { refused = Some (28, 0); output = [] })
    × (write_order_of 3 1 (replicate 2 0xa5) ≡ record { refused = Some (61, 0); output = replicate 2 0xa5 })
    × (write_order_of 6 119 (replicate 5 0xa5) ≡ record { refused = Some (61, 0); output = replicate 5 0xa5 })
    × (write_order_of 2 0 [] ≡ record { refused = Some (61, 0); output = [] })

calls : Calls
unfolding write_order_of order_of arranged
calls = (refl, refl, refl, refl, refl, refl, refl, refl, refl, refl, refl, refl)
