-- Document 02, 2026-10, of the exported delivery orders: what the call gives and leaves, by its numbers. Assumes nothing.
use Prim.Native.Nat.{ℕ, ◌≤◌, ◌<◌}
use mathlib.Core.Path.{◌≡◌, ap, ◌∙◌}
use mathlib.Core.Logic.{⊎_elim}
use mathlib.Core.List.{List, ◌++◌}
use native.Mathlib.Omega.{arith}
use lib.ListN.{length, drop}
use Rattle.octets.specs.Laws.{le_or_lt}
use Rattle.orders.specs.Orders.{orders_of, order_of}
use Rattle.orders.specs.Statement.{IsOrder, HasOrder}
use Rattle.orders.proofs.Laws.{every_order_once}
use Rattle.orders.proofs.Refusals.{refusals}
use Rattle.plan_c.specs.Calls.{OrderCall, order_call, order_gives, delivery_order_call}

module _ (segments number : ℕ) (output : List ℕ) where
  -- no such train, or no order of that number: 7168, which is 28, and the output is left as it was
  pub export_few : segments < 2 → delivery_order_call segments number output ≡ order_call 7168 output
  export_few h = ap order_gives ((refusals segments number output).too_few h)

  pub export_many : 6 < segments → delivery_order_call segments number output ≡ order_call 7168 output
  export_many h = ap order_gives ((refusals segments number output).too_many h)

  pub export_number : orders_of segments ≤ number → delivery_order_call segments number output ≡ order_call 7168 output
  export_number h = ap order_gives ((refusals segments number output).no_number h)

  -- else, an output that is too short: 15616, which is 61
  pub export_61 : HasOrder segments number → length output < segments → delivery_order_call segments number output ≡ order_call 15616 output
  export_61 o h = ap order_gives ((refusals segments number output).too_short o h)

  -- else the order is written in front, and the octets behind it are left as they were
  pub export_order : HasOrder segments number → segments ≤ length output → delivery_order_call segments number output ≡ order_call 0 (order_of segments number ++ drop segments output)
  export_order o h = ap order_gives ((refusals segments number output).writes o h)

  -- and 0 says that it was
  module _ (e : (delivery_order_call segments number output).code ≡ 0) where
    not_0 : (n : ℕ) → 0 < n → delivery_order_call segments number output ≡ order_call n output → ⊥
    not_0 n h f = let g : (delivery_order_call segments number output).code ≡ n = ap (λ (x : OrderCall). x.code) f in omega (arith, e, g)

    pub export_0_only : HasOrder segments number × (segments ≤ length output)
    export_0_only =
        ⊎_elim
        (λ (a : 2 ≤ segments).
        ⊎_elim
        (λ (b : segments ≤ 6).
        ⊎_elim
        (λ (c : orders_of segments ≤ number). absurd (not_0 7168 (omega arith) (export_number c)))
        (λ (c : number < orders_of segments).
        ⊎_elim (λ (l : segments ≤ length output). ((a, b, c), l)) (λ (l : length output < segments). absurd (not_0 15616 (omega arith) (export_61 (a, b, c) l))) (le_or_lt segments (length output)))
        (le_or_lt (orders_of segments) number))
        (λ (b : 6 < segments). absurd (not_0 7168 (omega arith) (export_many b)))
        (le_or_lt segments 6))
        (λ (a : segments < 2). absurd (not_0 7168 (omega arith) (export_few a)))
        (le_or_lt 2 segments)

-- every order of a train of 2 to 6 segments is written, under a number below the count
pub export_every : (segments : ℕ) (o output : List ℕ) → 2 ≤ segments → segments ≤ 6 → IsOrder segments o → segments ≤ length output
    → (k : ℕ) × (k < orders_of segments) × (delivery_order_call segments k output ≡ order_call 0 (o ++ drop segments output))
export_every segments o output a b c h =
    let e = (every_order_once segments).every_is o c in
    (e.0, e.1, export_order segments e.0 output (a, b, e.1) h ∙ ap (λ (l : List ℕ). order_call 0 (l ++ drop segments output)) e.2)
