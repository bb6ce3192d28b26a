-- When write_order refuses: the statement, for every call. Assumes nothing.
use Prim.Native.Nat.{ℕ, ◌≤◌, ◌<◌}
use mathlib.Core.Path.{◌≡◌, sym, ap, ◌∙◌}
use mathlib.Core.Logic.{⊎_elim}
use mathlib.Core.List.{List}
use Rattle.std.specs.Prelude.{Some, None}
use native.Mathlib.Omega.{arith}
use lib.ListN.{length}
use Rattle.octets.specs.Laws.{le_or_lt}
use Rattle.tsar.specs.Rows.{Refusal}
use Rattle.orders.specs.Orders.{orders_of, Ordered, write_order_of}
use Rattle.orders.specs.Statement.{HasOrder, Refusals, EveryCall}
use Rattle.orders.proofs.Written.{orders_of_lem, too_few, too_many, no_order, too_short, passes}

module _ (n k : ℕ) (output : List ℕ) where
  abbrev Refused : Refusal → Type 0
  Refused r = write_order_of n k output ≡ record { refused = Some r; output = output }

  few : n < 2 → Refused (28, 0)
  few h = sym (too_few n k output h)

  many : 6 < n → Refused (28, 0)
  many h = sym (too_many n k output (omega arith) h)

  number : orders_of n ≤ k → Refused (28, 0)
  number h =
      ⊎_elim
      (λ (a : 2 ≤ n).
      ⊎_elim
      (λ (b : n ≤ 6). sym (no_order n k output a b (omega (arith, orders_of_lem n (omega arith)))))
      many
      (le_or_lt n 6))
      few
      (le_or_lt 2 n)

  short : HasOrder n k → length output < n → Refused (61, 0)
  short o h = sym (too_short n k output o.0 o.1 (omega (arith, o.2, orders_of_lem n (omega (arith, o.0)))) h)

  -- what is refused is not passed
  not_none : (r : Refusal) → Refused r → (write_order_of n k output).refused ≡ None → ⊥
  not_none r e f =
      let g : Some r ≡ None = sym (ap (λ (x : Ordered). x.refused) e) ∙ f in
      let z : ◌≡◌ {A = ℕ} 0 1 = cc in omega arith

  only : (write_order_of n k output).refused ≡ None → HasOrder n k × (n ≤ length output)
  only e =
      ⊎_elim
      (λ (a : 2 ≤ n).
      ⊎_elim
      (λ (b : n ≤ 6).
      ⊎_elim
      (λ (c : orders_of n ≤ k). absurd (not_none (28, 0) (number c) e))
      (λ (c : k < orders_of n).
      ⊎_elim
      (λ (l : n ≤ length output). ((a, b, c), l))
      (λ (l : length output < n). absurd (not_none (61, 0) (short (a, b, c) l) e))
      (le_or_lt n (length output)))
      (le_or_lt (orders_of n) k))
      (λ (b : 6 < n). absurd (not_none (28, 0) (many b) e))
      (le_or_lt n 6))
      (λ (a : n < 2). absurd (not_none (28, 0) (few a) e))
      (le_or_lt 2 n)

  each_call : Refusals n k output
  each_call = record {
    writes = λ o h. passes n k output o.0 o.1 (omega (arith, o.2, orders_of_lem n (omega (arith, o.0)))) h;
    writes_only = only;
    too_few = few;
    too_many = many;
    no_number = number;
    too_short = short;
  }

pub refusals : EveryCall
refusals = each_call
