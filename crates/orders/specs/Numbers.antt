-- The numbers of a refused order: 28 of document 02, 2026-10, and document 01's 61.
use Rattle.tsar.specs.Rows.{Refusal}
use Rattle.orders.specs.declared.OrderError.{OrderError}
use Rattle.orders.specs.declared.OrderError.TheVariants as error

abbrev pub order_number : OrderError → Refusal
order_number error.Number = (28, 0)
order_number error.Output = (61, 0)
