-- Each answer of write_order has a number of its own: from the number back to the answer. Assumes nothing.
use mathlib.Core.Path.{◌≡◌, refl, sym, ap, ◌∙◌}
use mathlib.Core.Bool.{cond}
use Rattle.std.specs.Prelude.{Option, Result, Some, None, Ok, Err}
use Rattle.orders.specs.declared.OrderError.{OrderError}
use lib.Dec.{eqb}
use Rattle.tsar.specs.Rows.{Refusal}
use Rattle.orders.specs.declared.OrderError.TheVariants as error
use Rattle.orders.specs.Orders.{Ordered, refused_by}
use Rattle.orders.specs.Statement.{OneAnswer}

-- from the number back
abbrev answer_of : Option Refusal → Result Unit OrderError
answer_of None = (Ok tt)
answer_of (Some r) = Err (cond (eqb r.0 28) error.Number error.Output)

answer_of_lem : (a : Result Unit OrderError) → answer_of (refused_by a) ≡ a
answer_of_lem (Ok tt) = refl
answer_of_lem (Err error.Number) = refl
answer_of_lem (Err error.Output) = refl

pub one_answer : OneAnswer
one_answer r s o p e = (sym (answer_of_lem r) ∙ ap (λ (x : Ordered). answer_of x.refused) e ∙ answer_of_lem s, ap (λ (x : Ordered). x.output) e)
