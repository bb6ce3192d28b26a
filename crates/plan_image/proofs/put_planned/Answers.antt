-- `plan_image::put_planned` meets its contract: two numbers, two octets and a row, one behind another. Assumes nothing.
use mathlib.Core.Path.{ap, subst, ◌∙◌}
use mathlib.Core.List.{[], ◌∷◌}
use Prim.Native.Nat.{ℕ, ◌+◌}
use lib.Seq.{sets}
use Rattle.plan_image.specs.declared.Row.{Row}
use Rattle.plan_image.specs.Row.{row_image, RowFits}
use Rattle.plan_image.specs.Planned.{planned_put}
use Rattle.plan_image.proofs.put_planned.Goals as goal

pub returns : goal.returns
returns c =
    let x = c.args in
    let w = c.from.ensures in
    let a = c.put in
    let b = c.put-2 in
    let o = c.put-3 in
    let e = c.capacities.ensures in
    let r = c.put_row in (
      planned_put x.dst.now a.new.dst b.new.dst o.new.dst r.new.dst x.at x.p a.ensures.0 b.ensures.0
          (o.ensures ∙ ap (λ (n : ℕ). sets b.new.dst (x.at + 16) (x.p.transaction_id ∷ n ∷ [])) w)
          (r.ensures.0 ∙ ap (λ (y : Row). sets o.new.dst (x.at + 18) (row_image y)) e),
      record { octets = a.ensures.1; budget = b.ensures.1; row = subst RowFits e r.ensures.1 },
    )
