-- `image::numbers::read` meets its contract: the octets are copied out, and joined. Assumes nothing.
use Rattle.std.proofs.Common.{take, drop, ◌≡◌, ◌∙◌, ap}
use Rattle.std.proofs.Math.Nat.{add-sub_cancel_left}
use Rattle.image.specs.Numbers.{value, number_read}
use Rattle.image.proofs.numbers.read.Goals as goal

pub returns : goal.returns
returns g c =
    let e : c.copy_from_slice.new.self ≡ take g.row.W (drop c.args.at c.args.l.now) = rw add-sub_cancel_left at c.copy_from_slice.ensures.after in
    number_read g.row.W (drop c.args.at c.args.l.now) (g.N.Number.number c.join.result) (c.join.ensures.number ∙ ap value e) (c.join.ensures.octets ∙ e)
