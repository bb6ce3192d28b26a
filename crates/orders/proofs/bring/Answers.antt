-- `orders::bring` meets its contract, by what `rotate_right` leaves. Assumes nothing.
use Rattle.orders.proofs.Steps.{brought}
use Rattle.orders.proofs.bring.Goals as goal

pub returns : goal.returns
returns c = brought c.args.left.now c.rotate_right.new.self c.args.d c.requires c.rotate_right.ensures.after
