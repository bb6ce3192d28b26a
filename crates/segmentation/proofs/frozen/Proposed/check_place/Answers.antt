-- `Proposed::check_place` meets its contract: a header and its data are few octets. Assumes nothing.
use native.Mathlib.Omega.{arith}
use Rattle.segmentation.proofs.Placing.{header_small}
use Rattle.segmentation.proofs.frozen.Proposed.check_place.Goals as goal

pub overflow_add-header_octets : goal.overflow_add-header_octets
overflow_add-header_octets c = omega (arith, c.header_octets.ensures, header_small c.args.head.segment.kind)
