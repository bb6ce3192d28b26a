-- `frozen::no_plan` meets its contract: 256 empty heads are those that a plan of no segments keeps. Assumes nothing.
use mathlib.Core.Path.{refl, ap}
use mathlib.Core.List.{List}
use Rattle.tsar.specs.declared.AcknowledgmentWindow.TheVariants.{Prohibited}
use Rattle.tsar.specs.declared.SegmentHead.{SegmentHead}
use Rattle.segmentation.specs.Frozen.{no_head}
use Rattle.segmentation.specs.Heads.{none_kept}
use Rattle.segmentation.proofs.frozen.no_plan.Goals as goal

pub returns : goal.returns
returns c =
    ap (λ (h : List SegmentHead). record { heads = h; count = 0; message_octets = 0; payload_budget_octets = 0; acknowledgment_window = Prohibited }) (none_kept no_head refl)
