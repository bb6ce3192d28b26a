-- `SegmentedMessage::evened` meets its contract. Assumes nothing.
use Rattle.segmentation.specs.Plan.{evened}
use Rattle.segmentation.proofs.SegmentedMessage.evened.Goals as goal

pub returns : goal.returns
unfolding evened
returns c = simp c.share.ensures
