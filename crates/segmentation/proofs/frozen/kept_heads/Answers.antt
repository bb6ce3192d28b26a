-- `frozen::kept_heads` meets its contract: empty heads, and these copied in front of them. Assumes nothing.
use mathlib.Core.Path.{ap, ◌∙◌}
use mathlib.Core.List.{List, ◌++◌}
use lib.ListN.{length, drop, replicate}
use Rattle.tsar.specs.declared.SegmentHead.{SegmentHead}
use Rattle.segmentation.specs.Frozen.{no_head}
use Rattle.segmentation.specs.Heads.{kept_front}
use Rattle.segmentation.proofs.frozen.kept_heads.Goals as goal

pub returns : goal.returns
returns c = ap (λ (l : List SegmentHead). l ++ drop (length c.args.heads.now) (replicate 256 no_head)) c.copy_from_slice.ensures.after ∙ kept_front c.args.heads.now
