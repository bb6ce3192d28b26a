use Rattle.std.specs.Prelude.{◌≡◌, ℕ, ◌<◌, get_or, take}
use Rattle.std.proofs.lemmas.List.Edits.{sets}
use Rattle.segmentation.specs.Frozen.{no_head}
use Rattle.image.specs.Segments.{HeadFits}
use Rattle.plan_image.specs.Frozen.{heads_image}
use Rattle.plan_image.proofs.put_heads.Given as goal

abbrev pub invariant-loop-i : goal.invariant-loop-i
invariant-loop-i l = (l.dst ≡ sets l.initial.dst l.at (heads_image (take l.i l.head-items))) × ((k : ℕ) → k < l.i → HeadFits (get_or l.head-items k no_head))
