-- `plan_image::get_front` meets its contract: what is read is put again into as many octets, and compared. Assumes nothing.
use mathlib.Core.Path.{ap₂, ◌∙◌}
use Prim.Native.Nat.{ℕ}
use Rattle.std.specs.Bool.{then_some}
use lib.ListN.{replicate, length-replicate}
use Rattle.image.specs.Spelling.{put_again}
use Rattle.plan_image.specs.Frozen.{front_layout}
use Rattle.plan_image.proofs.get_front.Goals as goal

pub returns : goal.returns
returns c =
    let l = c.args.l.now in
    let f = c.read_front-front in
    let p = c.put_front in
    c.then_some.ensures ∙ ap₂ then_some (c.same.ensures ∙ put_again front_layout l (replicate 25 0) p.new.dst f.result (length-replicate {A = ℕ} 25 0) f.ensures p.ensures.0) f.ensures
