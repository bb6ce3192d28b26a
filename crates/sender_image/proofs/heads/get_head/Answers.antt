-- `sender_image::heads::get_head` meets its contract: the head that is read is spelled again, and compared. Assumes nothing.
use mathlib.Core.Path.{ap₂, ◌∙◌}
use Prim.Native.Nat.{ℕ}
use Rattle.std.specs.Bool.{then_some}
use lib.ListN.{replicate, length-replicate}
use Rattle.image.specs.Spelling.{put_again}
use Rattle.sender_image.specs.Heads.{head_layout}
use Rattle.sender_image.proofs.heads.get_head.Goals as goal

pub returns : goal.returns
returns c =
    let l = c.args.l.now in
    let r = c.read_head-head in
    c.then_some.ensures ∙ ap₂ then_some (c.same.ensures ∙ put_again head_layout l (replicate 174 0) _ r.result (length-replicate {A = ℕ} 174 0) r.ensures c.put_head.ensures.0) r.ensures
