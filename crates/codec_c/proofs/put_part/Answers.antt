-- `codec_c::put_part` meets its contract: the head and the number are written one behind the other over 31 octets, which are then copied.
-- Assumes nothing.
use mathlib.Core.Path.{ap, ◌∙◌}
use Prim.Native.Nat.{ℕ}
use lib.ListN.{replicate, length-replicate}
use lib.Seq.{sets}
use Rattle.codec_c.specs.Laws.{part_spelled}
use Rattle.codec_c.proofs.put_part.Goals as goal

pub returns : goal.returns
returns c =
    let x = c.args in
    let h = c.put_head in
    let n = c.put in
    c.put-2.ensures
    ∙ ap (sets x.answer.now 0)
    (part_spelled (replicate 31 0) h.new.dst n.new.dst x.head x.number (length-replicate {A = ℕ} 31 0) h.ensures.1 h.ensures.0 n.ensures.0)
