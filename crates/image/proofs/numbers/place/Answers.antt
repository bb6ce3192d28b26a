-- `image::numbers::place` meets its contract: what fits whole is written over by the whole of it. Assumes nothing.
use Rattle.std.proofs.Common.{length, sym, ◌∙◌, arith}
use Rattle.octets.proofs.Written.{sets_part}
use lib.Seq.{take_all}
use Rattle.image.proofs.numbers.place.Goals as goal

pub returns : goal.returns
returns c =
    let x = c.args in
    let n = length x.src.now in
    sets_part x.dst.now x.at x.src.now c.copy_from_slice.new.self x.at n (omega (arith, c.requires)) (omega (arith, c.requires))
    (c.copy_from_slice.ensures.after ∙ sym (take_all n x.src.now (omega arith)))
