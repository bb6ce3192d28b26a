-- `image_link::get_marks` meets its contract: four numbers are read, each of which passes its test. Assumes nothing.
use Rattle.image_link.specs.Marks.{marks_of, marks_spells}
use Rattle.image_link.proofs.get_marks.Goals as goal

pub returns : goal.returns
unfolding marks_of
returns c =
    let a = c.read.ensures in
    let b = c.read-2.ensures in
    let d = c.read-3.ensures in
    let e = c.read-4.ensures in
    (rw (a.reads, b.reads, d.reads, e.reads), marks_spells c.args.l.now c.requires a.passes b.passes d.passes e.passes)
