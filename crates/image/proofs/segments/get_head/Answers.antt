-- `image::segments::get_head` meets its contract: the test of a head is that of its segment, since the rest spells a number. Assumes nothing.
use Rattle.std.proofs.Common.{sym, ◌∙◌}
use Rattle.image.specs.Segments.{head_of, head_spells}
use Rattle.image.proofs.Read.{read_some, read_none, gives_some, gives_none}
use Rattle.image.proofs.segments.get_head.Goals as goal

pub returns-in_err-segment : goal.returns-in_err-segment
returns-in_err-segment c =
    let l = c.args.l.now in
    let s = read_none _ _ (sym c.get_segment.ensures ∙ c.in_err-segment.was) in
    gives_none _ _ _ (head_spells l c.requires c.read-n.ensures.passes ∙ s) c.from_residual.ensures

pub returns : goal.returns
unfolding head_of
returns c =
    let l = c.args.l.now in
    let s = read_some _ _ _ (sym c.get_segment.ensures ∙ c.in_ok-segment.was) in
    let n = c.read-n.ensures in
    gives_some _ (head_of l) _ (head_spells l c.requires n.passes ∙ s.0) (rw (sym s.1, n.reads))
