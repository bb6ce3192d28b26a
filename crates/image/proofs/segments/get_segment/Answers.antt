-- `image::segments::get_segment` meets its contract: the test of a segment is that of its kind. Assumes nothing.
use Rattle.std.proofs.Common.{sym, ap, ◌∙◌}
use Rattle.image.specs.Spelling.{rest_of}
use Rattle.image.specs.Segments.{kind_ok, segment_of, segment_spells}
use Rattle.image.proofs.Read.{read_some, read_none, gives_some, gives_none}
use Rattle.image.proofs.segments.get_segment.Goals as goal

pub returns-in_err-kind : goal.returns-in_err-kind
returns-in_err-kind c =
    let l = c.args.l.now in
    let k = read_none _ _ (sym c.get_kind.ensures ∙ c.in_err-kind.was) in
    gives_none _ _ _ (segment_spells l c.requires ∙ sym (ap kind_ok (rest_of 2 l)) ∙ k) c.from_residual.ensures

pub returns : goal.returns
unfolding segment_of
returns c =
    let l = c.args.l.now in
    let k = read_some _ _ _ (sym c.get_kind.ensures ∙ c.in_ok-kind.was) in
    gives_some _ (segment_of l) _ (segment_spells l c.requires ∙ sym (ap kind_ok (rest_of 2 l)) ∙ k.0) (rw (sym k.1, rest_of 2 l))
