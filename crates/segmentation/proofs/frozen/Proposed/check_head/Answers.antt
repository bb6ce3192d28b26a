-- `Proposed::check_head` meets its contract: what `validate` says are the codec's rows. Assumes nothing.
use mathlib.Core.Path.{ap, sym, ◌∙◌}
use Rattle.std.specs.Prelude.{length, Option, Err}
use Rattle.std.proofs.lemmas.Result.{err_from_is_err_and}
use Rattle.tsar.specs.Rows.{Refusal, refusal, or_else, refusal_append}
use Rattle.tsar.specs.Numbers.{validated_by}
use Rattle.tsar.specs.Writing.{codec_rows}
use Rattle.segmentation.specs.Frozen.{head_at, place_rows, answer_by}
use Rattle.segmentation.proofs.frozen.Proposed.check_head.Goals as goal

pub returns-in_err-validate : goal.returns-in_err-validate
returns-in_err-validate c =
    let s = c.args.self in
    let h = c.args.head in
    let r = err_from_is_err_and c.from_residual.result c.from_residual.ensures.1 in
    let e = sym c.validate.ensures ∙ ap validated_by c.in_err-validate.was in
    let place = place_rows s.payload_budget_octets (head_at s.heads.now 0).segment.transaction_id (length s.heads.now) (length s.message.now) h c.args.index in
    ap answer_by (r.1 ∙ ap Err r.2) ∙ sym (refusal_append (codec_rows s.version h.segment h.segment_data_length) place ∙ ap (λ (o : Option Refusal). or_else o (refusal place)) e)

pub returns : goal.returns
returns c =
    let s = c.args.self in
    let h = c.args.head in
    let e = sym c.validate.ensures ∙ ap validated_by c.in_ok-validate.was in
    let place = place_rows s.payload_budget_octets (head_at s.heads.now 0).segment.transaction_id (length s.heads.now) (length s.message.now) h c.args.index in
    c.check_place.ensures ∙ sym (refusal_append (codec_rows s.version h.segment h.segment_data_length) place ∙ ap (λ (o : Option Refusal). or_else o (refusal place)) e)
