-- `image_link::get_response` meets its contract: the response that is read is spelled again, and compared. Assumes nothing.
use Rattle.std.specs.Prelude.{ℕ, replicate}
use Rattle.std.specs.Bool.{then_some}
use Rattle.std.proofs.Common.{ap₂, ◌∙◌}
use Rattle.std.proofs.lemmas.List.{length-replicate}
use Rattle.image.specs.Spelling.{put_again}
use Rattle.image_link.specs.Responses.{response_layout}
use Rattle.image_link.proofs.get_response.Goals as goal

pub returns : goal.returns
returns c =
    let l = c.args.l.now in
    let r = c.read_response-response in
    c.then_some.ensures
    ∙ ap₂ then_some (c.same.ensures ∙ put_again response_layout l (replicate 41 0) _ r.result (length-replicate {A = ℕ} 41 0) r.ensures c.put_response.ensures.0) r.ensures
