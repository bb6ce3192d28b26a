-- `plan_image::get_form` meets its contract: the form that is read is put again into as many octets, and compared. Assumes nothing.
use mathlib.Core.Path.{ap₂, ◌∙◌}
use Prim.Native.Nat.{ℕ}
use Rattle.std.specs.Bool.{then_some}
use lib.ListN.{replicate, length-replicate}
use Rattle.image.specs.Spelling.{put_again}
use Rattle.plan_image.specs.Plans.{form_layout}
use Rattle.plan_image.proofs.get_form.Goals as goal

pub returns : goal.returns
returns c =
    let l = c.args.l.now in
    let f = c.read_form-form in
    let p = c.put_form in
    c.then_some.ensures ∙ ap₂ then_some (c.same.ensures ∙ put_again form_layout l (replicate 44 0) p.new.dst f.result (length-replicate {A = ℕ} 44 0) f.ensures p.ensures.0) f.ensures
