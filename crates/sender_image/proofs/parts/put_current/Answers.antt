-- `sender_image::parts::put_current` meets its contract: its four parts, one behind another. Assumes nothing.
use mathlib.Core.Path.{ap, subst, ◌∙◌}
use mathlib.Core.List.{[], ◌∷◌}
use Prim.Native.Nat.{ℕ, ◌+◌}
use lib.Seq.{sets}
use Rattle.std.specs.Int.{from_bool}
use Rattle.sender.specs.declared.Submission.{Submission}
use Rattle.image.specs.Numbers.{spell}
use Rattle.sender_image.specs.Parts.{SubmissionFits, current_put}
use Rattle.sender_image.proofs.parts.put_current.Goals as goal

pub returns : goal.returns
returns c =
    let x = c.args in
    let s = c.unwrap_or-x.ensures in
    let a = c.put in
    let b = c.put-2 in
    let d = c.put-3 in
    let e = c.put-4 in (
      current_put x.dst.now x.at x.c a.new.dst b.new.dst d.new.dst e.new.dst
          (a.ensures ∙ ap (λ (n : ℕ). sets x.dst.now x.at (n ∷ [])) (c.from.ensures ∙ ap from_bool c.is_some.ensures))
          (b.ensures.0 ∙ ap (λ (y : Submission). sets a.new.dst (x.at + 1) (spell 8 y.ticket)) s)
          (d.ensures ∙ ap (λ (y : Submission). sets b.new.dst (x.at + 9) (y.index ∷ [])) s)
          (e.ensures.0 ∙ ap (λ (y : Submission). sets d.new.dst (x.at + 10) (spell 8 y.prepared_monotonic_ms)) s),
      subst SubmissionFits s (record { ticket = b.ensures.1; prepared = e.ensures.1 }),
    )
