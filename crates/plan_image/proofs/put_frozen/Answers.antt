-- `plan_image::put_frozen` meets its contract: the front, and the heads behind it. Assumes nothing.
use mathlib.Core.Path.{refl, ap, subst, ◌∙◌}
use Prim.Native.Nat.{◌+◌}
use lib.Seq.{sets}
use Rattle.image.specs.Spelling.{put_next}
use Rattle.plan_image.specs.declared.Front.{Front}
use Rattle.plan_image.specs.Frozen.{front_image, front_wide, front_in, FrontFits, heads_image, frozen_image}
use Rattle.plan_image.proofs.put_frozen.Goals as goal

pub returns : goal.returns
unfolding frozen_image
returns c =
    let x = c.args in
    let p = c.put_front in
    let e = c.from.ensures in
    let h = c.put_heads in (
      put_next x.dst.now x.at (front_image (front_in x.f)) (heads_image x.f.heads) p.new.dst h.new.dst (x.at + 25) 25
          (p.ensures.0 ∙ ap (λ (y : Front). sets x.dst.now x.at (front_image y)) e)
          (front_wide (front_in x.f))
          refl
          h.ensures.0,
      record { front = subst FrontFits e p.ensures.1; heads = h.ensures.1 },
    )
