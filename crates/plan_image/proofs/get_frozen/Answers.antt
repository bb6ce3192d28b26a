-- `plan_image::get_frozen` meets its contract: its test is that of the front and that of the heads. Assumes nothing.
use Rattle.std.specs.Prelude.{drop, refl}
use Rattle.std.proofs.Common.{sym, ◌∙◌}
use Rattle.image.specs.Spelling.{rest_of}
use Rattle.image.proofs.Read.{first_none, second_none, both_some}
use Rattle.plan_image.specs.Frozen.{front_of, heads_of, frozen_from, frozen_of, frozen_spells}
use Rattle.plan_image.proofs.get_frozen.Goals as goal

pub returns-in_err-front : goal.returns-in_err-front
returns-in_err-front c =
    let l = c.args.l.now in
    first_none _ _ _ (frozen_spells l c.requires) (front_of l) (heads_of (drop 25 l)) (frozen_of l) _ (sym c.get_front.ensures ∙ c.in_err-front.was) c.from_residual.ensures

pub returns-in_err-heads : goal.returns-in_err-heads
returns-in_err-heads c =
    let l = c.args.l.now in
    second_none _ _ _ (frozen_spells l c.requires) (front_of l) (heads_of (drop 25 l)) (frozen_of l) _ (rw (rest_of 25 l) at (sym c.get_heads.ensures ∙ c.in_err-heads.was)) c.from_residual-in_err-heads.ensures

pub returns : goal.returns
unfolding frozen_of
returns c =
    let l = c.args.l.now in
    both_some _ _ _ (frozen_spells l c.requires) (front_of l) (heads_of (drop 25 l)) (frozen_of l) _ _ frozen_from (sym c.get_front.ensures ∙ c.in_ok-front.was) (rw (rest_of 25 l) at (sym c.get_heads.ensures ∙ c.in_ok-heads.was)) refl
