-- `SegmentedMessage::share` meets its contract: over no segment the quotient is 0. Assumes nothing.
use mathlib.Core.Path.{◌≡◌, sym, ap, ap₂, ◌∙◌}
use native.Mathlib.Omega.{arith}
use native.Mathlib.Nat.{div-zero}
use Rattle.std.specs.Prelude.{ℕ, ◌/◌, ◌<◌, Option, Some, None}
use Rattle.std.specs.Option.{SomeIff, unwrap_or}
use Rattle.segmentation.specs.Plan.{share_of}
use Rattle.segmentation.proofs.SegmentedMessage.share.Goals as goal

shared : (o : Option ℕ) (r k : ℕ) → SomeIff o (0 < k) (r / k) → unwrap_or o 0 ≡ r / k
shared None r k h = let e : k ≡ 0 = omega (arith, h) in sym (ap (λ (x : ℕ). r / x) e ∙ div-zero r)
shared (Some x) r k h = h.1

pub returns : goal.returns
unfolding share_of
returns c = c.unwrap_or.ensures ∙ shared _ _ _ c.checked_div.ensures ∙ ap₂ {C = ℕ} ◌/◌ c.saturating_sub-rest.ensures c.saturating_sub-following.ensures
