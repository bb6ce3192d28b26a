-- What plan_message's code asks: that its sums fit, and plan_message as the code goes through it. Assumes nothing.
use Prim.Native.Nat.{ℕ, ◌<◌}
use mathlib.Core.Path.{◌≡◌, refl, ap, sym}
use mathlib.Core.Bool.{Bool, true, false, cond}
use mathlib.Core.List.{List, [], ◌∷◌, ◌++◌, map}
use Rattle.std.specs.Prelude.{Option, Some, None}
use native.Mathlib.Omega.{arith}
use native.Mathlib.Nat.{div-eq_of_lt-le}
use Rattle.std.specs.Int.{div_ceil}
use Rattle.std.proofs.lemmas.Grind.{div_ceil_times}
use lib.Dec.{leb, ltb}
use Rattle.tsar.specs.Rows.{Refusal, refusal, first_of}
use Rattle.tsar.specs.Writing.{codec_rows}
use Rattle.tsar.specs.declared.AcknowledgmentWindow.{AcknowledgmentWindow}
use Rattle.segmentation.specs.Plan.{Planning, unsegmented, refused, segmented, refuses, is_exceptions, rounded_up, bare_begin, size_rows, plan_of, plan_message}

-- n / d rounded up, as `div_ceil` gives it
pub up_ceil : (n d : ℕ) → 0 < d → div_ceil n d ≡ rounded_up n d
up_ceil n d h = let b = div_ceil_times n d h in sym (div-eq_of_lt-le d (omega (arith, b.1)) (omega (arith, b.0)))

-- what the codec refuses is refused; else what is behind
abbrev pub after_codec : Option Refusal → Planning → Planning
after_codec None d = d
after_codec (Some r) d = refused r

codec_first : (cs : List (Bool × Refusal)) (ds : List (Bool × Planning)) (d : Planning) → first_of (map refuses cs ++ ds) d ≡ after_codec (refusal cs) (first_of ds d)
codec_first [] ds d = refl
codec_first (c ∷ cs) ds d = go c.0 (codec_first cs ds d)
  where
    go : (t : Bool) → first_of (map refuses cs ++ ds) d ≡ after_codec (refusal cs) (first_of ds d) → cond t (refused c.1) (first_of (map refuses cs ++ ds) d) ≡ after_codec (cond t (Some c.1) (refusal cs)) (first_of ds d)
    go true e = refl
    go false e = e

-- plan_message step by step
pub plan_steps : (n budget transaction : ℕ) (w : AcknowledgmentWindow) (version ceiling : ℕ) → plan_message n budget transaction w version ceiling ≡ cond (ltb ceiling budget) (refused (20, 0)) (cond (leb n budget) unsegmented (cond (is_exceptions w) (refused (25, 0)) (after_codec (refusal (codec_rows version (bare_begin transaction w) 0)) (first_of (size_rows n budget w) (segmented (plan_of n budget transaction w))))))
unfolding plan_message
plan_steps n budget transaction w version ceiling =
    ap (λ (d : Planning). cond (ltb ceiling budget) (refused (20, 0)) (cond (leb n budget) unsegmented (cond (is_exceptions w) (refused (25, 0)) d)))
    (codec_first (codec_rows version (bare_begin transaction w) 0) (size_rows n budget w) (segmented (plan_of n budget transaction w)))
