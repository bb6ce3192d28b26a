-- The layout of a deadline, 9 octets: flag, reading. What is absent is 0. Assumes nothing.
use Rattle.std.specs.Prelude.{◌≡◌, refl, cond, eqb, length, get_or, drop, Option, Some, None, List, ◌∷◌, ◌++◌, ℕ, ◌<◌}
use Rattle.std.specs.Int.{from_bool}
use Rattle.std.specs.Option.{is_some, unwrap_or}
use Rattle.std.proofs.Common.{ap}
use Rattle.image.specs.Spelling.{Layout}
use Rattle.image.specs.Numbers.{spell, number_of, number_back}

abbrev pub deadline_flag : Option ℕ → ℕ
deadline_flag d = from_bool (is_some d)

abbrev pub deadline_or0 : Option ℕ → ℕ
deadline_or0 d = unwrap_or d 0

unfoldable pub deadline_image : Option ℕ → List ℕ
deadline_image d = deadline_flag d ∷ spell 8 (deadline_or0 d)

abbrev pub deadline_from : ℕ → ℕ → Option ℕ
deadline_from flag t = cond (eqb flag 0) None (Some t)

unfoldable pub deadline_of : List ℕ → Option ℕ
deadline_of l = deadline_from (get_or l 0 0) (number_of 8 (drop 1 l))

abbrev pub DeadlineFits : Option ℕ → Type 0
DeadlineFits d = deadline_or0 d < 18446744073709551616

deadline_wide : (d : Option ℕ) → length (deadline_image d) ≡ 9
unfolding deadline_image spell
deadline_wide d = refl

deadline_back : (d : Option ℕ) → DeadlineFits d → (rest : List ℕ) → deadline_of (deadline_image d ++ rest) ≡ d
unfolding deadline_image deadline_of
deadline_back None f rest = refl
deadline_back (Some t) f rest = ap Some (number_back 8 t rest f)

pub deadline_layout : Layout deadline_image deadline_of 9 DeadlineFits
deadline_layout = record { wide = λ d f. deadline_wide d; reads_wide = λ l. deadline_wide (deadline_of l); back = deadline_back }
