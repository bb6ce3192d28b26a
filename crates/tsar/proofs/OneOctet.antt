-- P10's Begin, for every first octet: a segment with a variable in its data is computed through the runs, not through the bits. Assumes nothing.
use mathlib.Core.Path.{◌≡◌, refl}
use mathlib.Core.List.{[], ◌∷◌}
use Prim.Native.Nat.{ℕ, zero, suc, ◌<◌}
use native.Mathlib.Omega.{arith}
use Rattle.std.specs.Prelude.{Some, None}
use Rattle.tsar.specs.declared.SegmentKind.TheVariants as kind'
use Rattle.tsar.specs.Layout.{written}
use Rattle.tsar.specs.Spells.{Octets}
use Rattle.tsar.proofs.Writes.{written_runs}

single : (d : ℕ) → d < 256 → Octets (d ∷ [])
single d h zero = h
single d h (suc i) = omega arith

-- a Begin of transaction 0 with the data d, stating a length of 7
pub p10_begin : (d : ℕ) → d < 256
    → written (record { transaction_id = 0; sequence_number = 0; segment_data = d ∷ []; kind = kind'.Begin (Some 7) None }) ≡ 0 ∷ 0 ∷ 1 ∷ d ∷ 0x10 ∷ 7 ∷ []
p10_begin d h =
    written_runs (record { transaction_id = 0; sequence_number = 0; segment_data = d ∷ []; kind = kind'.Begin (Some 7) None })
    (record { transaction_fits = omega arith; sequence_fits = omega arith; length_fits = omega arith; data_fits = single d h; kind_fits = (refl, omega arith) })
