-- The case of a number, as the conversions of tsar give it: past the last, the first. Assumes nothing.
use Rattle.std.specs.Prelude.{◌≡◌, refl, false, ℕ, zero, suc, ◌<◌, eqb}
use Rattle.std.proofs.Common.{arith}
use Rattle.std.proofs.lemmas.Bool.{ne_eqb}
use Rattle.std.specs.Option.{ok_or}
use Rattle.std.specs.Result.{result_unwrap_or}
use Rattle.tsar.specs.Reading as reading
use Rattle.tsar.specs.declared.Compression.TheVariants as compression
use Rattle.tsar.specs.declared.AcknowledgmentWindow.TheVariants as window
use Rattle.tsar.specs.declared.CrcStatus.TheVariants as crc_status
use Rattle.tsar.specs.declared.Error.TheVariants.{Reserved}
use Rattle.image.specs.Cases.{compression_of, window_of, crc_status_of}

above : (n k : ℕ) → k < n → eqb n k ≡ false
above n k h = ne_eqb n k (λ e. omega arith)

pub compression_first : (n : ℕ) → result_unwrap_or (ok_or (reading.compression_of n) Reserved) compression.None ≡ compression_of n
unfolding reading.compression_of
compression_first zero = refl
compression_first (suc zero) = refl
compression_first (suc (suc n)) = let past = above (suc (suc n)) in rw (past 0 (omega arith), past 1 (omega arith))

pub window_first : (n : ℕ) → result_unwrap_or (ok_or (reading.window_of n) Reserved) window.Prohibited ≡ window_of n
unfolding reading.window_of
window_first zero = refl
window_first (suc zero) = refl
window_first (suc (suc zero)) = refl
window_first (suc (suc (suc zero))) = refl
window_first (suc (suc (suc (suc zero)))) = refl
window_first (suc (suc (suc (suc (suc zero))))) = refl
window_first (suc (suc (suc (suc (suc (suc n)))))) =
    let past = above (suc (suc (suc (suc (suc (suc n)))))) in
    rw (past 0 (omega arith), past 1 (omega arith), past 2 (omega arith), past 3 (omega arith), past 4 (omega arith), past 5 (omega arith))

pub crc_status_first : (n : ℕ) → result_unwrap_or (ok_or (reading.status_of n) Reserved) crc_status.None ≡ crc_status_of n
unfolding reading.status_of
crc_status_first zero = refl
crc_status_first (suc zero) = refl
crc_status_first (suc (suc zero)) = refl
crc_status_first (suc (suc (suc n))) = let past = above (suc (suc (suc n))) in rw (past 0 (omega arith), past 1 (omega arith), past 2 (omega arith))
