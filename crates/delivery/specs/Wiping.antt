-- The definitions that the laws of proofs/Wiping speak of.
use Rattle.std.specs.Prelude.{ℕ, ◌<◌, ◌≡◌, false, get_or}
use Rattle.receiver.specs.Record.{taking, store_octets}
use Rattle.delivery.specs.Calls.{Left}

-- so a closed receiver's store is wiped, whatever calls were made since try_new
abbrev pub Clean : Left → Type 0
Clean w = taking w.receiver.progress.state ≡ false → (i : ℕ) → i < store_octets → get_or w.store i 0 ≡ 0
