-- Bench profiles: change request 2026-11. What a machine of neither profile would wait for is never asked: its calls give 62.
use Rattle.std.specs.Prelude.{ℕ, Bool, cond, ◌||◌, eqb}

unfoldable pub known_profile : ℕ → Bool
known_profile p = eqb p 1 || eqb p 2

-- milliseconds: profile 2 waits 120,000 at the receiver and 150,000 at the sender, profile 1 300,000 and 330,000
unfoldable pub receiver_interval : ℕ → ℕ
receiver_interval p = cond (eqb p 2) 120000 300000

unfoldable pub sender_interval : ℕ → ℕ
sender_interval p = cond (eqb p 2) 150000 330000
