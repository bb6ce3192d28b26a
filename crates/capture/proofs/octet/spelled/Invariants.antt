-- Reading on from the character at the index, after n octets, gives what reading from the start gives, and writing on after the n octets that are
-- written gives what writing all does.
use Rattle.std.proofs.Common.{◌≡◌, ℕ, ◌+◌, ◌≤◌, List, length, drop, Result}
use Rattle.std.proofs.lemmas.List.Edits.{sets}
use Rattle.capture.specs.declared.octet.BadOctets.{BadOctets}
use Rattle.capture.specs.Hexadecimal.{spelled_from, spelled_of}
use Rattle.capture.proofs.octet.spelled.Given as goal

-- what is left to read, r, and the octets out, of which n are written, make the whole
abbrev pub Goes : List ℕ → ℕ → List ℕ → List ℕ → ℕ → Result ℕ BadOctets × List ℕ → Type 0
Goes rest at out₀ out n r = (r.0 ≡ (spelled_of (length out₀) at rest).0) × (sets out n r.1 ≡ sets out₀ 0 (spelled_of (length out₀) at rest).1)

abbrev pub invariant-loop-i : goal.invariant-loop-i
invariant-loop-i l = (length l.out ≡ length l.initial.out) × (l.n ≤ length l.initial.out) × Goes l.rest l.at l.initial.out l.out l.n (spelled_from (length l.initial.out) l.high l.n (l.at + l.i-counter) (drop l.i-counter l.rest))
