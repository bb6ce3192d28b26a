use Prim.Native.Nat.{ℕ, ◌+◌, ◌-◌, ◌≤◌, ◌<◌}
use mathlib.Core.Path.{◌≡◌}
use lib.ListN.{length, drop}
use Rattle.tsar.specs.Reading.{run_params, params_of}
use Rattle.tsar.proofs.decode.read_params.Given as goal

abbrev pub invariant-loop-next : goal.invariant-loop-next
invariant-loop-next l =
    record {
      same : l.reader.bytes.now ≡ l.bytes;
      within : l.reader.offset ≤ length l.bytes;
      left : (f : ℕ) × (length l.bytes < f + l.reader.offset)
          × (run_params f l.kind l.params l.reader.offset (drop l.reader.offset l.bytes) ≡ params_of l.kind l.start (drop l.start l.bytes));
    }

abbrev pub decreases-loop-next : goal.decreases-loop-next
decreases-loop-next l = length l.bytes - l.reader.offset
