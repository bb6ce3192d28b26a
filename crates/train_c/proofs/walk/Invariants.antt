use mathlib.Core.Path.{◌≡◌}
use Prim.Native.Nat.{◌*◌, ◌/◌, ◌-◌, ◌<◌}
use lib.ListN.{length, drop}
use Rattle.train_c.specs.Walk.{train, segments_of, start_of, train_of}
use Rattle.train_c.proofs.walk.Given as goal

abbrev pub invariant-loop-i : goal.invariant-loop-i
invariant-loop-i l =
    (l.count ≡ length l.lengths / 2)
    × (l.count < 9223372036854775808)
    × (train_of l.peer l.protocol l.reading (segments_of (l.count - l.i) (drop (2 * l.i) l.lengths) (drop l.at l.octets)) (train 0 l.receiver l.store l.output l.i l.reception.response l.reception.message)
    ≡ train_of l.peer l.protocol l.reading (segments_of (length l.lengths / 2) l.lengths l.octets) (start_of l.initial.receiver l.initial.store l.initial.output))
