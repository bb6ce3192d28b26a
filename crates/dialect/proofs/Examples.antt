-- Trains of 14 octets in 3 segments, by computation: converted both ways, and each refusal. Assumes nothing.
use Prim.Native.Nat.{ℕ}
use mathlib.Core.Path.{◌≡◌, refl}
use mathlib.Core.List.{List, [], ◌∷◌}
use Rattle.std.specs.Prelude.{Option, Some, None}
use native.Mathlib.Omega.{arith}
use Rattle.octets.specs.Octets.{same_octets}
use Rattle.tsar.specs.Writing.{header_octets}
use Rattle.tsar.specs.declared.SegmentKind.{SegmentKind}
use Rattle.tsar.specs.declared.SegmentKind.TheVariants as kind'
use Rattle.tsar.specs.declared.SegmentHead.{SegmentHead}
use Rattle.segmentation.specs.Frozen.{Proposal, data_before, segments_from, frozen_refusal, kept_heads, frozen_of}
use Rattle.dialect.specs.declared.Dialect.TheVariants.{BeginOnly, Every}
use Rattle.dialect.specs.Convert.{later_in, restate_later, passes_budget, convert_refusal, convert_of}
use Rattle.dialect.specs.Statement.{TooLong}

abbrev head : ℕ → SegmentKind → ℕ → SegmentHead
head i k octets = record { segment = record { transaction_id = 5; sequence_number = i; kind = k }; segment_data_length = octets }

-- what each of the three states, and how many octets it has
abbrev train : Option ℕ → Option ℕ → Option ℕ → ℕ → ℕ → ℕ → List SegmentHead
train a b c x y z = head 0 (kind'.Begin a None) x ∷ head 1 (kind'.Continue b) y ∷ head 2 (kind'.End c None) z ∷ []

abbrev octets : List ℕ
octets = 1 ∷ 2 ∷ 3 ∷ 4 ∷ 5 ∷ 6 ∷ 7 ∷ 8 ∷ 9 ∷ 10 ∷ 11 ∷ 12 ∷ 13 ∷ 14 ∷ []

abbrev of : List SegmentHead → ℕ → Proposal
of heads budget = record { heads = heads; count = 3; joined = octets; message = octets; budget = budget; version = 1; ceiling = 200 }

abbrev it : Option ℕ
it = Some 14

abbrev not_it : Option ℕ
not_it = None

-- there and back, plan by plan
abbrev Both : Type 0
Both =
    (convert_of BeginOnly (of (train it not_it not_it 3 6 5) 11) ≡ record { refused = None; plan = frozen_of (of (train it it it 3 6 5) 11) })
    × (convert_of Every (of (train it it it 3 6 5) 11) ≡ record { refused = None; plan = frozen_of (of (train it not_it not_it 3 6 5) 11) })

both : Both
unfolding convert_of convert_refusal frozen_refusal segments_from data_before header_octets same_octets later_in restate_later passes_budget kept_heads
both = (refl, refl)

-- 20 by the Continue alone, by the End alone, and one octet more; 26 for every other pattern, both ways; 26 before 20; the check before 26
abbrev Refusals : Type 0
Refusals =
    (convert_refusal BeginOnly (of (train it not_it not_it 3 6 5) 10) ≡ Some (20, 0))
    × (convert_refusal BeginOnly (of (train it not_it not_it 3 4 7) 11) ≡ Some (20, 0))
    × (convert_refusal BeginOnly (of (train it not_it not_it 3 4 7) 12) ≡ None)
    × (convert_refusal BeginOnly (of (train not_it not_it not_it 3 6 5) 11) ≡ Some (26, 0))
    × (convert_refusal Every (of (train not_it not_it not_it 3 6 5) 11) ≡ Some (26, 0))
    × (convert_refusal BeginOnly (of (train it not_it it 3 6 5) 11) ≡ Some (26, 0))
    × (convert_refusal Every (of (train it not_it it 3 6 5) 11) ≡ Some (26, 0))
    × (convert_refusal BeginOnly (of (train it it not_it 3 6 5) 11) ≡ Some (26, 0))
    × (convert_refusal Every (of (train it it not_it 3 6 5) 11) ≡ Some (26, 0))
    × (convert_refusal BeginOnly (of (train not_it it it 3 6 5) 11) ≡ Some (26, 0))
    × (convert_refusal Every (of (train not_it it it 3 6 5) 11) ≡ Some (26, 0))
    × (convert_refusal Every (of (train it not_it not_it 3 6 5) 11) ≡ Some (26, 0))
    × (convert_refusal BeginOnly (of (train it it it 3 6 5) 11) ≡ Some (26, 0))
    × (convert_refusal BeginOnly (of (train it not_it it 3 6 5) 10) ≡ Some (26, 0))
    × (convert_refusal BeginOnly (of (train it not_it not_it 3 6 4) 11) ≡ Some (24, 0))
    × (convert_refusal Every (of (train it not_it (Some 13) 3 6 5) 11) ≡ Some (23, 0))

refusals : Refusals
unfolding convert_refusal frozen_refusal segments_from data_before header_octets same_octets later_in restate_later passes_budget
refusals = (refl, refl, refl, refl, refl, refl, refl, refl, refl, refl, refl, refl, refl, refl, refl, refl)

-- the Continue is too long by one octet, and the End
longer : TooLong (of (train it not_it not_it 3 6 5) 10) × TooLong (of (train it not_it not_it 3 4 7) 11)
unfolding header_octets
longer = ((1, omega arith, omega arith, omega arith), (2, omega arith, omega arith, omega arith))
