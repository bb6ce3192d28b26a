-- How many octets a segment has: its header octets and its data, 3 to 264 in all. Assumes nothing.
use mathlib.Core.Path.{◌≡◌, refl, sym, ap, ◌∙◌}
use Prim.Native.Nat.{◌+◌, ◌≤◌}
use native.Mathlib.Omega.{arith}
use lib.ListN.{length}
use Rattle.std.specs.Prelude.{Option, Some, None, ℕ}
use Rattle.tsar.specs.declared.OptionalServices.{OptionalServices}
use Rattle.tsar.specs.declared.MessageCrc.{MessageCrc}
use Rattle.tsar.specs.declared.MessageCrc.TheVariants as crc
use Rattle.tsar.specs.declared.SegmentKind.{SegmentKind}
use Rattle.tsar.specs.declared.SegmentKind.TheVariants as kind'
use Rattle.tsar.specs.Layout.{WholeSegment, length_param, services_param, crc_param, written}
use Rattle.tsar.specs.Octets.{params_octets}
use Rattle.tsar.specs.Spells.{Fits}
use Rattle.tsar.specs.Writing.{length_in, rest_params, word_octets, crc_octets, header_octets}
use Rattle.tsar.proofs.Writes.{written_runs, runs_size}

-- the octets of each parameter are as many as are counted
length_counted : (n : Option ℕ) → length (params_octets (length_param n)) ≡ word_octets n
length_counted None = refl
length_counted (Some n) = refl

services_counted : (s : Option OptionalServices) → length (params_octets (services_param s)) ≡ word_octets s
services_counted None = refl
services_counted (Some s) = refl

crc_counted : (c : Option MessageCrc) → length (params_octets (crc_param c)) ≡ crc_octets c
crc_counted None = refl
crc_counted (Some (crc.Crc16 v)) = refl
crc_counted (Some (crc.Crc24 v)) = refl

-- the header octets are three, those of the length and those of the parameters behind it
pub header_counted : (k : SegmentKind) → header_octets k ≡ 3 + length (params_octets (length_param (length_in k))) + length (params_octets (rest_params k))
unfolding header_octets
header_counted (kind'.Begin n s) = sym (rw (length_counted, services_counted))
header_counted (kind'.Continue n) = omega (arith, length_counted n)
header_counted (kind'.End n c) = sym (rw (length_counted, crc_counted))

-- a stated length has at most two octets
pub length_octets_le : (n : Option ℕ) → length (params_octets (length_param n)) ≤ 2
length_octets_le None = omega arith
length_octets_le (Some n) = omega arith

-- the parameters behind it at most four
pub rest_octets_le : (k : SegmentKind) → length (params_octets (rest_params k)) ≤ 4
rest_octets_le (kind'.Begin n None) = omega arith
rest_octets_le (kind'.Begin n (Some s)) = omega arith
rest_octets_le (kind'.Continue n) = omega arith
rest_octets_le (kind'.End n None) = omega arith
rest_octets_le (kind'.End n (Some (crc.Crc16 v))) = omega arith
rest_octets_le (kind'.End n (Some (crc.Crc24 v))) = omega arith

-- a header has at least 3 octets
pub header_least : (k : SegmentKind) → 3 ≤ header_octets k
header_least k = omega (arith, header_counted k)

-- and at most 9
pub header_most : (k : SegmentKind) → header_octets k ≤ 9
header_most k = omega (arith, header_counted k, length_octets_le (length_in k), rest_octets_le k)

-- what is written of a segment is its header octets and its data
pub written_length : (s : WholeSegment) → Fits s → length (written s) ≡ header_octets s.kind + length s.segment_data
written_length s f = ap length (written_runs s f) ∙ runs_size s ∙ omega (arith, header_counted s.kind)

-- a segment has 3 to 264 octets
pub written_bounds : (s : WholeSegment) → Fits s → (3 ≤ length (written s)) × (length (written s) ≤ 264)
written_bounds s f =
    let n = written_length s f in
    (omega (arith, header_least s.kind), omega (arith, header_most s.kind, f.length_fits))
