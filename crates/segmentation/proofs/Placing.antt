-- How long a kind's header is, and what the code's `else` knows of a kind that is no Begin. Assumes nothing.
use Prim.Native.Nat.{ℕ, ◌≤◌}
use mathlib.Core.Path.{◌≡◌, refl}
use mathlib.Core.Bool.{false}
use native.Mathlib.Omega.{arith}
use Rattle.tsar.specs.Writing.{header_octets, word_octets, crc_octets}
use Rattle.std.specs.Prelude.{Option, Some, None}
use Rattle.tsar.specs.declared.OptionalServices.{OptionalServices}
use Rattle.tsar.specs.declared.MessageCrc.{MessageCrc}
use Rattle.tsar.specs.declared.MessageCrc.TheVariants as crc
use Rattle.tsar.specs.declared.SegmentKind.{SegmentKind}
use Rattle.tsar.specs.declared.SegmentKind.TheVariants as kind'
use Rattle.segmentation.specs.Cutting.{is_begin}

length_small : (n : Option ℕ) → word_octets n ≤ 2
length_small None = omega arith
length_small (Some n) = omega arith

services_small : (s : Option OptionalServices) → word_octets s ≤ 2
services_small None = omega arith
services_small (Some s) = omega arith

crc_small : (c : Option MessageCrc) → crc_octets c ≤ 4
crc_small None = omega arith
crc_small (Some (crc.Crc16 v)) = omega arith
crc_small (Some (crc.Crc24 v)) = omega arith

-- a header is short
pub header_small : (k : SegmentKind) → header_octets k ≤ 11
unfolding header_octets
header_small (kind'.Begin n s) = omega (arith, length_small n, services_small s)
header_small (kind'.Continue n) = omega (arith, length_small n)
header_small (kind'.End n c) = omega (arith, length_small n, crc_small c)

-- what the else of `let SegmentKind::Begin { .. } = kind else` knows
pub no_begin : (k : SegmentKind) → ((n : Option ℕ) (s : Option OptionalServices) → k ≡ kind'.Begin n s → ⊥) → is_begin k ≡ false
no_begin (kind'.Begin n s) o = absurd (o n s refl)
no_begin (kind'.Continue n) o = refl
no_begin (kind'.End n c) o = refl
