-- What passes the codec's tests fits the layout: each test that fails bounds one field. Assumes nothing.
use mathlib.Core.Path.{◌≡◌}
use mathlib.Core.Bool.{false}
use mathlib.Core.List.{List}
use Rattle.std.specs.Prelude.{Option, Some, None}
use Prim.Native.Nat.{ℕ, ◌≤◌}
use native.Mathlib.Omega.{arith}
use borrow.Author.Tests.{ltb-false, eqb-true, not-false}
use lib.ListN.{length}
use Rattle.tsar.specs.declared.MessageCrc.{MessageCrc}
use Rattle.tsar.specs.declared.MessageCrc.TheVariants as crc
use Rattle.tsar.specs.declared.SegmentKind.{SegmentKind}
use Rattle.tsar.specs.declared.SegmentKind.TheVariants as kind'
use Rattle.tsar.specs.declared.Segment.{Segment}
use Rattle.tsar.specs.Rows.{refusal, refusal_none}
use Rattle.tsar.specs.Layout.{whole, type_of}
use Rattle.tsar.specs.Reading.{begin_test}
use Rattle.tsar.specs.Spells.{LengthFits, CrcFits, KindFits, Fits}
use Rattle.tsar.specs.Writing.{length_in, crc_in, too_long, crc_too_large, codec_rows, Writable, CrcTyped, Typed}

length_of : (n : Option ℕ) → too_long n ≡ false → LengthFits n
length_of None h = tt
length_of (Some n) h = ltb-false 4095 n h

crc_of : (c : Option MessageCrc) → CrcTyped c → crc_too_large c ≡ false → CrcFits c
crc_of None y h = tt
crc_of (Some (crc.Crc16 v)) y h = y
crc_of (Some (crc.Crc24 v)) y h = omega (arith, ltb-false 16777215 v h)

kind_of_lem : (k : SegmentKind) (q : ℕ) → CrcTyped (crc_in k) → begin_test (type_of k) q ≡ false → too_long (length_in k) ≡ false → crc_too_large (crc_in k) ≡ false → KindFits q k
kind_of_lem (kind'.Begin n s) q y b l c = (eqb-true q 0 (not-false _ b), length_of n l)
kind_of_lem (kind'.Continue n) q y b l c = length_of n l
kind_of_lem (kind'.End n x) q y b l c = (length_of n l, crc_of x y c)

-- where no test holds the version is served and the segment can be written
pub passes_writable : (v : ℕ) (s : Segment) (n : ℕ) → refusal (codec_rows v s n) ≡ None → (1 ≤ v) × Writable s n
passes_writable v s n e =
    let t = refusal_none (codec_rows v s n) e in (
      ltb-false v 1 (t 0),
      record {
        transaction_small = ltb-false 7 s.transaction_id (t 1);
        data_short = ltb-false 255 n (t 2);
        begin_first = t 3;
        length_small = t 4;
        crc_small = t 5;
      },
    )

-- what the tests leave open the types of the fields say
pub writable_fits : (s : Segment) (l : List ℕ) → Typed (whole s l) → Writable s (length l) → Fits (whole s l)
writable_fits s l y w =
    record {
      transaction_fits = w.transaction_small;
      sequence_fits = y.sequence_typed;
      length_fits = w.data_short;
      data_fits = y.data_typed;
      kind_fits = kind_of_lem s.kind s.sequence_number y.crc_typed w.begin_first w.length_small w.crc_small;
    }

-- what passes the tests under a version fits the layout, and the version is served
pub passes_fits : (v : ℕ) (s : Segment) (l : List ℕ) → Typed (whole s l) → refusal (codec_rows v s (length l)) ≡ None → (1 ≤ v) × Fits (whole s l)
passes_fits v s l y e =
    let p = passes_writable v s (length l) e in
    (p.0, writable_fits s l y p.1)
