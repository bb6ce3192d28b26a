-- How many octets are written, of any segment at all: its header octets and its data, whatever its numbers are; and 3 to 264 wherever writing
-- answers a number. Assumes nothing.
use mathlib.Core.Path.{◌≡◌, refl, ap, ◌∙◌}
use mathlib.Core.List.{List, [], ◌∷◌, ◌++◌}
use Rattle.std.specs.Prelude.{Option, Some, None}
use Prim.Native.Nat.{ℕ, zero, suc, ◌+◌, ◌*◌, ◌/◌, ◌%◌, ◌≤◌}
use native.Mathlib.Omega.{arith}
use borrow.Author.Tests.{ltb-false}
use lib.ListN.{length, length-append}
use Rattle.tsar.specs.declared.MessageCrc.TheVariants as crc
use Rattle.tsar.specs.declared.SegmentKind.{SegmentKind}
use Rattle.tsar.specs.declared.SegmentKind.TheVariants as kind'
use Rattle.tsar.specs.declared.Segment.{Segment}
use Rattle.tsar.specs.Rows.{Refusal, refusal, refusal_none}
use Rattle.tsar.specs.Layout.{Field, bits_of, bits, octets_of, WholeSegment, whole, header_fields, octet_fields, params_fields, fields_with, parameters, written}
use Rattle.tsar.specs.Writing.{header_octets, encode_rows, wrote, after_tests, encode_of}
use Rattle.tsar.proofs.Bits.{widths}
use Rattle.tsar.proofs.Sizes.{header_least, header_most}

-- as many bits as a field has, as many as all fields have
bits_of_lem : (w v : ℕ) → length (bits_of w v) ≡ w
unfolding bits_of
bits_of_lem zero v = refl
bits_of_lem (suc w) v = length-append (bits_of w (v / 2)) (v % 2 ∷ []) ∙ omega (arith, bits_of_lem w (v / 2))

bits_count : (fs : List Field) → length (bits fs) ≡ widths fs
unfolding bits
bits_count [] = refl
bits_count (f ∷ fs) = length-append (bits_of f.0 f.1) (bits fs) ∙ omega (arith, bits_of_lem f.0 f.1, bits_count fs)

-- as many octets as eights of bits
octets_count : (n : ℕ) (l : List ℕ) → length l ≡ 8 * n → length (octets_of l) ≡ n
unfolding octets_of
octets_count zero [] h = refl
octets_count zero (a ∷ l) h = absurd (omega (arith, h))
octets_count (suc n) [] h = absurd (omega (arith, h))
octets_count (suc n) (a ∷ []) h = absurd (omega (arith, h))
octets_count (suc n) (a ∷ b ∷ []) h = absurd (omega (arith, h))
octets_count (suc n) (a ∷ b ∷ c ∷ []) h = absurd (omega (arith, h))
octets_count (suc n) (a ∷ b ∷ c ∷ d ∷ []) h = absurd (omega (arith, h))
octets_count (suc n) (a ∷ b ∷ c ∷ d ∷ e ∷ []) h = absurd (omega (arith, h))
octets_count (suc n) (a ∷ b ∷ c ∷ d ∷ e ∷ f ∷ []) h = absurd (omega (arith, h))
octets_count (suc n) (a ∷ b ∷ c ∷ d ∷ e ∷ f ∷ g ∷ []) h = absurd (omega (arith, h))
octets_count (suc n) (a ∷ b ∷ c ∷ d ∷ e ∷ f ∷ g ∷ i ∷ l) h = ap suc (octets_count n l (omega (arith, h)))

widths_append : (a b : List Field) → widths (a ++ b) ≡ widths a + widths b
widths_append [] b = omega arith
widths_append (f ∷ a) b = omega (arith, widths_append a b)

data_width : (l : List ℕ) → widths (octet_fields l) ≡ 8 * length l
data_width [] = refl
data_width (o ∷ l) = omega (arith, data_width l)

-- the bits of the parameters, with the 24 of the header
params_width : (k : SegmentKind) → 24 + widths (params_fields (parameters k)) ≡ 8 * header_octets k
unfolding header_octets
params_width (kind'.Begin None None) = refl
params_width (kind'.Begin None (Some s)) = refl
params_width (kind'.Begin (Some n) None) = refl
params_width (kind'.Begin (Some n) (Some s)) = refl
params_width (kind'.Continue None) = refl
params_width (kind'.Continue (Some n)) = refl
params_width (kind'.End None None) = refl
params_width (kind'.End None (Some (crc.Crc16 v))) = refl
params_width (kind'.End None (Some (crc.Crc24 v))) = refl
params_width (kind'.End (Some n) None) = refl
params_width (kind'.End (Some n) (Some (crc.Crc16 v))) = refl
params_width (kind'.End (Some n) (Some (crc.Crc24 v))) = refl

-- what is written of a segment is its header octets and its data
pub written_count : (s : WholeSegment) → length (written s) ≡ header_octets s.kind + length s.segment_data
unfolding fields_with
written_count s =
    let d = octet_fields s.segment_data in
    let p = params_fields (parameters s.kind) in
    let fs = header_fields s ++ (d ++ p) in
    let w : widths fs ≡ 24 + widths (d ++ p) = widths_append (header_fields s) (d ++ p) ∙ refl in
    octets_count (header_octets s.kind + length s.segment_data) (bits fs)
    (bits_count fs ∙ omega (arith, w, widths_append d p, data_width s.segment_data, params_width s.kind))

accepted : (o : Option Refusal) (l out : List ℕ) (n : ℕ) → (after_tests o l out).answer ≡ wrote n → (o ≡ None) × (n ≡ length l)
accepted (Some r) l out n e = let z : ◌≡◌ {A = ℕ} 0 1 = cc in absurd (omega arith)
accepted None l out n e = (refl, cc)

-- where writing answers a number, it is that of the header octets and of the data
pub wrote_count : (v : ℕ) (s : Segment) (l out : List ℕ) (n : ℕ) → (encode_of v s l out).answer ≡ wrote n → n ≡ header_octets s.kind + length l
unfolding encode_of
wrote_count v s l out n e = (accepted (refusal (encode_rows v s l out)) (written (whole s l)) out n e).1 ∙ written_count (whole s l)

-- and it answers that number where no test holds
pub wrote_all : (v : ℕ) (s : Segment) (l out : List ℕ) → refusal (encode_rows v s l out) ≡ None → (encode_of v s l out).answer ≡ wrote (header_octets s.kind + length l)
unfolding encode_of
wrote_all v s l out e = ap (λ (o : Option Refusal). (after_tests o (written (whole s l)) out).answer) e ∙ ap wrote (written_count (whole s l))

-- which is 3 to 264
pub wrote_bounds : (v : ℕ) (s : Segment) (l out : List ℕ) (n : ℕ) → (encode_of v s l out).answer ≡ wrote n → (3 ≤ n) × (n ≤ 264)
unfolding encode_of
wrote_bounds v s l out n e =
    let a = accepted (refusal (encode_rows v s l out)) (written (whole s l)) out n e in
    let short : length l ≤ 255 = ltb-false 255 (length l) (refusal_none (encode_rows v s l out) a.0 2) in
    let c = wrote_count v s l out n e in
    (omega (arith, c, header_least s.kind), omega (arith, c, short, header_most s.kind))
