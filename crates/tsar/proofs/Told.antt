-- What decode_segment's answer says of the octets read: its data are those behind the third octet, as many as the head says, and all of
-- them are there. So the answer, which has the head and two numbers, says the whole segment. Assumes nothing.
use mathlib.Core.Path.{◌≡◌, sym, ap, ap₂, ◌∙◌, subst}
use mathlib.Core.List.{List, [], ◌∷◌}
use Prim.Native.Nat.{ℕ, ◌+◌, ◌/◌, ◌≤◌}
use native.Mathlib.Omega.{arith}
use borrow.Author.Tests.{ltb-false}
use lib.Dec.{ltb, eqb, leb}
use lib.ListN.{length, get_or, take, drop, length-drop}
use lib.Seq.{length-take-le}
use Rattle.tsar.specs.Rows.{either}
use Rattle.tsar.specs.Numbers.{number}
use Rattle.tsar.specs.Layout.{WholeSegment, whole}
use Rattle.tsar.specs.Reading.{Decoded, decoded, refused, Told, told, not_read, told_of, told_by, decoded_by, head_of_whole, step_of, run_params, params_of, with_params, begin_test, segment_as, segment_of}
use Rattle.tsar.specs.declared.SegmentType.{SegmentType}
use Rattle.tsar.specs.declared.SegmentType.TheVariants as type
use Rattle.tsar.specs.declared.SegmentHead.{SegmentHead}
use Rattle.tsar.specs.declared.DecodedSegment.{DecodedSegment}
use Rattle.std.specs.Prelude.{Result, Ok, Err}
use Rattle.tsar.specs.declared.Error.{Error}
use Rattle.tsar.specs.declared.decode.Parsed.{Parsed}

-- the data of a segment that was read from octets
pub record DataOf (l : List ℕ) (s : WholeSegment) : Type 0 where
  pub there : 3 + length s.segment_data ≤ length l
  pub behind : s.segment_data ≡ take (length s.segment_data) (drop 3 l)

abbrev Good : List ℕ → Decoded → Type 0
Good l (decoded s n) = DataOf l s
Good l (refused r) = Unit {0}

params_good : (t : SegmentType) (l : List ℕ) (p : Result Parsed Error) → 3 + get_or l 2 0 ≤ length l → Good l (with_params t l p)
params_good t l (Ok x) h =
    let n : length (take (get_or l 2 0) (drop 3 l)) ≡ get_or l 2 0 = length-take-le (get_or l 2 0) (drop 3 l) (omega (arith, length-drop 3 l)) in
    record { there = omega (arith, n); behind = ap (λ (k : ℕ). take k (drop 3 l)) (sym n) }
params_good t l (Err e) h = tt

as_good : (t : SegmentType) (l : List ℕ) → Good l (segment_as t l)
unfolding segment_as
as_good t l =
    either (Good l) (ltb (length l) 3) _ _ (λ _. tt)
    (λ _. either (Good l) (begin_test t (get_or l 1 0)) _ _ (λ _. tt)
    (λ _. either (Good l) (ltb (length l) (3 + get_or l 2 0)) _ _ (λ _. tt)
    (λ e. params_good t l (params_of t (3 + get_or l 2 0) (drop (3 + get_or l 2 0) l)) (ltb-false _ _ e))))

segment_good : (v : ℕ) (l : List ℕ) → Good l (segment_of v l)
unfolding segment_of
segment_good v l =
    let P = Good l in
    either P (ltb v 1) _ _ (λ _. tt)
    (λ _. either P (eqb (length l) 0) _ _ (λ _. tt)
    (λ _. either P (leb 64 (get_or l 0 0)) _ _ (λ _. tt)
    (λ _. either P (eqb (get_or l 0 0 / 8) 3) _ _ (λ _. tt)
    (λ _. either P (eqb (get_or l 0 0 / 8) 0) _ _ (λ _. as_good type.Begin l)
    (λ _. either P (eqb (get_or l 0 0 / 8) 1) _ _ (λ _. as_good type.Continue l)
    (λ _. either P (eqb (get_or l 0 0 / 8) 2) _ _ (λ _. as_good type.End l) (λ _. tt)))))))

-- the data of what is read are the octets behind the third, and are there
pub data_read : (v : ℕ) (l : List ℕ) (s : WholeSegment) (n : ℕ) → segment_of v l ≡ decoded s n → DataOf l s
data_read v l s n e = subst (Good l) e (segment_good v l)

same_told : (l : List ℕ) (a : Result DecodedSegment Error) (x : Decoded) → Good l x → told_by a ≡ told_of x → decoded_by l a ≡ x
same_told l (Ok d) (decoded s n) g e =
    let h : d.head ≡ head_of_whole s = cc in
    let u : d.unparsed_octets ≡ n = cc in
    ap₂ {C = Decoded} (λ (x : SegmentHead) (k : ℕ). decoded (whole x.segment (take x.segment_data_length (drop 3 l))) k) h u
    ∙ ap (λ (y : List ℕ). decoded (whole (head_of_whole s).segment y) n) (sym g.behind)
same_told l (Ok d) (refused r) g e = let z : ◌≡◌ {A = ℕ} 0 1 = cc in absurd (omega arith)
same_told l (Err x) (decoded s n) g e = let z : ◌≡◌ {A = ℕ} 0 1 = cc in absurd (omega arith)
same_told l (Err x) (refused r) g e = let z : r ≡ number x = cc in ap refused (sym z)

-- with its data, the answer is what reading gives
pub told_whole : (v : ℕ) (l : List ℕ) (a : Result DecodedSegment Error) → told_by a ≡ told_of (segment_of v l) → decoded_by l a ≡ segment_of v l
told_whole v l a e = same_told l a (segment_of v l) (segment_good v l) e

within : (l : List ℕ) (d : DecodedSegment) (x : Decoded) → Good l x → told_by (Ok d) ≡ told_of x → 3 + d.head.segment_data_length ≤ length l
within l d (decoded s n) g e = let h : d.head ≡ head_of_whole s = cc in omega (arith, ap (λ (x : SegmentHead). x.segment_data_length) h, g.there)
within l d (refused r) g e = let z : ◌≡◌ {A = ℕ} 0 1 = cc in absurd (omega arith)

-- a decoded answer's data lie within the octets
pub told_within : (v : ℕ) (l : List ℕ) (a : Result DecodedSegment Error) (d : DecodedSegment) → told_by a ≡ told_of (segment_of v l) → a ≡ Ok d → 3 + d.head.segment_data_length ≤ length l
told_within v l a d e p = within l d (segment_of v l) (segment_good v l) (ap told_by (sym p) ∙ e)

-- P2's octets: an answer that says what reading gives says 2 data octets, so not 65,535
pub length_told : (d : DecodedSegment) → told_by (Ok d) ≡ told_of (segment_of 1 (0x0b ∷ 1 ∷ 2 ∷ 0x41 ∷ 0x42 ∷ [])) → d.head.segment_data_length ≡ 2
unfolding segment_of segment_as run_params step_of
length_told d e = ap length' e
  where
    length' : Told → ℕ
    length' (told h n) = h.segment_data_length
    length' (not_read r) = 0
