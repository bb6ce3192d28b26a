-- A whole segment as the runs of octets that code writes, and what writing gives past its tests. Assumes nothing.
use mathlib.Core.Path.{◌≡◌, refl, sym, ap, ◌∙◌}
use mathlib.Core.List.{List, [], ◌∷◌, ◌++◌, append-nil, append_assoc}
use Rattle.std.specs.Prelude.{Some, None}
use Prim.Native.Nat.{ℕ, ◌+◌, ◌*◌, ◌≤◌, ◌<◌}
use native.Mathlib.Omega.{arith}
use borrow.Author.Tests.{lt-ltb, le-ltb}
use lib.ListN.{length, length-append}
use lib.Seq.{sets}
use Rattle.octets.specs.Laws.{sets_append}
use Rattle.tsar.specs.declared.SegmentKind.{SegmentKind}
use Rattle.tsar.specs.declared.SegmentKind.TheVariants as kind'
use Rattle.tsar.specs.declared.Segment.{Segment}
use Rattle.tsar.specs.Rows.{Refusal, refusal, refusal_append}
use Rattle.tsar.specs.Layout.{WholeSegment, whole, Param, parameters, length_param, type_number, written}
use Rattle.tsar.specs.Octets.{param_octets, params_octets}
use Rattle.tsar.specs.Spells.{listed, Fits}
use Rattle.tsar.specs.Writing.{codec_rows, encode_of, in_room, length_in, rest_params, wrote, refused}
use Rattle.tsar.proofs.Spelled.{spell}
use Rattle.tsar.proofs.Order.{chained}

-- ---- a whole segment

params_append : (a b : List Param) → params_octets (a ++ b) ≡ params_octets a ++ params_octets b
params_append [] b = refl
params_append (x ∷ a) b = ap (λ (l : List ℕ). param_octets x ++ l) (params_append a b) ∙ sym (append_assoc (param_octets x) (params_octets a) (params_octets b))

two_runs : (k : SegmentKind) → params_octets (parameters k) ≡ params_octets (length_param (length_in k)) ++ params_octets (rest_params k)
two_runs (kind'.Begin n s) = params_append (length_param n) _
two_runs (kind'.Continue n) = sym (append-nil (params_octets (length_param n)))
two_runs (kind'.End n c) = params_append (length_param n) _

-- the octets that code writes: three of the header, the data, the length, and the parameters behind it
abbrev pub runs : WholeSegment → List ℕ
runs s = (type_number s.kind * 8 + s.transaction_id) ∷ s.sequence_number ∷ length s.segment_data ∷ (s.segment_data ++ (params_octets (length_param (length_in s.kind)) ++ params_octets (rest_params s.kind)))

-- what the layout spells of a segment that fits
pub written_runs : (s : WholeSegment) → Fits s → written s ≡ runs s
written_runs s f =
    let c = chained s.kind s.sequence_number (parameters s.kind) f.kind_fits (listed refl) in
    spell (parameters s.kind) s f c.1 ∙ ap (λ (l : List ℕ). (type_number s.kind * 8 + s.transaction_id) ∷ s.sequence_number ∷ length s.segment_data ∷ (s.segment_data ++ l)) (two_runs s.kind)

-- how many they are
pub runs_size : (s : WholeSegment) → length (runs s) ≡ 3 + length s.segment_data + length (params_octets (length_param (length_in s.kind))) + length (params_octets (rest_params s.kind))
runs_size s =
    let a = params_octets (length_param (length_in s.kind)) in
    let b = params_octets (rest_params s.kind) in
    omega (arith, length-append s.segment_data (a ++ b), length-append a b)

-- data, length and what is behind it, written one after the other, are one run
pub three_runs : (o d l s : List ℕ) (a e : ℕ) → a ≡ 3 + length d → e ≡ a + length l → sets (sets (sets o 3 d) a l) e s ≡ sets o 3 (d ++ (l ++ s))
three_runs o d l s a e p q = rw (q, p) (sym (sets_append o 3 d (l ++ s) ∙ sets_append (sets o 3 d) (3 + length d) l s))

-- ---- the codec's tests, then the room

module _ (v : ℕ) (s : Segment) (l out : List ℕ) where
  -- a refusal of the codec's tests is the answer, and the output stays
  pub refused_first : (n : Refusal) → refusal (codec_rows v s (length l)) ≡ Some n → encode_of v s l out ≡ record { answer = refused n; output = out }
  unfolding encode_of
  refused_first n e = rw (refusal_append (codec_rows v s (length l)), e)

  -- past them only the room counts
  pub passed_first : refusal (codec_rows v s (length l)) ≡ None → encode_of v s l out ≡ in_room (written (whole s l)) out
  unfolding encode_of
  passed_first e = rw (refusal_append (codec_rows v s (length l)), e)

-- octets for which there is no room
pub no_room : (l out : List ℕ) → length out < length l → in_room l out ≡ record { answer = refused (61, 0); output = out }
no_room l out h = rw (lt-ltb (length out) (length l) h)

-- and for which there is
pub with_room : (l out : List ℕ) → length l ≤ length out → in_room l out ≡ record { answer = wrote (length l); output = sets out 0 l }
with_room l out h = rw (le-ltb (length out) (length l) h)
