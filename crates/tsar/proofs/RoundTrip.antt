-- What is written reads as it was, with nothing unparsed: it spells the segment, and reading answers what is spelled. Assumes nothing.
use mathlib.Core.Path.{◌≡◌, refl, sym, ap, ap₂, ◌∙◌}
use mathlib.Core.Bool.{Bool}
use mathlib.Core.List.{List, [], ◌∷◌, append-nil}
use Rattle.std.specs.Prelude.{Option, Some, None}
use Prim.Native.Nat.{ℕ}
use native.Mathlib.Omega.{arith}
use borrow.Author.Tests.{ltb-false}
use lib.Dec.{ltb}
use lib.ListN.{length, take}
use lib.Seq.{sets}
use Rattle.octets.specs.Laws.{front_sets}
use Rattle.tsar.specs.declared.Segment.{Segment}
use Rattle.tsar.specs.Rows.{Refusal, refusal, refusal_none, or_else, refusal_append}
use Rattle.tsar.specs.Layout.{WholeSegment, whole, written, parameters}
use Rattle.tsar.specs.Reading.{segment_of, decoded}
use Rattle.tsar.specs.Spells.{listed, Fits, Spells}
use Rattle.tsar.specs.Writing.{codec_rows, encode_rows, wrote, after_tests, encode_of, Typed}
use Rattle.tsar.proofs.Accepts.{spells_read}
use Rattle.tsar.proofs.Passes.{passes_fits}

-- a segment that fits is spelled by what is written of it
pub written_spells : (s : WholeSegment) → Fits s → Spells (written s) s 0
written_spells s f =
    record { order = parameters s.kind; rest = []; any_order = listed refl; fits = f; spelled = sym (append-nil (written s)); stops = tt; counted = refl }

-- where octets were written no test held, and they were all of them
accepted : (o : Option Refusal) (l out : List ℕ) (n : ℕ) → (after_tests o l out).answer ≡ wrote n → (o ≡ None) × (n ≡ length l)
accepted (Some r) l out n e = let z : ◌≡◌ {A = ℕ} 0 1 = cc in absurd (omega arith)
accepted None l out n e = (refl, cc)

both_none : (a b : Option Refusal) → or_else a b ≡ None → (a ≡ None) × (b ≡ None)
both_none None b e = (refl, e)
both_none (Some r) b e = let z : ◌≡◌ {A = ℕ} 0 1 = cc in absurd (omega arith)

-- reading what was written gives the same segment, with nothing unparsed
pub round_trip : (v : ℕ) (s : Segment) (l out : List ℕ) (n : ℕ) → Typed (whole s l) → (encode_of v s l out).answer ≡ wrote n
    → segment_of v (take n (encode_of v s l out).output) ≡ decoded (whole s l) 0
unfolding encode_of
round_trip v s l out n y e =
    let w = written (whole s l) in
    let room : List (Bool × Refusal) = (ltb (length out) (length w), (61, 0)) ∷ [] in
    let a = accepted (refusal (encode_rows v s l out)) w out n e in
    let b = both_none (refusal (codec_rows v s (length l))) (refusal room) (sym (refusal_append (codec_rows v s (length l)) room) ∙ a.0) in
    let f = passes_fits v s l y b.0 in
    let o : (after_tests (refusal (encode_rows v s l out)) w out).output ≡ sets out 0 w = ap (λ (r : Option Refusal). (after_tests r w out).output) a.0 in
    ap (segment_of v) (ap₂ {C = List ℕ} take a.1 o ∙ front_sets out w (ltb-false (length out) (length w) (refusal_none room b.1 0)))
    ∙ spells_read v w (whole s l) 0 f.0 (written_spells (whole s l) f.1)
