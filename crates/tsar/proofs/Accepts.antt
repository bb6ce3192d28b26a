-- Reading accepts exactly the octets that spell a segment, and answers that segment. Assumes nothing.
use mathlib.Core.Path.{◌≡◌, refl, sym, ap, ◌∙◌, subst}
use mathlib.Core.Bool.{false}
use mathlib.Core.Logic.{◌↔◌}
use mathlib.Core.List.{List, [], ◌∷◌, ◌++◌, append_assoc}
use Prim.Native.Nat.{ℕ, zero, suc, ◌+◌, ◌-◌, ◌*◌, ◌/◌, ◌%◌, ◌≤◌, ◌<◌}
use native.Mathlib.Omega.{arith}
use borrow.Author.Tests.{eq-eqb, ne_eqb, eqb-true, ltb-false, le-ltb, leb-false, lt-leb, not-false}
use lib.Dec.{ltb, eqb, leb}
use lib.ListN.{length, get_or, take, drop, length-append, length-drop, take-append-drop}
use lib.Seq.{drop-drop, drop_at, take_at, length-take-le}
use Rattle.tsar.specs.declared.decode.Params.{Params}
use Rattle.tsar.specs.declared.decode.Parsed.{Parsed}
use Rattle.std.specs.Prelude.{Result, Ok, Err}
use Rattle.tsar.specs.declared.Error.{Error}
use Rattle.tsar.specs.declared.SegmentType.{SegmentType}
use Rattle.tsar.specs.declared.SegmentType.TheVariants as type
use Rattle.tsar.specs.declared.SegmentKind.{SegmentKind}
use Rattle.tsar.specs.declared.SegmentKind.TheVariants as kind'
use Rattle.tsar.specs.Layout.{Param, WholeSegment, type_number, type_of}
use Rattle.tsar.specs.Octets.{params_octets, octets_with, ParamsFit}
use Rattle.tsar.specs.Reading.{no_params, run_params, params_of, Decoded, decoded, refused, kind_of, with_params, begin_test, segment_as, segment_of}
use Rattle.tsar.specs.Rows.{Refusal, either}
use Rattle.tsar.specs.Spells.{LengthFits, CrcFits, KindFits, Octets, Fits, Unnamed, Spells}
use Rattle.tsar.proofs.Spelled.{spell, type_le}
use Rattle.tsar.proofs.Chain.{Run, RunSound, run_sound, run_back, octets_drop}
use Rattle.tsar.proofs.Order.{ordered, takes_fit, chained, params_in, kind_in}

abbrev Good : ℕ → List ℕ → Decoded → Type 0
Good v l (decoded s u) = (1 ≤ v) × Spells l s u
Good v l (refused n) = Unit {0}

abbrev type_no : SegmentType → ℕ
type_no type.Begin = 0
type_no type.Continue = 1
type_no type.End = 2

kind_type : (t : SegmentType) (q : Params) → type_of (kind_of t q) ≡ t
kind_type type.Begin q = refl
kind_type type.Continue q = refl
kind_type type.End q = refl

kind_number : (t : SegmentType) (q : Params) → type_number (kind_of t q) ≡ type_no t
kind_number type.Begin q = refl
kind_number type.Continue q = refl
kind_number type.End q = refl

kind_fits_of : (t : SegmentType) (q : Params) (b : ℕ) → begin_test t b ≡ false → LengthFits q.message_length × CrcFits q.crc → KindFits b (kind_of t q)
kind_fits_of type.Begin q b e h = (eqb-true b 0 (not-false _ e), h.0)
kind_fits_of type.Continue q b e h = h.0
kind_fits_of type.End q b e h = h

octets_take : (n : ℕ) (l : List ℕ) → Octets l → Octets (take n l)
octets_take zero l o i = omega arith
octets_take (suc n) [] o i = omega arith
octets_take (suc n) (x ∷ l) o zero = o 0
octets_take (suc n) (x ∷ l) o (suc i) = octets_take n l (λ j. o (suc j)) i

-- ---- what is accepted spells the segment

module _ (v : ℕ) (fine : 1 ≤ v) (t : SegmentType) (a b c : ℕ) (r : List ℕ) (o : Octets (a ∷ b ∷ c ∷ r)) (ty : a / 8 ≡ type_no t) (low : a < 64) (bt : begin_test t b ≡ false) (enough : c ≤ length r) where
  abbrev l : List ℕ
  l = a ∷ b ∷ c ∷ r

  built : (x : Parsed) → Run t no_params (3 + c) (drop (3 + c) l) x.params x.at → Good v l (with_params t l (Ok x))
  built x run =
      let q = x.params in
      let s : WholeSegment = record { transaction_id = a % 8; sequence_number = b; segment_data = take c r; kind = kind_of t q } in
      let n : length (take c r) ≡ c = length-take-le c r enough in
      let f : Fits s = record {
        transaction_fits = omega arith;
        sequence_fits = o 1;
        length_fits = omega (arith, n, o 2);
        data_fits = octets_take c r (λ i. o (suc (suc (suc i))));
        kind_fits = kind_fits_of t q b bt (takes_fit t run.order no_params q run.takes run.fit tt tt);
      } in
      let k : type_number (kind_of t q) * 8 + a % 8 ≡ a = omega (arith, kind_number t q) in
      let d : drop c r ≡ params_octets run.order ++ run.rest = drop-drop c 3 l ∙ run.front in
      let e : take c r ++ params_octets run.order ++ run.rest ≡ r = append_assoc (take c r) (params_octets run.order) run.rest ∙ ap (λ (m : List ℕ). take c r ++ m) (sym d) ∙ take-append-drop c r in (
        fine,
        record {
          order = run.order;
          rest = run.rest;
          any_order = ordered t run.order q run.takes;
          fits = f;
          spelled = sym (ap (λ (m : List ℕ). m ++ run.rest) (spell run.order s f run.fit) ∙ rw (k, n, e));
          stops = subst (λ (y : SegmentType). Unnamed y run.rest) (sym (kind_type t q)) run.stops;
          counted = omega (arith, run.reached, ap length d, length-append (params_octets run.order) run.rest, length-drop c r, enough);
        },
      )

  params_good : (p : Result Parsed Error) → RunSound t no_params (3 + c) (drop (3 + c) l) p → Good v l (with_params t l p)
  params_good (Ok x) h = built x h
  params_good (Err n) h = tt

as_good : (v : ℕ) → 1 ≤ v → (t : SegmentType) (l : List ℕ) → Octets l → get_or l 0 0 / 8 ≡ type_no t → get_or l 0 0 < 64 → Good v l (segment_as t l)
unfolding segment_as
as_good v f t [] o ty low = tt
as_good v f t (a ∷ []) o ty low = tt
as_good v f t (a ∷ b ∷ []) o ty low = tt
as_good v f t (a ∷ b ∷ c ∷ r) o ty low =
    let l = a ∷ b ∷ c ∷ r in
    either (Good v l) (ltb (length l) 3) _ _ (λ _. tt)
    (λ _. either (Good v l) (begin_test t b) _ _ (λ _. tt)
    (λ bt. either (Good v l) (ltb (length l) (3 + c)) _ _ (λ _. tt)
    (λ e.
    let h = ltb-false (length l) (3 + c) e in
    params_good v f t a b c r o ty low bt (omega (arith, h)) (params_of t (3 + c) (drop (3 + c) l))
    (run_sound (suc (length (drop (3 + c) l))) t no_params (3 + c) (drop (3 + c) l) (octets_drop l (3 + c) o) (omega arith)))))

segment_good : (v : ℕ) (l : List ℕ) → Octets l → Good v l (segment_of v l)
unfolding segment_of
segment_good v l o =
    let P = Good v l in
    either P (ltb v 1) _ _ (λ _. tt)
    (λ f. either P (eqb (length l) 0) _ _ (λ _. tt)
    (λ _. either P (leb 64 (get_or l 0 0)) _ _ (λ _. tt)
    (λ w. let low = leb-false _ _ w in let fine = ltb-false v 1 f in
    either P (eqb (get_or l 0 0 / 8) 3) _ _ (λ _. tt)
    (λ _. either P (eqb (get_or l 0 0 / 8) 0) _ _ (λ e. as_good v fine type.Begin l o (eqb-true _ _ e) low)
    (λ _. either P (eqb (get_or l 0 0 / 8) 1) _ _ (λ e. as_good v fine type.Continue l o (eqb-true _ _ e) low)
    (λ _. either P (eqb (get_or l 0 0 / 8) 2) _ _ (λ e. as_good v fine type.End l o (eqb-true _ _ e) low) (λ _. tt)))))))

-- ---- what spells a segment is accepted

begin_passes : (k : SegmentKind) (q : ℕ) → KindFits q k → begin_test (type_of k) q ≡ false
begin_passes (kind'.Begin n s) q h = simp (eq-eqb q 0 h.0)
begin_passes (kind'.Continue n) q h = refl
begin_passes (kind'.End n c) q h = refl

kind_of_lem : (k : SegmentKind) → type_no (type_of k) ≡ type_number k
kind_of_lem (kind'.Begin n s) = refl
kind_of_lem (kind'.Continue n) = refl
kind_of_lem (kind'.End n c) = refl

head_back : (v : ℕ) (t : SegmentType) (a : ℕ) (r : List ℕ) → 1 ≤ v → a / 8 ≡ type_no t → a < 64 → segment_of v (a ∷ r) ≡ segment_as t (a ∷ r)
unfolding segment_of
head_back v type.Begin a r f e h = simp (le-ltb v 1 f, ne_eqb (length (a ∷ r)) 0 (λ q. omega arith), lt-leb 64 a h, e)
head_back v type.Continue a r f e h = simp (le-ltb v 1 f, ne_eqb (length (a ∷ r)) 0 (λ q. omega arith), lt-leb 64 a h, e)
head_back v type.End a r f e h = simp (le-ltb v 1 f, ne_eqb (length (a ∷ r)) 0 (λ q. omega arith), lt-leb 64 a h, e)

as_back : (s : WholeSegment) (ps : List Param) (rest : List ℕ) → Fits s → ParamsFit ps → Unnamed (type_of s.kind) rest
    → run_params (suc (length (params_octets ps ++ rest))) (type_of s.kind) no_params (3 + length s.segment_data) (params_octets ps ++ rest)
    ≡ Ok (record { params = params_in s.kind; at = 3 + length s.segment_data + length (params_octets ps) })
    → segment_as (type_of s.kind) (octets_with ps s ++ rest) ≡ decoded s (length rest)
unfolding segment_as
as_back s ps rest f w u run =
    let d = s.segment_data in
    let l = octets_with ps s ++ rest in
    let p = params_octets ps in
    let g : d ++ p ++ rest ≡ d ++ (p ++ rest) = append_assoc d p rest in
    let n : length l ≡ 3 + length d + length p + length rest = omega (arith, length-append (d ++ p) rest, length-append d p) in
    let x2 : ltb (length l) 3 ≡ false = le-ltb (length l) 3 (omega arith) in
    let x3 : ltb (length l) (3 + length d) ≡ false = le-ltb (length l) (3 + length d) (omega arith) in
    let tail : drop (3 + length d) l ≡ p ++ rest = sym (drop-drop (length d) 3 l) ∙ ap (drop (length d)) g ∙ drop_at d (p ++ rest) (length d) refl in
    let m : (type_number s.kind * 8 + s.transaction_id) % 8 ≡ s.transaction_id = omega (arith, f.transaction_fits) in
    let k : take (length d) (d ++ p ++ rest) ≡ d = ap (take (length d)) g ∙ take_at d (p ++ rest) (length d) refl in
    let z : length l - (3 + length d + length p) ≡ length rest = omega arith in
    simp (x2, begin_passes s.kind s.sequence_number f.kind_fits, x3, tail, run, m, k, kind_in s.kind, z)

-- under a version that is served, octets that spell a segment read as that segment
pub spells_read : (v : ℕ) (l : List ℕ) (s : WholeSegment) (u : ℕ) → 1 ≤ v → Spells l s u → segment_of v l ≡ decoded s u
spells_read v l s u h e =
    let ps = e.order in
    let rest = e.rest in
    let f = e.fits in
    let c = chained s.kind s.sequence_number ps f.kind_fits e.any_order in
    let t = type_of s.kind in
    let a = type_number s.kind * 8 + s.transaction_id in
    let o : l ≡ octets_with ps s ++ rest = e.spelled ∙ ap (λ (m : List ℕ). m ++ rest) (spell ps s f c.1) in
    let run = run_back (suc (length (params_octets ps ++ rest))) ps t no_params (3 + length s.segment_data) rest (params_in s.kind) c.0 c.1 e.stops (omega arith) in
    let y : a / 8 ≡ type_no t = omega (arith, f.transaction_fits, kind_of_lem s.kind) in
    ap (segment_of v) o ∙ head_back v t a _ h y (omega (arith, f.transaction_fits, type_le s.kind)) ∙ as_back s ps rest f c.1 e.stops run ∙ ap (decoded s) (sym e.counted)

-- ---- both

-- reading answers a segment exactly where the version is served and the octets spell it, with so many octets unparsed
pub reads : (v : ℕ) (l : List ℕ) (s : WholeSegment) (u : ℕ) → Octets l → (segment_of v l ≡ decoded s u) ↔ ((1 ≤ v) × Spells l s u)
reads v l s u o = (λ e. subst (Good v l) e (segment_good v l o), λ h. spells_read v l s u h.0 h.1)

-- octets spell one segment at most
pub spells_one : (l : List ℕ) (s r : WholeSegment) (u w : ℕ) → Spells l s u → Spells l r w → decoded s u ≡ decoded r w
spells_one l s r u w a b = sym (spells_read 1 l s u (omega arith) a) ∙ spells_read 1 l r w (omega arith) b

-- what is refused under a version that is served spells no segment
pub refused_spells_none : (v : ℕ) (l : List ℕ) (n : Refusal) → 1 ≤ v → segment_of v l ≡ refused n → (s : WholeSegment) (u : ℕ) → Spells l s u → ⊥
refused_spells_none v l n f e s u h =
    let d = spells_read v l s u f h in
    let z : ◌≡◌ {A = ℕ} 0 1 = cc in
    omega arith
