-- The parameter loop: it accepts exactly a chain of parameters, each in an empty place, up to where no name of the type stands. Assumes nothing.
use mathlib.Core.Path.{◌≡◌, refl, sym, ap, ◌∙◌, subst}
use mathlib.Core.List.{List, [], ◌∷◌, ◌++◌, append_assoc}
use Prim.Native.Nat.{ℕ, zero, suc, ◌+◌, ◌<◌}
use native.Mathlib.Nat.{add-zero}
use native.Mathlib.Omega.{arith}
use lib.ListN.{length, drop, length-append}
use lib.Seq.{get_or-drop, drop_at}
use Rattle.tsar.specs.declared.decode.Params.{Params}
use Rattle.std.specs.Prelude.{Option, Result, Some, None, Ok, Err}
use Rattle.tsar.specs.declared.Error.{Error}
use Rattle.tsar.specs.declared.decode.Parsed.{Parsed}
use Rattle.tsar.specs.declared.SegmentType.{SegmentType}
use Rattle.tsar.specs.Layout.{Param, stated, services, crc16, crc24}
use Rattle.tsar.specs.Octets.{param_octets, params_octets, ParamsFit}
use Rattle.tsar.specs.Reading.{step_of, on_step, run_params}
use Rattle.tsar.specs.Spells.{Octets, Unnamed}
use Rattle.tsar.proofs.Steps.{add, Fresh, Stands, Sound, sound, taken, stopped}

-- parameters taken one after another lead from p to q
abbrev pub Takes : SegmentType → Params → List Param → Params → Type 0
Takes t p [] q = p ≡ q
Takes t p (x ∷ ps) q = Fresh t p x × Takes t (add x p) ps q

-- every parameter has an octet
pub some_octets : (x : Param) → 0 < length (param_octets x)
some_octets (stated n) = omega arith
some_octets (services s) = omega arith
some_octets (crc16 v) = omega arith
some_octets (crc24 v) = omega arith

-- a run of the loop: the parameters that it took, and what is left where it stops
pub record Run (t : SegmentType) (p : Params) (at : ℕ) (l : List ℕ) (q : Params) (end : ℕ) : Type 0 where
  pub order : List Param
  pub rest : List ℕ
  pub takes : Takes t p order q
  pub fit : ParamsFit order
  pub front : l ≡ params_octets order ++ rest
  pub reached : end ≡ at + length (params_octets order)
  pub stops : Unnamed t rest

-- what the loop answers is a run
abbrev pub RunSound : SegmentType → Params → ℕ → List ℕ → Result Parsed Error → Type 0
RunSound t p at l (Ok x) = Run t p at l x.params x.at
RunSound t p at l (Err n) = Unit {0}

-- a parameter in front of a run
in_front : (t : SegmentType) (p : Params) (at : ℕ) (l : List ℕ) (q : Params) (n : ℕ) → Stands t p l q n → (r : Result Parsed Error) → RunSound t q (at + n) (drop n l) r → RunSound t p at l r
in_front t p at l q n s (Ok x) h =
    let a = length-append (param_octets s.what) (params_octets h.order) in
    record {
      order = s.what ∷ h.order;
      rest = h.rest;
      takes = (s.fresh, subst (λ (k : Params). Takes t k h.order x.params) s.adds h.takes);
      fit = (s.within, h.fit);
      front = s.front ∙ ap (λ (k : List ℕ). param_octets s.what ++ k) h.front ∙ sym (append_assoc (param_octets s.what) (params_octets h.order) h.rest);
      reached = omega (arith, h.reached, s.size, a);
      stops = h.stops;
    }
in_front t p at l q n s (Err m) h = tt

on_step_lem : (t : SegmentType) (p : Params) (at : ℕ) (l : List ℕ) (go : Params → ℕ → Result Parsed Error) (s : Result (Option (Params × ℕ)) Error) → Sound t p l s
    → ((q : Params) (n : ℕ) → Stands t p l q n → RunSound t q (at + n) (drop n l) (go q n))
    → RunSound t p at l (on_step go (Ok (record { params = p; at = at })) s)
on_step_lem t p at l go (Ok (Some (q, n))) s ih = in_front t p at l q n s (go q n) (ih q n s)
on_step_lem t p at l go (Ok None) s ih = record { order = []; rest = l; takes = refl; fit = tt; front = refl; reached = sym (add-zero at); stops = s }
on_step_lem t p at l go (Err n) s ih = tt

-- octets past some octets
pub octets_drop : (l : List ℕ) (n : ℕ) → Octets l → Octets (drop n l)
octets_drop l n o i = rw (get_or-drop n l i 0) (o (n + i))

stands_less : (t : SegmentType) (p : Params) (l : List ℕ) (q : Params) (n f : ℕ) → Stands t p l q n → length l < suc f → length (drop n l) < f
stands_less t p l q n f s h =
    let a = some_octets s.what in
    let b = ap length s.front ∙ length-append (param_octets s.what) (drop n l) in
    omega (arith, a, b)

-- what the loop accepts is a run
pub run_sound : (f : ℕ) (t : SegmentType) (p : Params) (at : ℕ) (l : List ℕ) → Octets l → length l < f → RunSound t p at l (run_params f t p at l)
unfolding run_params
run_sound zero t p at l o h = absurd (omega arith)
run_sound (suc f) t p at l o h =
    on_step_lem t p at l _ (step_of t p l) (sound t p l o) (λ q n s. run_sound f t q (at + n) (drop n l) (octets_drop l n o) (stands_less t p l q n f s h))

-- ---- and back

-- and what is a chain of parameters the loop accepts
pub run_back : (f : ℕ) (ps : List Param) (t : SegmentType) (p : Params) (at : ℕ) (rest : List ℕ) (q : Params)
    → Takes t p ps q → ParamsFit ps → Unnamed t rest → length (params_octets ps ++ rest) < f
    → run_params f t p at (params_octets ps ++ rest) ≡ Ok (record { params = q; at = at + length (params_octets ps) })
unfolding run_params
run_back zero ps t p at rest q k w u h = absurd (omega arith)
run_back (suc f) [] t p at rest q k w u h = rw (stopped t p rest u, k, add-zero)
run_back (suc f) (x ∷ ps) t p at rest q k w u h =
    let o = param_octets x in
    let r = params_octets ps ++ rest in
    let e : o ++ params_octets ps ++ rest ≡ o ++ r = append_assoc o (params_octets ps) rest in
    let d : drop (length o) (o ++ r) ≡ r = drop_at o r (length o) refl in
    let a : length (o ++ r) ≡ length o + length r = length-append o r in
    let m : at + length (o ++ params_octets ps) ≡ at + length o + length (params_octets ps) = omega (arith, length-append o (params_octets ps)) in
    let i = run_back f ps t (add x p) (at + length o) rest q k.1 w.1 u (omega (arith, some_octets x, ap length e)) in
    rw (e, taken t p x r k.0 w.0, d, m) i
