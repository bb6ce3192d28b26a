-- One step of the parameter loop, as the definition goes: what was taken lies within the octets. Assumes nothing.
use mathlib.Core.Path.{◌≡◌, refl, sym, ap, subst}
use mathlib.Core.Bool.{false, not}
use mathlib.Core.List.{List}
use Prim.Native.Nat.{ℕ, zero, suc, pred, ◌+◌, ◌/◌, ◌%◌, ◌≤◌, ◌<◌}
use native.Mathlib.Omega.{arith}
use borrow.Author.Tests.{ltb-false, le-ltb}
use lib.Dec.{ltb, eqb}
use lib.ListN.{length, get_or, drop, length-drop}
use Rattle.tsar.specs.declared.Error.{Error}
use Rattle.std.specs.Prelude.{Option, Result, is_some, Some, None, Ok, Err}
use Rattle.tsar.specs.declared.OptionalServices.{OptionalServices}
use Rattle.tsar.specs.declared.decode.Parsed.{Parsed}
use Rattle.tsar.specs.declared.decode.Params.{Params}
use Rattle.tsar.specs.declared.SegmentType.{SegmentType}
use Rattle.tsar.specs.declared.SegmentType.TheVariants as type
use Rattle.tsar.specs.Reading.{on_services, services_of, two, three, four, length_step, services_step, crc16_step, crc24_step, named, step_of, octets_taken, on_step, run_params, no_params, params_of, with_params, begin_test, segment_as}
use Rattle.tsar.specs.Rows.{either}

abbrev Within : List ℕ → Result (Option (Params × ℕ)) Error → Type 0
Within l (Ok (Some (q, n))) = (0 < n) × (n ≤ length l)
Within l (Ok None) = Unit {0}
Within l (Err n) = Unit {0}

in_services : (l : List ℕ) (p : Params) (x : Result OptionalServices Error) → 2 ≤ length l → Within l (on_services p x)
in_services l p (Err e) h = tt
in_services l p (Ok x) h = (omega arith, h)

module _ (p : Params) (l : List ℕ) where
  P : Result (Option (Params × ℕ)) Error → Type 0
  P = Within l

  in_length : P (length_step p l)
  unfolding P
  in_length = either (Within l) (is_some p.message_length) _ _ (λ _. tt) (λ _. either (Within l) (ltb (length l) 2) _ _ (λ _. tt) (λ e. (omega arith, ltb-false (length l) 2 e)))

  in_services_step : P (services_step p l)
  unfolding P
  in_services_step = either (Within l) (is_some p.services) _ _ (λ _. tt) (λ _. either (Within l) (ltb (length l) 2) _ _ (λ _. tt) (λ e. in_services l p (services_of (two l)) (ltb-false (length l) 2 e)))

  in_crc16 : P (crc16_step p l)
  unfolding P
  in_crc16 = either (Within l) (is_some p.crc) _ _ (λ _. tt) (λ _. either (Within l) (ltb (length l) 3) _ _ (λ _. tt) (λ e. either (Within l) (not (eqb (three l % 16) 0)) _ _ (λ _. tt) (λ _. (omega arith, ltb-false (length l) 3 e))))

  in_crc24 : P (crc24_step p l)
  unfolding P
  in_crc24 = either (Within l) (is_some p.crc) _ _ (λ _. tt) (λ _. either (Within l) (ltb (length l) 4) _ _ (λ _. tt) (λ e. either (Within l) (not (eqb (four l % 16) 0)) _ _ (λ _. tt) (λ _. (omega arith, ltb-false (length l) 4 e))))

  in_named : (t : SegmentType) (m : ℕ) → P (named t m p l)
  unfolding P
  in_named type.Begin m = either (Within l) (eqb m 1) _ _ (λ _. in_length) (λ _. either (Within l) (eqb m 2) _ _ (λ _. in_services_step) (λ _. tt))
  in_named type.Continue m = either (Within l) (eqb m 1) _ _ (λ _. in_length) (λ _. tt)
  in_named type.End m = either (Within l) (eqb m 1) _ _ (λ _. in_length) (λ _. either (Within l) (eqb m 2) _ _ (λ _. in_crc16) (λ _. either (Within l) (eqb m 3) _ _ (λ _. in_crc24) (λ _. tt)))

  within : (t : SegmentType) → P (step_of t p l)
  unfolding P step_of
  within t = either (Within l) (eqb (length l) 0) _ _ (λ _. tt) (λ _. in_named t (get_or l 0 0 / 16))

-- a step takes an octet or more, and none past the end
pub taken_within : (t : SegmentType) (p : Params) (l : List ℕ) (q : Params) (n : ℕ) → step_of t p l ≡ (Ok (Some (q, n))) → (0 < n) × (n ≤ length l)
unfolding P
taken_within t p l q n e = subst (Within l) e (within p l t)

octets_in : (l : List ℕ) (s : Result (Option (Params × ℕ)) Error) → Within l s → octets_taken s ≤ length l
octets_in l (Ok (Some (q, n))) w = w.1
octets_in l (Ok None) w = omega arith
octets_in l (Err n) w = omega arith

pub octets_within : (t : SegmentType) (p : Params) (l : List ℕ) → octets_taken (step_of t p l) ≤ length l
unfolding P
octets_within t p l = octets_in l (step_of t p l) (within p l t)

-- the definition, one step on
module _ (k : SegmentType) (p : Params) (at : ℕ) (l : List ℕ) where
  pub on_taken : (f : ℕ) (q : Params) (n : ℕ) → length l < f → step_of k p l ≡ (Ok (Some (q, n))) → run_params f k p at l ≡ run_params (pred f) k q (at + n) (drop n l)
  unfolding run_params
  on_taken zero q n h e = absurd (omega arith)
  on_taken (suc f) q n h e = rw e

  -- where a step stops, so does the loop
  pub on_stop : (f : ℕ) → step_of k p l ≡ (Ok None) → run_params f k p at l ≡ Ok (record { params = p; at = at })
  unfolding run_params
  on_stop zero e = refl
  on_stop (suc f) e = rw e

  -- where a step is refused, so is all
  pub on_refused : (f : ℕ) (e : Error) → length l < f → step_of k p l ≡ Err e → run_params f k p at l ≡ Err e
  unfolding run_params
  on_refused zero n h q = absurd (omega arith)
  on_refused (suc f) n h q = rw q

-- the loop ends within the octets
abbrev Ends : ℕ → Result Parsed Error → Type 0
Ends n (Ok x) = x.at ≤ n
Ends n (Err m) = Unit {0}

on_ends : (p : Params) (at : ℕ) (l : List ℕ) (go : Params → ℕ → Result Parsed Error) (s : Result (Option (Params × ℕ)) Error) → Within l s
    → ((q : Params) (n : ℕ) → n ≤ length l → Ends (at + length l) (go q n))
    → Ends (at + length l) (on_step go (Ok (record { params = p; at = at })) s)
on_ends p at l go (Ok (Some (q, n))) w ih = ih q n w.1
on_ends p at l go (Ok None) w ih = omega arith
on_ends p at l go (Err n) w ih = tt

ends : (f : ℕ) (t : SegmentType) (p : Params) (at : ℕ) (l : List ℕ) → Ends (at + length l) (run_params f t p at l)
unfolding run_params P
ends zero t p at l = omega arith
ends (suc f) t p at l =
    on_ends p at l _ (step_of t p l) (within p l t)
    (λ q n h.
    let e : at + n + length (drop n l) ≡ at + length l = omega (arith, length-drop n l, h) in
    subst (λ (k : ℕ). Ends k (run_params f t q (at + n) (drop n l))) e (ends f t q (at + n) (drop n l)))

-- the same, of what equals the run
pub ends_within : (f : ℕ) (t : SegmentType) (p : Params) (at : ℕ) (l : List ℕ) (r : Result Parsed Error) → r ≡ run_params f t p at l → Ends (at + length l) r
ends_within f t p at l r e = rw e (ends f t p at l)

-- and of the parameters behind an offset in octets
pub params_within : (t : SegmentType) (at : ℕ) (l : List ℕ) (x : Parsed) → params_of t at (drop at l) ≡ Ok x → at ≤ length l → x.at ≤ length l
params_within t at l x e h = omega (arith, ends_within _ t no_params at (drop at l) (Ok x) (sym e), length-drop at l)

-- past its tests, a segment is what its parameters make of it
pub as_params : (t : SegmentType) (l : List ℕ) (r : Result Parsed Error) → 3 ≤ length l → begin_test t (get_or l 1 0) ≡ false → 3 + get_or l 2 0 ≤ length l
    → r ≡ params_of t (3 + get_or l 2 0) (drop (3 + get_or l 2 0) l) → segment_as t l ≡ with_params t l r
unfolding segment_as
as_params t l r a b c e = rw (le-ltb (length l) 3 a, b, le-ltb (length l) (3 + get_or l 2 0) c) (ap (with_params t l) (sym e))
