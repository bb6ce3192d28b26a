-- One parameter: what was taken is what stands there, and what stands there is taken. Assumes nothing.
use mathlib.Core.Path.{◌≡◌, refl, sym, ap, ◌∙◌}
use mathlib.Core.Bool.{false, not}
use mathlib.Core.List.{List, [], ◌∷◌, ◌++◌}
use Prim.Native.Nat.{ℕ, ◌+◌, ◌*◌, ◌/◌, ◌%◌, ◌≤◌, ◌<◌}
use native.Mathlib.Nat.{div-div-eq-div-mul}
use native.Mathlib.Omega.{arith}
use borrow.Author.Tests.{eq-eqb, ne_eqb, eqb-true, eqb-false, ltb-false, le-ltb, not-false}
use lib.Arith.{digits_mod}
use lib.Dec.{ltb, eqb}
use lib.ListN.{length, get_or, take, drop}
use Rattle.tsar.specs.Rows.{either}
use Rattle.tsar.specs.declared.Compression.{Compression}
use Rattle.tsar.specs.declared.Compression.TheVariants as compression
use Rattle.tsar.specs.declared.AcknowledgmentWindow.{AcknowledgmentWindow}
use Rattle.tsar.specs.declared.AcknowledgmentWindow.TheVariants as window
use Rattle.tsar.specs.declared.CrcStatus.{CrcStatus}
use Rattle.tsar.specs.declared.CrcStatus.TheVariants as status
use Rattle.tsar.specs.declared.OptionalServices.{OptionalServices}
use Rattle.tsar.specs.declared.MessageCrc.TheVariants as crc
use Rattle.tsar.specs.declared.decode.Params.{Params}
use Rattle.std.specs.Prelude.{Option, Result, is_some, Some, None, Ok, Err}
use Rattle.tsar.specs.declared.Error.{Error}
use Rattle.tsar.specs.declared.SegmentType.{SegmentType}
use Rattle.tsar.specs.declared.SegmentType.TheVariants as type
use Rattle.tsar.specs.Layout.{bits_of, Param, stated, services, crc16, crc24, compression_number, window_number, status_number}
use Rattle.tsar.specs.Octets.{pair_octets, triple_octets, quad_octets, services_field, param_octets, ParamFits}
use Rattle.tsar.specs.Reading.{compression_of, window_of, status_of, joined, services_of, with_length, with_services, with_crc, on_services, two, three, four, length_step, services_step, crc16_step, crc24_step, named, step_of}
use Rattle.tsar.specs.Spells.{Octets, Unnamed}
use Rattle.tsar.proofs.Bits.{top_bits, same_name}
use Rattle.tsar.proofs.Spelled.{compression_le, window_le, status_le}

-- ---- a parameter's place

-- the parameters with one more
abbrev pub add : Param → Params → Params
add (stated n) p = with_length p n
add (services s) p = with_services p s
add (crc16 v) p = with_crc p (Some (crc.Crc16 v))
add (crc24 v) p = with_crc p (Some (crc.Crc24 v))

-- the type has this parameter, and none was read before
abbrev pub Fresh : SegmentType → Params → Param → Type 0
Fresh t p (stated n) = is_some p.message_length ≡ false
Fresh type.Begin p (services s) = is_some p.services ≡ false
Fresh type.Continue p (services s) = ⊥
Fresh type.End p (services s) = ⊥
Fresh type.Begin p (crc16 v) = ⊥
Fresh type.Continue p (crc16 v) = ⊥
Fresh type.End p (crc16 v) = is_some p.crc ≡ false
Fresh type.Begin p (crc24 v) = ⊥
Fresh type.Continue p (crc24 v) = ⊥
Fresh type.End p (crc24 v) = is_some p.crc ≡ false

-- ---- octets are the digits of their number

digits2 : (l : List ℕ) → Octets l → 2 ≤ length l → l ≡ pair_octets (two l) ++ drop 2 l
digits2 [] o h = absurd (omega arith)
digits2 (a ∷ []) o h = absurd (omega arith)
digits2 (a ∷ b ∷ r) o h =
    let f = a * 256 + b in
    let x : f / 256 ≡ a = omega (arith, o 1) in
    let y : f % 256 ≡ b = omega (arith, o 1) in
    sym (rw (x, y))

digits3 : (l : List ℕ) → Octets l → 3 ≤ length l → l ≡ triple_octets (three l) ++ drop 3 l
digits3 [] o h = absurd (omega arith)
digits3 (a ∷ []) o h = absurd (omega arith)
digits3 (a ∷ b ∷ []) o h = absurd (omega arith)
digits3 (a ∷ b ∷ c ∷ r) o h =
    let f = a * 65536 + b * 256 + c in
    let x : f / 65536 ≡ a = omega (arith, o 1, o 2) in
    let q : f / 256 ≡ a * 256 + b = omega (arith, o 1, o 2) in
    let y : f / 256 % 256 ≡ b = ap (λ (n : ℕ). n % 256) q ∙ digits_mod a (o 1) in
    let z : f % 256 ≡ c = omega (arith, o 2) in
    sym (rw (x, y, z))

digits4 : (l : List ℕ) → Octets l → 4 ≤ length l → l ≡ quad_octets (four l) ++ drop 4 l
digits4 [] o h = absurd (omega arith)
digits4 (a ∷ []) o h = absurd (omega arith)
digits4 (a ∷ b ∷ []) o h = absurd (omega arith)
digits4 (a ∷ b ∷ c ∷ []) o h = absurd (omega arith)
digits4 (a ∷ b ∷ c ∷ d ∷ r) o h =
    let f = a * 16777216 + b * 65536 + c * 256 + d in
    let x : f / 16777216 ≡ a = omega (arith, o 1, o 2, o 3) in
    let p : f / 65536 ≡ a * 256 + b = omega (arith, o 1, o 2, o 3) in
    let y : f / 65536 % 256 ≡ b = ap (λ (n : ℕ). n % 256) p ∙ digits_mod a (o 1) in
    let q : f / 256 ≡ (a * 256 + b) * 256 + c = omega (arith, o 1, o 2, o 3) in
    let z : f / 256 % 256 ≡ c = ap (λ (n : ℕ). n % 256) q ∙ digits_mod (a * 256 + b) (o 2) in
    let w : f % 256 ≡ d = omega (arith, o 3) in
    sym (rw (x, y, z, w))

-- ---- what was taken stands there

-- a parameter that stands at the front of octets
pub record Stands (t : SegmentType) (p : Params) (l : List ℕ) (q : Params) (n : ℕ) : Type 0 where
  pub what : Param
  pub fresh : Fresh t p what
  pub within : ParamFits what
  pub adds : q ≡ add what p
  pub size : n ≡ length (param_octets what)
  pub front : l ≡ param_octets what ++ drop n l

-- what a step says is so
abbrev pub Sound : SegmentType → Params → List ℕ → Result (Option (Params × ℕ)) Error → Type 0
Sound t p l (Ok (Some (q, n))) = Stands t p l q n
Sound t p l (Ok None) = Unnamed t l
Sound t p l (Err n) = Unit {0}

crc16_value : (f : ℕ) → f / 1048576 ≡ 2 → f % 16 ≡ 0 → f ≡ 2097152 + f / 16 % 65536 * 16
crc16_value f e z =
    let d : f / 16 / 65536 ≡ 2 = div-div-eq-div-mul f 16 65536 ∙ e in
    omega arith

crc24_value : (f : ℕ) → f / 268435456 ≡ 3 → f % 16 ≡ 0 → f ≡ 805306368 + f / 16 % 16777216 * 16
crc24_value f e z =
    let d : f / 16 / 16777216 ≡ 3 = div-div-eq-div-mul f 16 16777216 ∙ e in
    omega arith

-- a case that a number names has that number
abbrev Numbers : {A : Type 0} → (A → ℕ) → ℕ → Option A → Type 0
Numbers f n (Some c) = f c ≡ n
Numbers f n None = Unit {0}

compression_numbers : (n : ℕ) → Numbers compression_number n (compression_of n)
unfolding compression_of
compression_numbers n =
    let P = Numbers compression_number n in
    either P (eqb n 0) _ _ (λ e. sym (eqb-true n 0 e)) (λ _. either P (eqb n 1) _ _ (λ e. sym (eqb-true n 1 e)) (λ _. tt))

window_numbers : (n : ℕ) → Numbers window_number n (window_of n)
unfolding window_of
window_numbers n =
    let P = Numbers window_number n in
    either P (eqb n 0) _ _ (λ e. sym (eqb-true n 0 e))
    (λ _. either P (eqb n 1) _ _ (λ e. sym (eqb-true n 1 e))
    (λ _. either P (eqb n 2) _ _ (λ e. sym (eqb-true n 2 e))
    (λ _. either P (eqb n 3) _ _ (λ e. sym (eqb-true n 3 e))
    (λ _. either P (eqb n 4) _ _ (λ e. sym (eqb-true n 4 e)) (λ _. either P (eqb n 5) _ _ (λ e. sym (eqb-true n 5 e)) (λ _. tt))))))

status_numbers : (n : ℕ) → Numbers status_number n (status_of n)
unfolding status_of
status_numbers n =
    let P = Numbers status_number n in
    either P (eqb n 0) _ _ (λ e. sym (eqb-true n 0 e)) (λ _. either P (eqb n 1) _ _ (λ e. sym (eqb-true n 1 e)) (λ _. either P (eqb n 2) _ _ (λ e. sym (eqb-true n 2 e)) (λ _. tt)))

abbrev Packs : ℕ → Result OptionalServices Error → Type 0
Packs n (Ok x) = services_field x ≡ n
Packs n (Err e) = Unit {0}

joined_packs : (n : ℕ) (c : Option Compression) (w : Option AcknowledgmentWindow) (k : Option CrcStatus)
    → Numbers compression_number (n / 512 % 8) c → Numbers window_number (n / 8 % 8) w → Numbers status_number (n / 2 % 4) k
    → n / 4096 ≡ 2 → n % 2 ≡ 0 → n / 64 % 8 ≡ 0 → Packs n (joined c w k)
joined_packs n None w k hc hw hk e r z = tt
joined_packs n (Some c) None k hc hw hk e r z = tt
joined_packs n (Some c) (Some w) None hc hw hk e r z = tt
joined_packs n (Some c) (Some w) (Some k) hc hw hk e r z =
    let a : n / 512 / 8 ≡ 2 = div-div-eq-div-mul n 512 8 ∙ e in
    let b : n / 64 / 8 ≡ n / 512 = div-div-eq-div-mul n 64 8 in
    let d : n / 8 / 8 ≡ n / 64 = div-div-eq-div-mul n 8 8 in
    let f : n / 2 / 4 ≡ n / 8 = div-div-eq-div-mul n 2 4 in
    omega arith

services_pack : (n : ℕ) → n / 4096 ≡ 2 → Packs n (services_of n)
unfolding services_of
services_pack n e =
    either (Packs n) (not (eqb (n % 2) 0)) _ _ (λ _. tt)
    (λ r. either (Packs n) (not (eqb (n / 64 % 8) 0)) _ _ (λ _. tt)
    (λ z. joined_packs n (compression_of (n / 512 % 8)) (window_of (n / 8 % 8)) (status_of (n / 2 % 4)) (compression_numbers (n / 512 % 8)) (window_numbers (n / 8 % 8)) (status_numbers (n / 2 % 4)) e (eqb-true _ _ (not-false _ r)) (eqb-true _ _ (not-false _ z))))

module _ (t : SegmentType) (p : Params) (l : List ℕ) (o : Octets l) where
  sound_length : get_or l 0 0 / 16 ≡ 1 → Sound t p l (length_step p l)
  sound_length e =
      either (Sound t p l) (is_some p.message_length) _ _ (λ _. tt)
      (λ f. either (Sound t p l) (ltb (length l) 2) _ _ (λ _. tt)
      (λ g.
      let n = two l % 4096 in
      let v : two l ≡ 4096 + n = omega (arith, o 0, o 1) in
      record {
        what = stated n;
        fresh = f;
        within = omega arith;
        adds = refl;
        size = refl;
        front = digits2 l o (ltb-false (length l) 2 g) ∙ ap (λ (k : ℕ). pair_octets k ++ drop 2 l) v;
      }))

  sound_services_at : (s : Result OptionalServices Error) → Packs (two l) s → is_some p.services ≡ false → 2 ≤ length l → Sound type.Begin p l (on_services p s)
  sound_services_at (Err e) h f g = tt
  sound_services_at (Ok x) h f g =
      record {
        what = services x;
        fresh = f;
        within = tt;
        adds = refl;
        size = refl;
        front = digits2 l o g ∙ ap (λ (k : ℕ). pair_octets k ++ drop 2 l) (sym h);
      }

  sound_services : get_or l 0 0 / 16 ≡ 2 → Sound type.Begin p l (services_step p l)
  sound_services e =
      either (Sound type.Begin p l) (is_some p.services) _ _ (λ _. tt)
      (λ f. either (Sound type.Begin p l) (ltb (length l) 2) _ _ (λ _. tt)
      (λ g. sound_services_at (services_of (two l)) (services_pack (two l) (omega (arith, o 0, o 1))) f (ltb-false (length l) 2 g)))

  sound_crc16 : get_or l 0 0 / 16 ≡ 2 → Sound type.End p l (crc16_step p l)
  sound_crc16 e =
      either (Sound type.End p l) (is_some p.crc) _ _ (λ _. tt)
      (λ f. either (Sound type.End p l) (ltb (length l) 3) _ _ (λ _. tt)
      (λ g. either (Sound type.End p l) (not (eqb (three l % 16) 0)) _ _ (λ _. tt)
      (λ r.
      let z : three l % 16 ≡ 0 = eqb-true _ _ (not-false _ r) in
      let n = three l / 16 % 65536 in
      let v : three l ≡ 2097152 + n * 16 = crc16_value (three l) (omega (arith, o 0, o 1, o 2)) z in
      record {
        what = crc16 n;
        fresh = f;
        within = omega arith;
        adds = refl;
        size = refl;
        front = digits3 l o (ltb-false (length l) 3 g) ∙ ap (λ (k : ℕ). triple_octets k ++ drop 3 l) v;
      })))

  sound_crc24 : get_or l 0 0 / 16 ≡ 3 → Sound type.End p l (crc24_step p l)
  sound_crc24 e =
      either (Sound type.End p l) (is_some p.crc) _ _ (λ _. tt)
      (λ f. either (Sound type.End p l) (ltb (length l) 4) _ _ (λ _. tt)
      (λ g. either (Sound type.End p l) (not (eqb (four l % 16) 0)) _ _ (λ _. tt)
      (λ r.
      let z : four l % 16 ≡ 0 = eqb-true _ _ (not-false _ r) in
      let n = four l / 16 % 16777216 in
      let v : four l ≡ 805306368 + n * 16 = crc24_value (four l) (omega (arith, o 0, o 1, o 2, o 3)) z in
      record {
        what = crc24 n;
        fresh = f;
        within = omega arith;
        adds = refl;
        size = refl;
        front = digits4 l o (ltb-false (length l) 4 g) ∙ ap (λ (k : ℕ). quad_octets k ++ drop 4 l) v;
      })))

-- an octet whose top four bits are no name of these
unnamed : (a n : ℕ) → a < 256 → n < 16 → eqb (a / 16) n ≡ false → take 4 (bits_of 8 a) ≡ bits_of 4 n → ⊥
unnamed a n h k e q = eqb-false _ _ e ((same_name a n h k).0 q)

sound_named : (t : SegmentType) (p : Params) (a : ℕ) (r : List ℕ) → Octets (a ∷ r) → Sound t p (a ∷ r) (named t (a / 16) p (a ∷ r))
sound_named type.Begin p a r o =
    let l = a ∷ r in
    let P = Sound type.Begin p l in
    either P (eqb (a / 16) 1) _ _ (λ e. sound_length type.Begin p l o (eqb-true _ _ e))
    (λ x. either P (eqb (a / 16) 2) _ _ (λ e. sound_services type.Begin p l o (eqb-true _ _ e)) (λ y. (unnamed a 1 (o 0) (omega arith) x, (unnamed a 2 (o 0) (omega arith) y, tt))))
sound_named type.Continue p a r o =
    let l = a ∷ r in
    either (Sound type.Continue p l) (eqb (a / 16) 1) _ _ (λ e. sound_length type.Continue p l o (eqb-true _ _ e)) (λ x. (unnamed a 1 (o 0) (omega arith) x, tt))
sound_named type.End p a r o =
    let l = a ∷ r in
    let P = Sound type.End p l in
    either P (eqb (a / 16) 1) _ _ (λ e. sound_length type.End p l o (eqb-true _ _ e))
    (λ x. either P (eqb (a / 16) 2) _ _ (λ e. sound_crc16 type.End p l o (eqb-true _ _ e))
    (λ y. either P (eqb (a / 16) 3) _ _ (λ e. sound_crc24 type.End p l o (eqb-true _ _ e)) (λ z. (unnamed a 1 (o 0) (omega arith) x, (unnamed a 2 (o 0) (omega arith) y, (unnamed a 3 (o 0) (omega arith) z, tt))))))

-- every step is so
pub sound : (t : SegmentType) (p : Params) (l : List ℕ) → Octets l → Sound t p l (step_of t p l)
unfolding step_of
sound t p [] o = tt
sound t p (a ∷ r) o = either (Sound t p (a ∷ r)) (eqb (length (a ∷ r)) 0) _ _ (λ e. absurd (omega (arith, eqb-true (length (a ∷ r)) 0 e))) (λ _. sound_named t p a r o)

-- ---- what stands there is taken

compression_back : (c : Compression) → compression_of (compression_number c) ≡ Some c
unfolding compression_of
compression_back compression.None = refl
compression_back compression.V42Bis = refl

window_back : (w : AcknowledgmentWindow) → window_of (window_number w) ≡ Some w
unfolding window_of
window_back window.Prohibited = refl
window_back window.Every4 = refl
window_back window.Every8 = refl
window_back window.Every16 = refl
window_back window.Last = refl
window_back window.Exceptions = refl

status_back : (s : CrcStatus) → status_of (status_number s) ≡ Some s
unfolding status_of
status_back status.None = refl
status_back status.Crc16 = refl
status_back status.Crc24 = refl

digit : (q m r : ℕ) → r < m → (q * m + r) % m ≡ r
digit q m r h = digits_mod q h

services_back : (s : OptionalServices) → services_of (services_field s) ≡ Ok s
unfolding services_of
services_back s =
    let c = compression_le s.compression in
    let w = window_le s.acknowledgment_window in
    let k = status_le s.crc_status in
    let f = services_field s in
    let cn = compression_number s.compression in
    let wn = window_number s.acknowledgment_window in
    let kn = status_number s.crc_status in
    let r : f % 2 ≡ 0 = omega arith in
    let f64 : f / 64 ≡ (16 + cn) * 8 + 0 = omega arith in
    let e : f / 64 % 8 ≡ 0 = ap (λ (x : ℕ). x % 8) f64 ∙ digit (16 + cn) 8 0 (omega arith) in
    let f512 : f / 512 ≡ 2 * 8 + cn = omega arith in
    let x : f / 512 % 8 ≡ cn = ap (λ (x : ℕ). x % 8) f512 ∙ digit 2 8 cn (omega arith) in
    let f8 : f / 8 ≡ (128 + cn * 8) * 8 + wn = omega arith in
    let y : f / 8 % 8 ≡ wn = ap (λ (x : ℕ). x % 8) f8 ∙ digit (128 + cn * 8) 8 wn (omega arith) in
    let f2 : f / 2 ≡ (1024 + cn * 64 + wn) * 4 + kn = omega arith in
    let z : f / 2 % 4 ≡ kn = ap (λ (x : ℕ). x % 4) f2 ∙ digit (1024 + cn * 64 + wn) 4 kn (omega arith) in
    simp (eq-eqb _ _ r, eq-eqb _ _ e, x, y, z, compression_back, window_back, status_back)

module _ (p : Params) (r : List ℕ) where
  length_taken : (n : ℕ) → n ≤ 4095 → is_some p.message_length ≡ false → length_step p (pair_octets (4096 + n) ++ r) ≡ (Ok (Some ((with_length p n), 2)))
  length_taken n h e =
      let m = 4096 + n in
      let v : (m / 256 * 256 + m % 256) % 4096 ≡ n = omega arith in
      let z : ltb (length (m / 256 ∷ m % 256 ∷ r)) 2 ≡ false = le-ltb (length (m / 256 ∷ m % 256 ∷ r)) 2 (omega arith) in
      simp (e, z, v)

  services_taken : (s : OptionalServices) → is_some p.services ≡ false → services_step p (pair_octets (services_field s) ++ r) ≡ (Ok (Some ((with_services p s), 2)))
  services_taken s e =
      let f = services_field s in
      let v : f / 256 * 256 + f % 256 ≡ f = omega arith in
      let z : ltb (length (f / 256 ∷ f % 256 ∷ r)) 2 ≡ false = le-ltb (length (f / 256 ∷ f % 256 ∷ r)) 2 (omega arith) in
      simp (e, z, v, services_back s)

  crc16_taken : (v : ℕ) → v < 65536 → is_some p.crc ≡ false → crc16_step p (triple_octets (2097152 + v * 16) ++ r) ≡ (Ok (Some ((with_crc p (Some (crc.Crc16 v))), 3)))
  crc16_taken v h e =
      let f = 2097152 + v * 16 in
      let w : f / 65536 * 65536 + f / 256 % 256 * 256 + f % 256 ≡ f = omega arith in
      let m : f % 16 ≡ 0 = omega arith in
      let d : f / 16 ≡ 2 * 65536 + v = omega arith in
      let q : f / 16 % 65536 ≡ v = ap (λ (x : ℕ). x % 65536) d ∙ digit 2 65536 v h in
      let z : ltb (length (triple_octets f ++ r)) 3 ≡ false = le-ltb (length (triple_octets f ++ r)) 3 (omega arith) in
      simp (e, z, w, eq-eqb _ _ m, q)

  crc24_taken : (v : ℕ) → v < 16777216 → is_some p.crc ≡ false → crc24_step p (quad_octets (805306368 + v * 16) ++ r) ≡ (Ok (Some ((with_crc p (Some (crc.Crc24 v))), 4)))
  crc24_taken v h e =
      let f = 805306368 + v * 16 in
      let w : f / 16777216 * 16777216 + f / 65536 % 256 * 65536 + f / 256 % 256 * 256 + f % 256 ≡ f = omega arith in
      let m : f % 16 ≡ 0 = omega arith in
      let d : f / 16 ≡ 3 * 16777216 + v = omega arith in
      let q : f / 16 % 16777216 ≡ v = ap (λ (x : ℕ). x % 16777216) d ∙ digit 3 16777216 v h in
      let z : ltb (length (quad_octets f ++ r)) 4 ≡ false = le-ltb (length (quad_octets f ++ r)) 4 (omega arith) in
      simp (e, z, w, eq-eqb _ _ m, q)

-- the first octet has a name, so the step is the one that the name says
by_name : (t : SegmentType) (p : Params) (a : ℕ) (r : List ℕ) (m : ℕ) → a / 16 ≡ m → step_of t p (a ∷ r) ≡ named t m p (a ∷ r)
unfolding step_of
by_name t p a r m e =
    let y : eqb (length (a ∷ r)) 0 ≡ false = ne_eqb (length (a ∷ r)) 0 (λ q. omega arith) in
    simp (y, e)

-- a parameter that stands in front, in an empty place, is taken
pub taken : (t : SegmentType) (p : Params) (x : Param) (r : List ℕ) → Fresh t p x → ParamFits x → step_of t p (param_octets x ++ r) ≡ (Ok (Some ((add x p), (length (param_octets x)))))
taken type.Begin p (stated n) r f h = by_name type.Begin p _ _ 1 (omega arith) ∙ length_taken p r n h f
taken type.Continue p (stated n) r f h = by_name type.Continue p _ _ 1 (omega arith) ∙ length_taken p r n h f
taken type.End p (stated n) r f h = by_name type.End p _ _ 1 (omega arith) ∙ length_taken p r n h f
taken type.Begin p (services s) r f h =
    let c = compression_le s.compression in
    let w = window_le s.acknowledgment_window in
    let k = status_le s.crc_status in
    by_name type.Begin p _ _ 2 (omega arith) ∙ services_taken p r s f
taken type.Continue p (services s) r f h = absurd f
taken type.End p (services s) r f h = absurd f
taken type.Begin p (crc16 v) r f h = absurd f
taken type.Continue p (crc16 v) r f h = absurd f
taken type.End p (crc16 v) r f h = by_name type.End p _ _ 2 (omega arith) ∙ crc16_taken p r v h f
taken type.Begin p (crc24 v) r f h = absurd f
taken type.Continue p (crc24 v) r f h = absurd f
taken type.End p (crc24 v) r f h = by_name type.End p _ _ 3 (omega arith) ∙ crc24_taken p r v h f

differs : (a n : ℕ) → (take 4 (bits_of 8 a) ≡ bits_of 4 n → ⊥) → eqb (a / 16) n ≡ false
differs a n h = ne_eqb _ _ (λ e. h (top_bits a ∙ ap (bits_of 4) e))

-- where no name of the type stands, the loop ends
stops_named : (t : SegmentType) (p : Params) (a : ℕ) (r : List ℕ) → Unnamed t (a ∷ r) → named t (a / 16) p (a ∷ r) ≡ (Ok None)
stops_named type.Begin p a r h = simp (differs a 1 h.0, differs a 2 h.1.0)
stops_named type.Continue p a r h = simp (differs a 1 h.0)
stops_named type.End p a r h = simp (differs a 1 h.0, differs a 2 h.1.0, differs a 3 h.1.1.0)

-- the same of any octets
pub stopped : (t : SegmentType) (p : Params) (l : List ℕ) → Unnamed t l → step_of t p l ≡ (Ok None)
unfolding step_of
stopped t p [] h = refl
stopped t p (a ∷ r) h = by_name t p a r (a / 16) refl ∙ stops_named t p a r h
