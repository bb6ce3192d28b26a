-- No bit is lost: the bits of the octets are the bits of the fields, and octets with those bits are these. Assumes nothing.
use mathlib.Core.Path.{◌≡◌, refl, sym, ap, ◌∙◌}
use mathlib.Core.Logic.{◌↔◌}
use mathlib.Core.List.{List, [], ◌∷◌, ◌++◌, append-nil}
use Prim.Native.Nat.{ℕ, zero, suc, ◌+◌, ◌*◌, ◌/◌, ◌%◌, ◌<◌}
use native.Mathlib.Omega.{arith}
use native.Mathlib.Numerals.{add-one}
use lib.ListN.{length, length-append}
use Rattle.tsar.specs.Layout.{Field, bits_of, bits, octets_of, octet_fields, Param, stated, services, crc16, crc24, param_fields, params_fields, WholeSegment, fields_with}
use Rattle.tsar.specs.Spells.{Octets}
use Rattle.tsar.proofs.Bits.{pack, packed, widths}
use Rattle.tsar.proofs.Spelled.{spell_data}

abbrev Binary : List ℕ → Type 0
Binary [] = Unit {0}
Binary (x ∷ l) = (x < 2) × Binary l

binary_append : (a b : List ℕ) → Binary a → Binary b → Binary (a ++ b)
binary_append [] b h k = k
binary_append (x ∷ a) b h k = (h.0, binary_append a b h.1 k)

binary_of : (w v : ℕ) → Binary (bits_of w v)
unfolding bits_of
binary_of zero v = tt
binary_of (suc w) v = binary_append (bits_of w (v / 2)) (v % 2 ∷ []) (binary_of w (v / 2)) (omega arith, tt)

binary : (fs : List Field) → Binary (bits fs)
unfolding bits
binary [] = tt
binary (f ∷ fs) = binary_append (bits_of f.0 f.1) (bits fs) (binary_of f.0 f.1) (binary fs)

-- eight bits, from the octet that they are
eight : (a b c d e f g h : ℕ) → a < 2 → b < 2 → c < 2 → d < 2 → e < 2 → f < 2 → g < 2 → h < 2
    → bits_of 8 (a * 128 + b * 64 + c * 32 + d * 16 + e * 8 + f * 4 + g * 2 + h) ≡ a ∷ b ∷ c ∷ d ∷ e ∷ f ∷ g ∷ h ∷ []
unfolding bits bits_of
eight a b c d e f g h p q r s t u v w =
    let fs : List Field = (1, a) ∷ (1, b) ∷ (1, c) ∷ (1, d) ∷ (1, e) ∷ (1, f) ∷ (1, g) ∷ (1, h) ∷ [] in
    let m : a * 128 + b * 64 + c * 32 + d * 16 + e * 8 + f * 4 + g * 2 + h ≡ packed fs = omega arith in
    let one : (x : ℕ) → x < 2 → x % 2 ≡ x = λ x z. omega arith in
    ap (bits_of 8) m ∙ sym (pack fs (p, (q, (r, (s, (t, (u, (v, (w, tt)))))))))
    ∙ rw (one a p, one b q, one c r, one d s, one e t, one f u, one g v, one h w)

octets_bits : (l : List ℕ) → Binary l → length l % 8 ≡ 0 → bits (octet_fields (octets_of l)) ≡ l
unfolding octets_of bits
octets_bits [] y z = refl
octets_bits (a ∷ []) y z = absurd (omega (arith, z))
octets_bits (a ∷ b ∷ []) y z = absurd (omega (arith, z))
octets_bits (a ∷ b ∷ c ∷ []) y z = absurd (omega (arith, z))
octets_bits (a ∷ b ∷ c ∷ d ∷ []) y z = absurd (omega (arith, z))
octets_bits (a ∷ b ∷ c ∷ d ∷ e ∷ []) y z = absurd (omega (arith, z))
octets_bits (a ∷ b ∷ c ∷ d ∷ e ∷ f ∷ []) y z = absurd (omega (arith, z))
octets_bits (a ∷ b ∷ c ∷ d ∷ e ∷ f ∷ g ∷ []) y z = absurd (omega (arith, z))
octets_bits (a ∷ b ∷ c ∷ d ∷ e ∷ f ∷ g ∷ h ∷ r) y z =
    ap (λ (l : List ℕ). l ++ bits (octet_fields (octets_of r))) (eight a b c d e f g h y.0 y.1.0 y.1.1.0 y.1.1.1.0 y.1.1.1.1.0 y.1.1.1.1.1.0 y.1.1.1.1.1.1.0 y.1.1.1.1.1.1.1.0)
    ∙ ap (λ (l : List ℕ). a ∷ b ∷ c ∷ d ∷ e ∷ f ∷ g ∷ h ∷ l) (octets_bits r y.1.1.1.1.1.1.1.1 (omega (arith, z)))

spelled_back : (l : List ℕ) → Octets l → octets_of (bits (octet_fields l)) ≡ l
unfolding octets_of
spelled_back l o = ap octets_of (sym (append-nil (bits (octet_fields l)))) ∙ spell_data l [] o ∙ append-nil l

-- a segment's fields fill whole octets
length_bits_of : (w v : ℕ) → length (bits_of w v) ≡ w
unfolding bits_of
length_bits_of zero v = refl
length_bits_of (suc w) v = length-append (bits_of w (v / 2)) (v % 2 ∷ []) ∙ ap (λ (k : ℕ). k + 1) (length_bits_of w (v / 2)) ∙ add-one w

length_bits : (fs : List Field) → length (bits fs) ≡ widths fs
unfolding bits
length_bits [] = refl
length_bits (f ∷ fs) = omega (arith, length-append (bits_of f.0 f.1) (bits fs), length_bits_of f.0 f.1, length_bits fs)

widths_append : (a b : List Field) → widths (a ++ b) ≡ widths a + widths b
widths_append [] b = omega arith
widths_append (f ∷ a) b = omega (arith, widths_append a b)

whole_data : (d : List ℕ) → widths (octet_fields d) % 8 ≡ 0
whole_data [] = omega arith
whole_data (o ∷ d) = omega (arith, whole_data d)

whole_param : (x : Param) → widths (param_fields x) % 8 ≡ 0
whole_param (stated n) = refl
whole_param (services s) = refl
whole_param (crc16 v) = refl
whole_param (crc24 v) = refl

whole_params : (ps : List Param) → widths (params_fields ps) % 8 ≡ 0
whole_params [] = omega arith
whole_params (x ∷ ps) = omega (arith, widths_append (param_fields x) (params_fields ps), whole_param x, whole_params ps)

fills_octets : (ps : List Param) (s : WholeSegment) → widths (fields_with ps s) % 8 ≡ 0
unfolding fields_with
fills_octets ps s = omega (arith, widths_append (octet_fields s.segment_data) (params_fields ps), whole_data s.segment_data, whole_params ps)

module _ (ps : List Param) (s : WholeSegment) where
  pub no_bit_lost : bits (octet_fields (octets_of (bits (fields_with ps s)))) ≡ bits (fields_with ps s)
  no_bit_lost = octets_bits (bits (fields_with ps s)) (binary (fields_with ps s)) (omega (arith, length_bits (fields_with ps s), fills_octets ps s))

  -- octets are the octets of a segment's fields exactly where they have the same bits
  pub same_bits : (l : List ℕ) → Octets l → (l ≡ octets_of (bits (fields_with ps s))) ↔ (bits (octet_fields l) ≡ bits (fields_with ps s))
  same_bits l o = (
    λ e. ap (λ (m : List ℕ). bits (octet_fields m)) e ∙ no_bit_lost,
    λ e. sym (spelled_back l o) ∙ ap octets_of e,
  )
