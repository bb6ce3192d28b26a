-- The octets that the layout spells are those that code computes. Assumes nothing.
use mathlib.Core.Path.{◌≡◌, refl, ap, ◌∙◌}
use mathlib.Core.List.{List, [], ◌∷◌, ◌++◌, append_assoc}
use Prim.Native.Nat.{ℕ, suc, ◌+◌, ◌*◌, ◌/◌, ◌%◌, ◌≤◌}
use native.Mathlib.Omega.{arith}
use lib.Arith.{digits_mod}
use lib.ListN.{length}
use Rattle.tsar.specs.declared.Compression.{Compression}
use Rattle.tsar.specs.declared.Compression.TheVariants as compression
use Rattle.tsar.specs.declared.AcknowledgmentWindow.{AcknowledgmentWindow}
use Rattle.tsar.specs.declared.AcknowledgmentWindow.TheVariants as window
use Rattle.tsar.specs.declared.CrcStatus.{CrcStatus}
use Rattle.tsar.specs.declared.CrcStatus.TheVariants as status
use Rattle.tsar.specs.declared.SegmentKind.{SegmentKind}
use Rattle.tsar.specs.declared.SegmentKind.TheVariants as kind'
use Rattle.tsar.specs.Layout.{bits_of, bits, octets_of, Param, stated, services, crc16, crc24, param_fields, params_fields, WholeSegment, header_fields, octet_fields, fields_with, type_number, compression_number, window_number, status_number}
use Rattle.tsar.specs.Octets.{services_field, param_octets, params_octets, octets_with, ParamFits, ParamsFit}
use Rattle.tsar.specs.Spells.{Octets, Fits}
use Rattle.tsar.proofs.Bits.{pack, packed, bits_append, one_octet, two_octets, three_octets, four_octets}

-- the numbers of the cases fit their fields
pub compression_le : (c : Compression) → compression_number c ≤ 1
compression_le compression.None = omega arith
compression_le compression.V42Bis = omega arith

pub window_le : (w : AcknowledgmentWindow) → window_number w ≤ 5
window_le window.Prohibited = omega arith
window_le window.Every4 = omega arith
window_le window.Every8 = omega arith
window_le window.Every16 = omega arith
window_le window.Last = omega arith
window_le window.Exceptions = omega arith

pub status_le : (s : CrcStatus) → status_number s ≤ 2
status_le status.None = omega arith
status_le status.Crc16 = omega arith
status_le status.Crc24 = omega arith

pub type_le : (k : SegmentKind) → type_number k ≤ 2
type_le (kind'.Begin n s) = omega arith
type_le (kind'.Continue n) = omega arith
type_le (kind'.End n c) = omega arith

-- a parameter
pub spell_param : (x : Param) (r : List ℕ) → ParamFits x → octets_of (bits (param_fields x) ++ r) ≡ param_octets x ++ octets_of r
spell_param (stated n) r h =
    let e : packed (param_fields (stated n)) ≡ 4096 + n = omega arith in
    ap (λ (l : List ℕ). octets_of (l ++ r)) (pack (param_fields (stated n)) (omega arith, (omega arith, tt)) ∙ ap (bits_of 16) e) ∙ two_octets r (4096 + n) (omega arith)
spell_param (services s) r h =
    let c = compression_le s.compression in
    let w = window_le s.acknowledgment_window in
    let k = status_le s.crc_status in
    let e : packed (param_fields (services s)) ≡ services_field s = omega arith in
    ap (λ (l : List ℕ). octets_of (l ++ r)) (pack (param_fields (services s)) (omega arith, (omega arith, (omega arith, (omega arith, (omega arith, (omega arith, tt)))))) ∙ ap (bits_of 16) e) ∙ two_octets r (services_field s) (omega arith)
spell_param (crc16 v) r h =
    let e : packed (param_fields (crc16 v)) ≡ 2097152 + v * 16 = omega arith in
    ap (λ (l : List ℕ). octets_of (l ++ r)) (pack (param_fields (crc16 v)) (omega arith, (omega arith, (omega arith, tt))) ∙ ap (bits_of 24) e) ∙ three_octets r (2097152 + v * 16) (omega arith)
spell_param (crc24 v) r h =
    let e : packed (param_fields (crc24 v)) ≡ 805306368 + v * 16 = omega arith in
    ap (λ (l : List ℕ). octets_of (l ++ r)) (pack (param_fields (crc24 v)) (omega arith, (omega arith, (omega arith, tt))) ∙ ap (bits_of 32) e) ∙ four_octets r (805306368 + v * 16) (omega arith)

-- parameters, one after another
pub spell_params : (ps : List Param) → ParamsFit ps → octets_of (bits (params_fields ps)) ≡ params_octets ps
unfolding bits octets_of
spell_params [] h = refl
spell_params (x ∷ ps) h =
    ap octets_of (bits_append (param_fields x) (params_fields ps)) ∙ spell_param x (bits (params_fields ps)) h.0 ∙ ap (λ (l : List ℕ). param_octets x ++ l) (spell_params ps h.1)

-- data
pub spell_data : (d : List ℕ) (r : List ℕ) → Octets d → octets_of (bits (octet_fields d) ++ r) ≡ d ++ octets_of r
unfolding bits
spell_data [] r h = refl
spell_data (o ∷ d) r h =
    let e : o % 256 ≡ o = omega (arith, h 0) in
    ap octets_of (append_assoc (bits_of 8 o) (bits (octet_fields d)) r) ∙ one_octet (bits (octet_fields d) ++ r) o ∙ ap (λ (l : List ℕ). (o % 256) ∷ l) (spell_data d r (λ i. h (suc i))) ∙ ap (λ (x : ℕ). x ∷ (d ++ octets_of r)) e

-- the header
pub spell_header : (s : WholeSegment) (r : List ℕ) → Fits s → octets_of (bits (header_fields s) ++ r) ≡ (type_number s.kind * 8 + s.transaction_id) ∷ s.sequence_number ∷ length s.segment_data ∷ octets_of r
spell_header s r h =
    let t = type_le s.kind in
    let n = length s.segment_data in
    let v = (type_number s.kind * 8 + s.transaction_id) * 65536 + s.sequence_number * 256 + n in
    let e : packed (header_fields s) ≡ v = omega arith in
    let a : v / 65536 ≡ type_number s.kind * 8 + s.transaction_id = omega arith in
    let q : v / 256 ≡ (type_number s.kind * 8 + s.transaction_id) * 256 + s.sequence_number = omega arith in
    let b : v / 256 % 256 ≡ s.sequence_number = ap (λ (x : ℕ). x % 256) q ∙ digits_mod (type_number s.kind * 8 + s.transaction_id) h.sequence_fits in
    let c : v % 256 ≡ n = omega arith in
    ap (λ (l : List ℕ). octets_of (l ++ r)) (pack (header_fields s) (omega arith, (omega arith, (omega arith, (omega arith, (omega arith, tt))))) ∙ ap (bits_of 24) e) ∙ three_octets r v (omega arith) ∙ rw (a, b, c)

-- a whole segment, its parameters in any order
pub spell : (ps : List Param) (s : WholeSegment) → Fits s → ParamsFit ps → octets_of (bits (fields_with ps s)) ≡ octets_with ps s
unfolding fields_with
spell ps s h g =
    ap octets_of (bits_append (header_fields s) (octet_fields s.segment_data ++ params_fields ps) ∙ ap (λ (l : List ℕ). bits (header_fields s) ++ l) (bits_append (octet_fields s.segment_data) (params_fields ps)))
    ∙ spell_header s (bits (octet_fields s.segment_data) ++ bits (params_fields ps)) h
    ∙ ap (λ (l : List ℕ). (type_number s.kind * 8 + s.transaction_id) ∷ s.sequence_number ∷ length s.segment_data ∷ l)
    (spell_data s.segment_data (bits (params_fields ps)) h.data_fits ∙ ap (λ (l : List ℕ). s.segment_data ++ l) (spell_params ps g))
