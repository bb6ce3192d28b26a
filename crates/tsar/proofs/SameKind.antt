-- Two kinds are the same exactly where they are one, and so are lengths, services, CRCs and windows: no field is left out. Assumes nothing.
use mathlib.Core.Path.{◌≡◌, refl, sym, ap, ◌∙◌, subst}
use mathlib.Core.Bool.{Bool, true, false, ◌&&◌, true≢false}
use mathlib.Core.Logic.{◌↔◌}
use Rattle.std.specs.Prelude.{Option, Some, None, ℕ}
use borrow.Author.Tests.{eqb-true, eq-eqb}
use lib.Dec.{eqb}
use Rattle.tsar.specs.Kinds.{same_lengths, same_optional, same_services, same_crc, same_kind}
use Rattle.tsar.specs.Layout.{window_number, compression_number, status_number}
use Rattle.tsar.specs.Reading.{compression_of, window_of, status_of}
use Rattle.tsar.specs.declared.Compression.{Compression}
use Rattle.tsar.specs.declared.Compression.TheVariants as compression
use Rattle.tsar.specs.declared.AcknowledgmentWindow.{AcknowledgmentWindow}
use Rattle.tsar.specs.declared.AcknowledgmentWindow.TheVariants as window
use Rattle.tsar.specs.declared.CrcStatus.{CrcStatus}
use Rattle.tsar.specs.declared.CrcStatus.TheVariants as status
use Rattle.tsar.specs.declared.OptionalServices.{OptionalServices}
use Rattle.tsar.specs.declared.MessageCrc.{MessageCrc}
use Rattle.tsar.specs.declared.MessageCrc.TheVariants as crc
use Rattle.tsar.specs.declared.SegmentKind.{SegmentKind}
use Rattle.tsar.specs.declared.SegmentKind.TheVariants as kind'

-- two tests that hold together
both : (a b : Bool) → (a && b) ≡ true → (a ≡ true) × (b ≡ true)
both true b e = (refl, e)
both false b e = absurd (true≢false (sym e))

-- ---- a number names one case

window_back : (w : AcknowledgmentWindow) → window_of (window_number w) ≡ Some w
unfolding window_of
window_back window.Prohibited = refl
window_back window.Every4 = refl
window_back window.Every8 = refl
window_back window.Every16 = refl
window_back window.Last = refl
window_back window.Exceptions = refl

compression_back : (c : Compression) → compression_of (compression_number c) ≡ Some c
unfolding compression_of
compression_back compression.None = refl
compression_back compression.V42Bis = refl

status_back : (s : CrcStatus) → status_of (status_number s) ≡ Some s
unfolding status_of
status_back status.None = refl
status_back status.Crc16 = refl
status_back status.Crc24 = refl

pub same_window : (v w : AcknowledgmentWindow) → eqb (window_number v) (window_number w) ≡ true → v ≡ w
same_window v w e = let p = sym (window_back v) ∙ ap window_of (eqb-true (window_number v) (window_number w) e) ∙ window_back w in cc

same_compression : (v w : Compression) → eqb (compression_number v) (compression_number w) ≡ true → v ≡ w
same_compression v w e = let p = sym (compression_back v) ∙ ap compression_of (eqb-true (compression_number v) (compression_number w) e) ∙ compression_back w in cc

same_status : (v w : CrcStatus) → eqb (status_number v) (status_number w) ≡ true → v ≡ w
same_status v w e = let p = sym (status_back v) ∙ ap status_of (eqb-true (status_number v) (status_number w) e) ∙ status_back w in cc

-- ---- what is the same is one

same_lengths_lem : (a b : Option ℕ) → same_lengths a b ≡ true → a ≡ b
same_lengths_lem None None e = refl
same_lengths_lem None (Some n) e = absurd (true≢false (sym e))
same_lengths_lem (Some m) None e = absurd (true≢false (sym e))
same_lengths_lem (Some m) (Some n) e = ap Some (eqb-true m n e)

same_optional_lem : (a b : OptionalServices) → same_optional a b ≡ true → a ≡ b
same_optional_lem a b e =
    let c = eqb (compression_number a.compression) (compression_number b.compression) in
    let w = eqb (window_number a.acknowledgment_window) (window_number b.acknowledgment_window) in
    let s = eqb (status_number a.crc_status) (status_number b.crc_status) in
    let x = both (c && w) s e in
    let y = both c w x.0 in
    let p1 = same_compression a.compression b.compression y.0 in
    let p2 = same_window a.acknowledgment_window b.acknowledgment_window y.1 in
    let p3 = same_status a.crc_status b.crc_status x.1 in
    λ i. record { compression = p1 i; acknowledgment_window = p2 i; crc_status = p3 i }

same_services_lem : (a b : Option OptionalServices) → same_services a b ≡ true → a ≡ b
same_services_lem None None e = refl
same_services_lem None (Some t) e = absurd (true≢false (sym e))
same_services_lem (Some s) None e = absurd (true≢false (sym e))
same_services_lem (Some s) (Some t) e = ap Some (same_optional_lem s t e)

same_crc_lem : (a b : Option MessageCrc) → same_crc a b ≡ true → a ≡ b
same_crc_lem None None e = refl
same_crc_lem None (Some (crc.Crc16 w)) e = absurd (true≢false (sym e))
same_crc_lem None (Some (crc.Crc24 w)) e = absurd (true≢false (sym e))
same_crc_lem (Some (crc.Crc16 v)) None e = absurd (true≢false (sym e))
same_crc_lem (Some (crc.Crc16 v)) (Some (crc.Crc16 w)) e = ap (λ x. Some (crc.Crc16 x)) (eqb-true v w e)
same_crc_lem (Some (crc.Crc16 v)) (Some (crc.Crc24 w)) e = absurd (true≢false (sym e))
same_crc_lem (Some (crc.Crc24 v)) None e = absurd (true≢false (sym e))
same_crc_lem (Some (crc.Crc24 v)) (Some (crc.Crc16 w)) e = absurd (true≢false (sym e))
same_crc_lem (Some (crc.Crc24 v)) (Some (crc.Crc24 w)) e = ap (λ x. Some (crc.Crc24 x)) (eqb-true v w e)

same_one : (a b : SegmentKind) → same_kind a b ≡ true → a ≡ b
same_one (kind'.Begin m s) (kind'.Begin n t) e =
    let x = both (same_lengths m n) (same_services s t) e in
    let p = same_lengths_lem m n x.0 in
    let q = same_services_lem s t x.1 in
    λ i. kind'.Begin (p i) (q i)
same_one (kind'.Begin m s) (kind'.Continue n) e = absurd (true≢false (sym e))
same_one (kind'.Begin m s) (kind'.End n c) e = absurd (true≢false (sym e))
same_one (kind'.Continue m) (kind'.Begin n t) e = absurd (true≢false (sym e))
same_one (kind'.Continue m) (kind'.Continue n) e = ap kind'.Continue (same_lengths_lem m n e)
same_one (kind'.Continue m) (kind'.End n c) e = absurd (true≢false (sym e))
same_one (kind'.End m b) (kind'.Begin n t) e = absurd (true≢false (sym e))
same_one (kind'.End m b) (kind'.Continue n) e = absurd (true≢false (sym e))
same_one (kind'.End m b) (kind'.End n c) e =
    let x = both (same_lengths m n) (same_crc b c) e in
    let p = same_lengths_lem m n x.0 in
    let q = same_crc_lem b c x.1 in
    λ i. kind'.End (p i) (q i)

-- ---- and one is the same

pub window_same : (w : AcknowledgmentWindow) → eqb (window_number w) (window_number w) ≡ true
window_same w = eq-eqb (window_number w) (window_number w) refl

lengths_same : (a : Option ℕ) → same_lengths a a ≡ true
lengths_same None = refl
lengths_same (Some n) = eq-eqb n n refl

services_same : (a : Option OptionalServices) → same_services a a ≡ true
services_same None = refl
services_same (Some s) =
    simp (eq-eqb (compression_number s.compression) (compression_number s.compression) refl, window_same s.acknowledgment_window, eq-eqb (status_number s.crc_status) (status_number s.crc_status) refl)

crc_same : (a : Option MessageCrc) → same_crc a a ≡ true
crc_same None = refl
crc_same (Some (crc.Crc16 v)) = eq-eqb v v refl
crc_same (Some (crc.Crc24 v)) = eq-eqb v v refl

pub kind_same : (a : SegmentKind) → same_kind a a ≡ true
kind_same (kind'.Begin n s) = simp (lengths_same n, services_same s)
kind_same (kind'.Continue n) = lengths_same n
kind_same (kind'.End n c) = simp (lengths_same n, crc_same c)

-- same_kind holds of two kinds exactly where they are one kind with one set of parameters
pub same_kind_lem : (a b : SegmentKind) → (same_kind a b ≡ true) ↔ (a ≡ b)
same_kind_lem a b = (same_one a b, λ (p : a ≡ b). subst (λ (x : SegmentKind). same_kind a x ≡ true) p (kind_same a))
