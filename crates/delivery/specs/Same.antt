-- What the receiver compares is the same where it is the same, and lengths that agree with a message's length neither clash nor pass it.
use Rattle.std.specs.Prelude.{ℕ, ◌≤◌, ◌≡◌, refl, true, false, not, Option, Some, None}
use Rattle.std.proofs.Common.{ap, subst, arith, leb-false, eqb-true, le-ltb, eq-eqb}
use Rattle.std.proofs.lemmas.Bool.{not-false}
use Rattle.link.specs.Peer.{same_identity, same_protocol}
use Rattle.link.specs.declared.MobileIdentity.{MobileIdentity}
use Rattle.link.specs.declared.HigherLayerProtocol.{HigherLayerProtocol}
use Rattle.link.specs.declared.HigherLayerProtocol.TheVariants.{Segmented, CarrierSpecific, Other}
use Rattle.tsar.specs.Kinds.{states_other}
use Rattle.tsar.specs.Layout.{compression_number, window_number, status_number}
use Rattle.tsar.specs.declared.OptionalServices.{OptionalServices}
use Rattle.tsar.specs.declared.MessageCrc.{MessageCrc}
use Rattle.tsar.specs.declared.MessageCrc.TheVariants as crc
use Rattle.tsar.specs.declared.SegmentKind.{SegmentKind}
use Rattle.tsar.specs.declared.SegmentKind.TheVariants.{Begin, Continue, End}
use Rattle.receiver.specs.Record.{late, due, clash, states_below, states_above}
use Rattle.receiver.specs.Receive.{stated_of, same_lengths, same_services, same_crc, same_kind}

-- ---- what is the same

-- a peer
pub same_identity_lem : (p q : MobileIdentity) → p ≡ q → same_identity p q ≡ true
same_identity_lem p q e =
    subst (λ (x : MobileIdentity). same_identity p x ≡ true) e
    (simp (eq-eqb p.kind p.kind refl, eq-eqb p.width p.width refl, eq-eqb p.value p.value refl))

-- a protocol
pub same_protocol_lem : (p q : HigherLayerProtocol) → p ≡ q → same_protocol p q ≡ true
same_protocol_lem p q e = subst (λ (x : HigherLayerProtocol). same_protocol p x ≡ true) e (itself p)
  where
    itself : (x : HigherLayerProtocol) → same_protocol x x ≡ true
    itself (Segmented o) = eq-eqb o o refl
    itself (CarrierSpecific o) = eq-eqb o o refl
    itself (Other o) = eq-eqb o o refl

-- a stated length
same_lengths_lem : (l : Option ℕ) → same_lengths l l ≡ true
same_lengths_lem None = refl
same_lengths_lem (Some n) = eq-eqb n n refl

-- services
same_services_lem : (s : Option OptionalServices) → same_services s s ≡ true
same_services_lem None = refl
same_services_lem (Some s) =
    simp (eq-eqb (compression_number s.compression) (compression_number s.compression) refl, eq-eqb (window_number s.acknowledgment_window) (window_number s.acknowledgment_window) refl, eq-eqb (status_number s.crc_status) (status_number s.crc_status) refl)

-- a CRC
same_crc_lem : (c : Option MessageCrc) → same_crc c c ≡ true
same_crc_lem None = refl
same_crc_lem (Some (crc.Crc16 v)) = eq-eqb v v refl
same_crc_lem (Some (crc.Crc24 v)) = eq-eqb v v refl

-- a kind, with its parameters
pub same_kind_lem : (j k : SegmentKind) → j ≡ k → same_kind j k ≡ true
same_kind_lem j k e = subst (λ (x : SegmentKind). same_kind j x ≡ true) e (itself j)
  where
    itself : (x : SegmentKind) → same_kind x x ≡ true
    itself (Begin n s) = simp (same_lengths_lem n, same_services_lem s)
    itself (Continue n) = same_lengths_lem n
    itself (End n c) = simp (same_lengths_lem n, same_crc_lem c)

-- ---- lengths that agree with n

-- two of them do not clash
pub no_clash : (s t : Option ℕ) (n : ℕ) → states_other s n ≡ false → states_other t n ≡ false → clash s t ≡ false
no_clash s None n p q = refl
no_clash None (Some b) n p q = refl
no_clash (Some a) (Some b) n p q =
    let x = eqb-true a n (not-false _ p) in
    let y = eqb-true b n (not-false _ q) in
    ap not (eq-eqb a b (omega arith))

-- the one that is taken over agrees
pub still_states : (s t : Option ℕ) (n : ℕ) → states_other s n ≡ false → states_other t n ≡ false → states_other (stated_of s t) n ≡ false
still_states s None n p q = p
still_states s (Some b) n p q = q

-- it is not above what n is within
pub not_above : (s : Option ℕ) (n m : ℕ) → states_other s n ≡ false → n ≤ m → states_above s m ≡ false
not_above None n m p h = refl
not_above (Some a) n m p h = let x = eqb-true a n (not-false _ p) in le-ltb m a (omega arith)

-- and not below what is within n
pub not_below : (s : Option ℕ) (n m : ℕ) → states_other s n ≡ false → m ≤ n → states_below s m ≡ false
not_below None n m p h = refl
not_below (Some a) n m p h = let x = eqb-true a n (not-false _ p) in le-ltb a m (omega arith)

-- ---- a deadline that is not due is not passed

-- one that has not come is not past
pub not_late : (d : Option ℕ) (now' : ℕ) → due d now' ≡ false → late d now' ≡ false
not_late None now' e = refl
not_late (Some t) now' e = let h = leb-false t now' e in le-ltb t now' (omega arith)
