-- Laws of peers and protocols (each is the same as itself, and two that are the same are equal) and of profiles. Assumes nothing.
use Rattle.std.specs.Prelude.{◌≡◌, refl, Bool, true, false, cond, ◌&&◌, ℕ, ◌+◌, ◌≤◌, eqb}
use Rattle.std.proofs.Common.{sym, ap, true≢false, arith, eqb-true, eq-eqb, ne_eqb}
use Rattle.link.specs.Peer.{same_identity, same_protocol}
use Rattle.link.specs.Profile.{known_profile, receiver_interval, sender_interval}
use Rattle.link.specs.declared.MobileIdentity.{MobileIdentity}
use Rattle.link.specs.declared.HigherLayerProtocol.{HigherLayerProtocol}
use Rattle.link.specs.declared.HigherLayerProtocol.TheVariants.{Segmented, CarrierSpecific, Other}

-- ---- peers

pub same_identity_refl : (p : MobileIdentity) → same_identity p p ≡ true
same_identity_refl p = rw (eq-eqb p.kind p.kind refl, eq-eqb p.width p.width refl, eq-eqb p.value p.value refl)

pub same_identity_lem : (p q : MobileIdentity) → same_identity p q ≡ true → p ≡ q
same_identity_lem p q h = go (eqb p.kind q.kind) (eqb p.width q.width) (eqb p.value q.value) refl refl refl h
  where
    go : (a b c : Bool) → eqb p.kind q.kind ≡ a → eqb p.width q.width ≡ b → eqb p.value q.value ≡ c → (a && b && c) ≡ true → p ≡ q
    go true true true k w v e =
        λ i. record { kind = eqb-true p.kind q.kind k i; width = eqb-true p.width q.width w i; value = eqb-true p.value q.value v i }
    go true true false k w v e = absurd (true≢false (sym e))
    go true false c k w v e = absurd (true≢false (sym e))
    go false b c k w v e = absurd (true≢false (sym e))

-- ---- protocols

pub same_protocol_refl : (p : HigherLayerProtocol) → same_protocol p p ≡ true
same_protocol_refl (Segmented o) = eq-eqb o o refl
same_protocol_refl (CarrierSpecific o) = eq-eqb o o refl
same_protocol_refl (Other o) = eq-eqb o o refl

pub same_protocol_lem : (p q : HigherLayerProtocol) → same_protocol p q ≡ true → p ≡ q
same_protocol_lem (Segmented o) (Segmented q) h = ap Segmented (eqb-true o q h)
same_protocol_lem (CarrierSpecific o) (CarrierSpecific q) h = ap CarrierSpecific (eqb-true o q h)
same_protocol_lem (Other o) (Other q) h = ap Other (eqb-true o q h)
same_protocol_lem (Segmented o) (CarrierSpecific q) h = absurd (true≢false (sym h))
same_protocol_lem (Segmented o) (Other q) h = absurd (true≢false (sym h))
same_protocol_lem (CarrierSpecific o) (Segmented q) h = absurd (true≢false (sym h))
same_protocol_lem (CarrierSpecific o) (Other q) h = absurd (true≢false (sym h))
same_protocol_lem (Other o) (Segmented q) h = absurd (true≢false (sym h))
same_protocol_lem (Other o) (CarrierSpecific q) h = absurd (true≢false (sym h))

-- ---- profiles

below : (b : Bool) (m n : ℕ) → m ≤ 330000 → n ≤ 330000 → cond b m n ≤ 330000
below true m n h k = h
below false m n h k = k

-- no machine waits longer than this, of whatever profile
pub receiver_interval_below : (p : ℕ) → receiver_interval p ≤ 330000
unfolding receiver_interval
receiver_interval_below p = below (eqb p 2) 120000 300000 (omega arith) (omega arith)

pub sender_interval_below : (p : ℕ) → sender_interval p ≤ 330000
unfolding sender_interval
sender_interval_below p = below (eqb p 2) 150000 330000 (omega arith) (omega arith)

-- profiles 1 and 2 are known, and no other
pub known_1 : known_profile 1 ≡ true
unfolding known_profile
known_1 = refl

pub known_2 : known_profile 2 ≡ true
unfolding known_profile
known_2 = refl

pub neither_known : (p : ℕ) → (p ≡ 1 → ⊥) → (p ≡ 2 → ⊥) → known_profile p ≡ false
unfolding known_profile
neither_known p f g = rw (ne_eqb p 1 f, ne_eqb p 2 g)

-- what each waits, in milliseconds
pub receiver_1 : receiver_interval 1 ≡ 300000
unfolding receiver_interval
receiver_1 = refl

pub receiver_2 : receiver_interval 2 ≡ 120000
unfolding receiver_interval
receiver_2 = refl

pub sender_1 : sender_interval 1 ≡ 330000
unfolding sender_interval
sender_1 = refl

pub sender_2 : sender_interval 2 ≡ 150000
unfolding sender_interval
sender_2 = refl

-- within a profile the sender waits 30,000 ms longer than the receiver
pub sender_longer : (p : ℕ) → receiver_interval p + 30000 ≡ sender_interval p
unfolding receiver_interval sender_interval
sender_longer p = go (eqb p 2)
  where
    go : (b : Bool) → cond b 120000 300000 + 30000 ≡ cond b 150000 330000
    go true = refl
    go false = refl
