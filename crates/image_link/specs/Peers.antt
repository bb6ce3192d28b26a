-- The layouts of a peer (10 octets) and of a protocol (2 octets). Assumes nothing.
use Rattle.std.specs.Prelude.{◌≡◌, refl, true, List, [], ◌∷◌, ◌++◌, ℕ, ◌≤◌, ◌<◌, length, get_or, drop}
use Rattle.std.proofs.Common.{ap, arith, eq-eqb}
use Rattle.octets.specs.Octets.{same_octets}
use Rattle.link.specs.declared.MobileIdentity.{MobileIdentity}
use Rattle.link.specs.declared.HigherLayerProtocol.{HigherLayerProtocol}
use Rattle.image.specs.Spelling.{spells, Layout}
use Rattle.image.specs.Numbers.{spell, number_of, number_layout, length_spell}
use Rattle.image.specs.Cases.{protocol_number, protocol_octet, protocol_of, protocol_back}

-- ---- a peer: kind, width, value

unfoldable pub peer_image : MobileIdentity → List ℕ
peer_image p = p.kind ∷ p.width ∷ spell 8 p.value

unfoldable pub peer_of : List ℕ → MobileIdentity
peer_of l = record { kind = get_or l 0 0; width = get_or l 1 0; value = number_of 8 (drop 2 l) }

abbrev pub PeerFits : MobileIdentity → Type 0
PeerFits p = p.value < 18446744073709551616

peer_wide : (p : MobileIdentity) → length (peer_image p) ≡ 10
unfolding peer_image
peer_wide p = let e = length_spell 8 p.value in omega arith

peer_back : (p : MobileIdentity) → PeerFits p → (rest : List ℕ) → peer_of (peer_image p ++ rest) ≡ p
unfolding peer_image peer_of
peer_back p f rest = ap (λ (v : ℕ). record { kind = p.kind; width = p.width; value = v }) ((number_layout 8).back p.value f rest)

pub peer_layout : Layout peer_image peer_of 10 PeerFits
peer_layout = record { wide = λ p f. peer_wide p; reads_wide = λ l. peer_wide (peer_of l); back = peer_back }

-- octets always spell a peer
pub peer_spells : (l : List ℕ) → 10 ≤ length l → spells (spell 8) (number_of 8) 8 (drop 2 l) ≡ true → spells peer_image peer_of 10 l ≡ true
unfolding spells same_octets peer_image peer_of
peer_spells [] h f = absurd (omega arith)
peer_spells (x ∷ []) h f = absurd (omega arith)
peer_spells (x ∷ y ∷ l) h f = rw (eq-eqb x x refl, eq-eqb y y refl) f

-- ---- a protocol: number, octet

unfoldable pub protocol_image : HigherLayerProtocol → List ℕ
protocol_image p = protocol_number p ∷ protocol_octet p ∷ []

unfoldable pub protocol_in : List ℕ → HigherLayerProtocol
protocol_in l = protocol_of (get_or l 0 0) (get_or l 1 0)

abbrev pub AnyProtocol : HigherLayerProtocol → Type 0
AnyProtocol p = Unit {0}

protocol_wide : (p : HigherLayerProtocol) → length (protocol_image p) ≡ 2
unfolding protocol_image
protocol_wide p = refl

protocol_reads : (p : HigherLayerProtocol) → AnyProtocol p → (rest : List ℕ) → protocol_in (protocol_image p ++ rest) ≡ p
unfolding protocol_image protocol_in
protocol_reads p f rest = protocol_back p

pub protocol_layout : Layout protocol_image protocol_in 2 AnyProtocol
protocol_layout = record { wide = λ p f. protocol_wide p; reads_wide = λ l. protocol_wide (protocol_in l); back = protocol_reads }
