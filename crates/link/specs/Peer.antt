-- When a peer and a protocol are refused, and when two are the same: document 01, the paragraph on what the text in hand lacks.
use Rattle.std.specs.Prelude.{◌^◌, Bool, true, false, ◌&&◌, ◌||◌, eqb, leb, ltb}
use Rattle.link.specs.declared.MobileIdentity.{MobileIdentity}
use Rattle.link.specs.declared.HigherLayerProtocol.{HigherLayerProtocol}
use Rattle.link.specs.declared.HigherLayerProtocol.TheVariants.{Segmented, CarrierSpecific, Other}

-- 30: value 0, value at or past 2 to the width, or width above 63
abbrev pub identity_refused : MobileIdentity → Bool
identity_refused p = eqb p.value 0 || leb (2 ^ p.width) p.value || ltb 63 p.width

abbrev pub same_identity : MobileIdentity → MobileIdentity → Bool
same_identity p q = eqb p.kind q.kind && eqb p.width q.width && eqb p.value q.value

-- served: Segmented, or CarrierSpecific with both top bits set
abbrev pub protocol_served : HigherLayerProtocol → Bool
protocol_served (Segmented o) = true
protocol_served (CarrierSpecific o) = leb 192 o
protocol_served (Other o) = false

abbrev pub same_protocol : HigherLayerProtocol → HigherLayerProtocol → Bool
same_protocol (Segmented o) (Segmented q) = eqb o q
same_protocol (CarrierSpecific o) (CarrierSpecific q) = eqb o q
same_protocol (Other o) (Other q) = eqb o q
same_protocol (Segmented o) (CarrierSpecific q) = false
same_protocol (Segmented o) (Other q) = false
same_protocol (CarrierSpecific o) (Segmented q) = false
same_protocol (CarrierSpecific o) (Other q) = false
same_protocol (Other o) (Segmented q) = false
same_protocol (Other o) (CarrierSpecific q) = false
