-- What the derived `==` of a plan of the frozen check answers: field by field what the definitions say. Assumes nothing.
use mathlib.Core.Path.{◌≡◌, refl, sym, ap, ap₂, ◌∙◌}
use mathlib.Core.List.{List, [], ◌∷◌}
use mathlib.Core.Bool.{Bool, ◌&&◌, and_assoc}
use lib.Dec.{eqb}
use lib.ListN.{length, replicate}
use Prim.Native.Nat.{ℕ}
use Rattle.std.specs.List.{list_all}
use Rattle.segmentation.specs.Frozen.{no_head, no_plan}
use Rattle.segmentation.specs.Heads.{none_kept}
use lib.Pointwise.{pointwise}
use Rattle.std.specs.Prelude.{Some, None}
use Rattle.std.proofs.Common.{rules}
use Rattle.tsar.specs.Layout.{window_number, compression_number, status_number}
use Rattle.tsar.specs.Kinds.{same_lengths, same_optional, same_kind}
use Rattle.tsar.specs.contracts.AcknowledgmentWindowPartialEq.TheImpl as windows
use Rattle.tsar.specs.contracts.CompressionPartialEq.TheImpl as compressions
use Rattle.tsar.specs.contracts.CrcStatusPartialEq.TheImpl as statuses
use Rattle.tsar.specs.contracts.OptionalServicesPartialEq.TheImpl as services
use Rattle.tsar.specs.contracts.SegmentKindPartialEq.TheImpl as kinds
use Rattle.tsar.specs.contracts.SegmentHeadPartialEq.TheImpl as heads
use Rattle.segmentation.specs.contracts.FrozenMessagePartialEq.TheImpl as plans
use Rattle.tsar.specs.declared.AcknowledgmentWindow.{AcknowledgmentWindow}
use Rattle.tsar.specs.declared.Compression.{Compression}
use Rattle.tsar.specs.declared.CrcStatus.{CrcStatus}
use Rattle.tsar.specs.declared.OptionalServices.{OptionalServices}
use Rattle.tsar.specs.declared.MessageCrc.TheVariants as crc
use Rattle.tsar.specs.declared.SegmentKind.{SegmentKind}
use Rattle.tsar.specs.declared.SegmentKind.TheVariants as kind'
use Rattle.tsar.specs.declared.SegmentHead.{SegmentHead}
use Rattle.segmentation.specs.declared.FrozenMessage.{FrozenMessage}
use Rattle.sender.specs.TryNew.{same_head, same_heads, same_frozen}

-- tests in another grouping
five : (a b c d e : Bool) → (a && (b && (c && (d && e)))) ≡ (a && b && c && d && e)
five a b c d e = simp and_assoc

pub windows_same : (v w : AcknowledgmentWindow) → windows.ghosts.eq v w ≡ eqb (window_number v) (window_number w)
windows_same v w = search rules

compressions_same : (v w : Compression) → compressions.ghosts.eq v w ≡ eqb (compression_number v) (compression_number w)
compressions_same v w = search rules

statuses_same : (v w : CrcStatus) → statuses.ghosts.eq v w ≡ eqb (status_number v) (status_number w)
statuses_same v w = search rules

services_same : (s t : OptionalServices) → services.ghosts.eq s t ≡ same_optional s t
services_same s t =
    ap₂ ◌&&◌ (compressions_same s.compression t.compression) (ap₂ ◌&&◌ (windows_same s.acknowledgment_window t.acknowledgment_window) (statuses_same s.crc_status t.crc_status))
    ∙ sym (and_assoc (eqb (compression_number s.compression) (compression_number t.compression)) (eqb (window_number s.acknowledgment_window) (window_number t.acknowledgment_window)) (eqb (status_number s.crc_status) (status_number t.crc_status)))

kinds_same : (k l : SegmentKind) → kinds.ghosts.eq k l ≡ same_kind k l
kinds_same (kind'.Begin m None) (kind'.Begin n None) = refl
kinds_same (kind'.Begin m None) (kind'.Begin n (Some t)) = refl
kinds_same (kind'.Begin m (Some s)) (kind'.Begin n None) = refl
kinds_same (kind'.Begin m (Some s)) (kind'.Begin n (Some t)) = ap (λ (b : Bool). same_lengths m n && b) (services_same s t)
kinds_same (kind'.Begin m s) (kind'.Continue n) = refl
kinds_same (kind'.Begin m s) (kind'.End n d) = refl
kinds_same (kind'.Continue m) (kind'.Begin n t) = refl
kinds_same (kind'.Continue m) (kind'.Continue n) = refl
kinds_same (kind'.Continue m) (kind'.End n d) = refl
kinds_same (kind'.End m c) (kind'.Begin n t) = refl
kinds_same (kind'.End m c) (kind'.Continue n) = refl
kinds_same (kind'.End m None) (kind'.End n None) = refl
kinds_same (kind'.End m None) (kind'.End n (Some (crc.Crc16 w))) = refl
kinds_same (kind'.End m None) (kind'.End n (Some (crc.Crc24 w))) = refl
kinds_same (kind'.End m (Some (crc.Crc16 v))) (kind'.End n None) = refl
kinds_same (kind'.End m (Some (crc.Crc24 v))) (kind'.End n None) = refl
kinds_same (kind'.End m (Some (crc.Crc16 v))) (kind'.End n (Some (crc.Crc16 w))) = refl
kinds_same (kind'.End m (Some (crc.Crc16 v))) (kind'.End n (Some (crc.Crc24 w))) = refl
kinds_same (kind'.End m (Some (crc.Crc24 v))) (kind'.End n (Some (crc.Crc16 w))) = refl
kinds_same (kind'.End m (Some (crc.Crc24 v))) (kind'.End n (Some (crc.Crc24 w))) = refl

pub head_same : (g h : SegmentHead) → heads.ghosts.eq g h ≡ same_head g h
head_same g h =
    let t = eqb g.segment.transaction_id h.segment.transaction_id in
    let s = eqb g.segment.sequence_number h.segment.sequence_number in
    let d = eqb g.segment_data_length h.segment_data_length in
    ap (λ (b : Bool). (t && (s && b)) && d) (kinds_same g.segment.kind h.segment.kind) ∙ ap (λ (b : Bool). b && d) (sym (and_assoc t s (same_kind g.segment.kind h.segment.kind)))

heads_same : (gs hs : List SegmentHead) → pointwise heads.ghosts.eq gs hs ≡ same_heads gs hs
unfolding same_heads
heads_same [] [] = refl
heads_same [] (h ∷ hs) = refl
heads_same (g ∷ gs) [] = refl
heads_same (g ∷ gs) (h ∷ hs) = ap₂ ◌&&◌ (head_same g h) (heads_same gs hs)

pub frozen_same : (f g : FrozenMessage) → plans.ghosts.eq f g ≡ same_frozen f g
frozen_same f g =
    let n = eqb f.count g.count in
    let o = eqb f.message_octets g.message_octets in
    let b = eqb f.payload_budget_octets g.payload_budget_octets in
    ap₂ (λ (x y : Bool). x && (n && (o && (b && y)))) (heads_same f.heads g.heads) (windows_same f.acknowledgment_window g.acknowledgment_window)
    ∙ five (same_heads f.heads g.heads) n o b (eqb (window_number f.acknowledgment_window) (window_number g.acknowledgment_window))

-- heads that are all empty, as many as a plan has
all_none : (hs : List SegmentHead) → list_all (same_head no_head) hs ≡ same_heads (replicate (length hs) no_head) hs
unfolding same_heads
all_none [] = refl
all_none (h ∷ hs) = ap (λ (b : Bool). same_head no_head h && b) (all_none hs)

pub heads_none : (hs : List SegmentHead) → length hs ≡ 256 → list_all (same_head no_head) hs ≡ same_heads no_plan.heads hs
heads_none hs e = all_none hs ∙ ap (λ (n : ℕ). same_heads (replicate n no_head) hs) e ∙ ap (λ (gs : List SegmentHead). same_heads gs hs) (none_kept no_head refl)
