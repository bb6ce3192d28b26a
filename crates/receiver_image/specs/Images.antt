-- The layout RECEIVER, 3,931 octets: head (91), data lengths (256 x 2), slots (256 x 13). Any record whose numbers fit their types is read
-- back as it was, impossible ones too, and what is read and put back changes no octet (receiver_layout, with the laws of every layout).
-- Assumes nothing.
use Rattle.std.specs.Prelude.{◌≡◌, Bool, true, ◌&&◌, take, drop}
use Rattle.std.proofs.Math.Path.{refl, ap, ap₂}
use Rattle.std.proofs.Common.{sym, ◌∙◌, arith, length-drop, drop-drop}
use mathlib.Core.List.{List, [], ◌++◌, append-nil, append_assoc}
use Prim.Native.Nat.{ℕ, ◌+◌, ◌-◌, ◌≤◌, ◌<◌}
use Rattle.std.proofs.Math.ListN.{length, length-append}
use Rattle.std.proofs.Math.Seq.{sets}
use Rattle.octets.specs.Octets.{same_octets}
use Rattle.receiver.specs.Record.{no_slot}
use Rattle.receiver.specs.declared.Slot.{Slot}
use Rattle.receiver.specs.declared.Receiver.{Receiver}
use Rattle.image.specs.Spelling.{spells, Layout, spell_both, read_both, both_layout, both_spells, as_layout, put_next, put_back, spelled_ok}
use Rattle.image.specs.Numbers.{spell, number_of, number_layout}
use Rattle.image.specs.Segments.{kind_image, kind_of, kind_ok, KindFits, kind_layout}
use Rattle.image.specs.Many.{spell_all, read_all, all_pass, AllFit, all_layout, all_spells}
use Rattle.receiver_image.specs.Heads.{head_image, head_of, HeadFits, head_layout}
use Rattle.receiver_image.specs.declared.Head.{Head}

-- ---- a slot is its kind

abbrev pub slot_image : Slot → List ℕ
slot_image s = kind_image s.kind

abbrev pub slot_of : List ℕ → Slot
slot_of l = record { kind = kind_of l }

abbrev pub SlotFits : Slot → Type 0
SlotFits s = KindFits s.kind

pub slot_layout : Layout slot_image slot_of 13 SlotFits
slot_layout =
    as_layout kind_layout (λ k. record { kind = k }) (λ s. s.kind) (λ s. refl) slot_image slot_of SlotFits (λ s. refl) (λ l. refl) (λ s f. f) (λ l. kind_layout.reads_wide l)

abbrev pub LengthFits : ℕ → Type 0
LengthFits n = n < 65536

-- ---- a receiver

abbrev pub head_in : Receiver → Head
head_in r = record { terms = r.terms; progress = r.progress; held = r.held }

abbrev pub receiver_of : Head → List ℕ → List Slot → Receiver
receiver_of h lengths slots = record { terms = h.terms; progress = h.progress; held = h.held; lengths = lengths; slots = slots }

abbrev pub lengths_of : List ℕ → List ℕ
lengths_of l = read_all (number_of 2) 2 256 l

abbrev pub slots_of : List ℕ → List Slot
slots_of l = read_all slot_of 13 256 l

unfoldable pub image_of : Receiver → List ℕ
image_of r = head_image (head_in r) ++ (spell_all (spell 2) r.lengths ++ spell_all slot_image r.slots)

unfoldable pub record_of : List ℕ → Receiver
record_of l = receiver_of (head_of l) (lengths_of (drop 91 l)) (slots_of (drop 603 l))

-- whether 3,931 octets spell a receiver
abbrev pub image_ok : List ℕ → Bool
image_ok l = spells image_of record_of 3931 l

-- numbers fit their types, and there are 256 slots
pub record ReceiverFits (r : Receiver) : Type 0 where
  pub head : HeadFits (head_in r)
  pub lengths : AllFit LengthFits 256 0 r.lengths
  pub slots : AllFit SlotFits 256 no_slot r.slots

-- ---- its laws

pub lengths_layout : Layout (spell_all (spell 2)) lengths_of 512 (AllFit LengthFits 256 0)
lengths_layout = all_layout (number_layout 2) 0 256

pub slots_layout : Layout (spell_all slot_image) slots_of 3328 (AllFit SlotFits 256 no_slot)
slots_layout = all_layout slot_layout no_slot 256

abbrev read_parts : List ℕ → Head × (List ℕ × List Slot)
read_parts = read_both head_of 91 (read_both lengths_of 512 slots_of)

abbrev behind_layout : Layout (spell_both (spell_all (spell 2)) (spell_all slot_image)) (read_both lengths_of 512 slots_of) 3840 (λ x. AllFit LengthFits 256 0 x.0 × AllFit SlotFits 256 no_slot x.1)
behind_layout = both_layout lengths_layout slots_layout

parts_layout : Layout (spell_both head_image (spell_both (spell_all (spell 2)) (spell_all slot_image))) read_parts 3931 (λ x. HeadFits x.0 × (AllFit LengthFits 256 0 x.1.0 × AllFit SlotFits 256 no_slot x.1.1))
parts_layout = both_layout head_layout behind_layout

record_reads : (l : List ℕ) → record_of l ≡ receiver_of (read_parts l).0 (read_parts l).1.0 (read_parts l).1.1
unfolding record_of
record_reads l =
    let e : drop 603 l ≡ drop 512 (drop 91 l) = sym (drop-drop 512 91 l) in
    ap (λ (m : List ℕ). receiver_of (head_of l) (lengths_of (drop 91 l)) (slots_of m)) e

record_read_wide : (l : List ℕ) → length (image_of (record_of l)) ≡ 3931
unfolding image_of
record_read_wide l = ap (λ (r : Receiver). length (image_of r)) (record_reads l) ∙ parts_layout.reads_wide l

pub receiver_layout : Layout image_of record_of 3931 ReceiverFits
unfolding image_of
receiver_layout =
    as_layout parts_layout (λ x. receiver_of x.0 x.1.0 x.1.1) (λ r. (head_in r, (r.lengths, r.slots))) (λ r. refl) image_of record_of ReceiverFits (λ r. refl) record_reads
    (λ r f. (f.head, (f.lengths, f.slots))) record_read_wide

-- ---- what holds of every record whose numbers fit, impossible ones too

-- its octets spell it
pub record_back : (r : Receiver) → ReceiverFits r → record_of (image_of r) ≡ r
record_back r f = ap record_of (sym (append-nil (image_of r))) ∙ receiver_layout.back r f []

-- and pass the test
pub image_ok_lem : (r : Receiver) → ReceiverFits r → image_ok (image_of r) ≡ true
image_ok_lem r f = ap image_ok (sym (append-nil (image_of r))) ∙ spelled_ok receiver_layout r f []

-- a record that is read off octets that pass and put back changes none of them
pub image_kept : (l : List ℕ) → 3931 ≤ length l → image_ok l ≡ true → sets l 0 (image_of (record_of l)) ≡ l
image_kept l h k = put_back receiver_layout l h k

-- ---- as code tests, writes and reads it

-- the test, part by part
pub image_spells : (l : List ℕ) → 3931 ≤ length l → spells (spell_all (spell 2)) lengths_of 512 (drop 91 l) ≡ true
    → image_ok l ≡ (spells head_image head_of 91 l && all_pass kind_ok 13 256 (drop 603 l))
unfolding image_of spells
image_spells l h p =
    let e : drop 512 (drop 91 l) ≡ drop 603 l = drop-drop 512 91 l in
    let m : length (drop 91 l) ≡ length l - 91 = length-drop 91 l in
    let n : length (drop 603 l) ≡ length l - 603 = length-drop 603 l in
    ap (λ (r : Receiver). same_octets (image_of r) (take 3931 l)) (record_reads l)
    ∙ both_spells head_layout behind_layout l (omega arith)
    ∙ ap (λ (t : Bool). spells head_image head_of 91 l && t)
    (both_spells lengths_layout slots_layout (drop 91 l) (omega arith)
    ∙ ap₂ (λ (a b : Bool). a && b) p (ap (λ (x : List ℕ). spells (spell_all slot_image) slots_of 3328 x) e ∙ all_spells slot_layout no_slot 256 (drop 603 l) (omega arith)))

-- written part by part
module _ (l : List ℕ) (r : Receiver) (x y z : List ℕ) where
  pub image_put : ReceiverFits r → x ≡ sets l 0 (head_image (head_in r)) → y ≡ sets x 91 (spell_all (spell 2) r.lengths) → z ≡ sets y 603 (spell_all slot_image r.slots)
      → z ≡ sets l 0 (image_of r)
  unfolding image_of
  image_put f a b c =
      let h : List ℕ = head_image (head_in r) in
      let n : List ℕ = spell_all (spell 2) r.lengths in
      let u : length h ≡ 91 = head_layout.wide (head_in r) f.head in
      let v : length (h ++ n) ≡ 603 = length-append h n ∙ ap₂ (λ (i j : ℕ). i + j) u (lengths_layout.wide r.lengths f.lengths) in
      let two : y ≡ sets l 0 (h ++ n) = put_next l 0 h n x y 91 91 a u refl b in
      put_next l 0 (h ++ n) (spell_all slot_image r.slots) y z 603 603 two v refl c ∙ ap (sets l 0) (append_assoc h n (spell_all slot_image r.slots))
