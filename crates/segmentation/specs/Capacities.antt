-- A plan's record whose capacities and count fit together: where its parts begin and end, and of what kinds its segments are. Assumes nothing.
use Rattle.std.specs.Prelude.{ℕ, zero, suc, ◌+◌, ◌-◌, ◌*◌, ◌≤◌, ◌<◌, min, ◌≡◌, refl, List, Bool, true, false, cond, not, ◌&&◌, ◌⊎◌, length, take, drop, eqb, leb, Option, Some, None}
use Rattle.std.proofs.Common.{sym, ◌∙◌, div-add-mod', mod-lt, le-div_iff_mul-le, leb-true, eq-eqb, ne_eqb, le-leb, le-ltb, lt-ltb}
use Rattle.std.proofs.Math.Path.{ap}
use Rattle.std.proofs.Math.Logic.{inl, inr, ⊎_elim}
use native.Mathlib.Omega.{arith}
use Rattle.octets.specs.Laws.{le_or_lt}
use Rattle.tsar.specs.Writing.{header_octets, length_in, crc_in, too_long, crc_too_large}
use Rattle.tsar.specs.Layout.{type_of}
use Rattle.tsar.specs.Reading.{begin_test}
use Rattle.tsar.specs.declared.SegmentKind.{SegmentKind}
use Rattle.tsar.specs.declared.SegmentKind.TheVariants as kind'
use Rattle.segmentation.specs.declared.SegmentedMessage.{SegmentedMessage}
use Rattle.segmentation.specs.Plan.{prohibited, rounded_up, services_for, planned_length, planned_kind, longer, part_start, part_capacity, part_length, has_segment}
use Rattle.segmentation.specs.Cutting.{join_to, is_continue, is_end, plain_kind, states_other}
use Rattle.segmentation.specs.Joined.{parts_whole}

-- ---- a number rounded up

pub up_covers : (n d : ℕ) → 0 < d → n ≤ rounded_up n d * d
up_covers n d h = omega (arith, div-add-mod' (n + (d - 1)) d, mod-lt (n + (d - 1)) h)

pub up_some : (n d : ℕ) → 0 < d → 0 < n → 1 ≤ rounded_up n d
up_some n d h k = (le-div_iff_mul-le h).1 (omega arith)

-- what lies below the number rounded up is not past n
pub up_least : (n d i : ℕ) → 0 < d → i < rounded_up n d → i * d < n
up_least n d i h k = let e : suc i * d ≤ n + (d - 1) = (le-div_iff_mul-le h).0 k in omega arith

-- ---- a plan's record: what its capacities and its count have to do with each other

pub record Capacities (p : SegmentedMessage) : Type 0 where
  pub begin_short : p.begin_octets ≤ 255
  pub later_short : p.later_capacity + min 1 (longer p) ≤ 255
  pub begin_below : p.begin_octets < p.message_octets
  pub several : 2 ≤ p.count
  pub few : p.count ≤ 256
  pub longer_few : longer p < p.count
  pub starts : (i : ℕ) → suc i < p.count → part_start p (suc i) < p.message_octets
  pub begin_fits : header_octets (planned_kind p 0) + p.begin_octets ≤ p.payload_budget_octets
  pub later_fits_lem : 3 + (p.later_capacity + min 1 (longer p)) ≤ p.payload_budget_octets

one_more : (i n : ℕ) → min (suc i) n ≡ min i n + min 1 (n - i)
one_more i n = omega arith

pub whole_part : (at k n : ℕ) → at + k ≤ n → min k (n - at) ≡ k
whole_part at k n h = omega arith

module _ (p : SegmentedMessage) (sound : Capacities p) where
  -- what the capacities leave of the message: nothing, or that many octets
  left_over : (k : ℕ) → suc k ≡ p.count → ((longer p ≡ 0) × (p.message_octets ≤ p.begin_octets + k * p.later_capacity)) ⊎ (p.message_octets ≡ p.begin_octets + k * p.later_capacity + longer p)
  unfolding longer
  left_over k h =
      let e : p.count - 1 ≡ k = omega arith in
      let f : (p.count - 1) * p.later_capacity ≡ k * p.later_capacity = ap (λ (j : ℕ). j * p.later_capacity) e in
      ⊎_elim (λ (l : p.message_octets ≤ p.begin_octets + k * p.later_capacity). inl (omega (arith, f), l))
      (λ (l : p.begin_octets + k * p.later_capacity < p.message_octets). inr (omega (arith, f)))
      (le_or_lt p.message_octets (p.begin_octets + k * p.later_capacity))

  pub part_within : (i : ℕ) → i < p.count → part_start p i + part_length p i ≤ p.message_octets
  part_within zero h = omega arith
  part_within (suc i) h = omega (arith, sound.starts i h)

  -- each part but the last is as long as it may be
  pub next_start : (i : ℕ) → suc i < p.count → part_start p (suc i) ≡ part_start p i + part_length p i
  next_start zero h = omega (arith, sound.begin_below)
  next_start (suc i) h =
      let e = one_more i (longer p) in
      let f : part_start p (suc (suc i)) ≡ part_start p (suc i) + part_capacity p (suc i) = omega (arith, e) in
      f ∙ sym (ap (λ (k : ℕ). part_start p (suc i) + k) (whole_part (part_start p (suc i)) (part_capacity p (suc i)) p.message_octets (omega (arith, f, sound.starts (suc i) h))))

  -- the last part ends where the message does
  pub last_end : (i : ℕ) → suc (suc i) ≡ p.count → part_start p (suc i) + part_length p (suc i) ≡ p.message_octets
  last_end i h =
      ⊎_elim
      (λ (l : (longer p ≡ 0) × (p.message_octets ≤ p.begin_octets + suc i * p.later_capacity)).
      omega (arith, l.0, l.1, sound.starts i (omega arith)))
      (λ (l : p.message_octets ≡ p.begin_octets + suc i * p.later_capacity + longer p).
      omega (arith, l, sound.longer_few))
      (left_over (suc i) h)

  pub parts_make : (message : List ℕ) → length message ≡ p.message_octets → join_to p.count (λ i. take (part_length p i) (drop (part_start p i) message)) ≡ message
  parts_make message e = go (p.count - 2) (omega (arith, sound.several))
    where
      go : (k : ℕ) → p.count ≡ suc (suc k) → join_to p.count (λ i. take (part_length p i) (drop (part_start p i) message)) ≡ message
      go k h =
          ap (λ (n : ℕ). join_to n (λ i. take (part_length p i) (drop (part_start p i) message))) h
          ∙ parts_whole message (part_start p) (part_length p) (suc k) refl (λ i l. next_start i (omega arith)) (last_end k (sym h) ∙ sym e)

  -- ---- the kinds

  pub later_continues : (i : ℕ) → 0 < i → suc i < p.count → is_continue (planned_kind p i) ≡ true
  later_continues zero h l = absurd (omega arith)
  later_continues (suc i) h l = rw (ne_eqb (suc (suc i)) p.count (λ e. omega arith))

  pub last_ends : (i : ℕ) → suc i ≡ p.count → is_end (planned_kind p i) ≡ true
  last_ends zero h = absurd (omega (arith, sound.several))
  last_ends (suc i) h = rw (eq-eqb (suc (suc i)) p.count h)

  begins_within : (i : ℕ) → i < p.count → part_start p i ≤ p.message_octets
  begins_within i h = omega (arith, part_within i h)

  pub has_segment_lem : (i : ℕ) → i < p.count → has_segment p i ≡ true
  has_segment_lem i h =
      simp (lt-ltb i p.count h, le-leb p.count 256 sound.few, le-leb p.begin_octets 255 sound.begin_short, le-leb (p.later_capacity + min 1 (longer p)) 255 sound.later_short, le-leb (part_start p i) p.message_octets (begins_within i h))

  pub part_short : (i : ℕ) → part_length p i ≤ 255
  part_short zero = omega (arith, sound.begin_short)
  part_short (suc i) = omega (arith, sound.later_short)

-- ---- the kinds of any plan's record

-- a claim on End and on Continue is one on every later kind
later_kind : (P : SegmentKind → Type 0) (p : SegmentedMessage) (i : ℕ) → P (kind'.End None None) → P (kind'.Continue None) → P (planned_kind p (suc i))
later_kind P p i a b = go (eqb (suc (suc i)) p.count)
  where
    go : (t : Bool) → P (cond t (kind'.End None None) (kind'.Continue None))
    go true = a
    go false = b

-- neither compression nor a CRC
pub kind_plain : (p : SegmentedMessage) (i : ℕ) → plain_kind (planned_kind p i) ≡ true
kind_plain p zero = go (prohibited p.acknowledgment_window)
  where
    go : (t : Bool) → plain_kind (kind'.Begin (planned_length p) (services_for p.acknowledgment_window t)) ≡ true
    go true = refl
    go false = refl
kind_plain p (suc i) = later_kind (λ k. plain_kind k ≡ true) p i refl refl

-- a length that is stated is the message's, and is one that can be written
length_stated : (P : Option ℕ → Type 0) (p : SegmentedMessage) → (p.message_octets ≤ 4095 → P (Some p.message_octets)) → P None → P (planned_length p)
length_stated P p a b = go p.states_length (leb p.message_octets 4095) refl
  where
    go : (s t : Bool) → leb p.message_octets 4095 ≡ t → P (cond (s && t) (Some p.message_octets) None)
    go true true e = a (leb-true p.message_octets 4095 e)
    go true false e = b
    go false t e = b

pub kind_states : (p : SegmentedMessage) (i : ℕ) → states_other (length_in (planned_kind p i)) p.message_octets ≡ false
kind_states p zero =
    length_stated (λ l. states_other l p.message_octets ≡ false) p (λ h. ap not (eq-eqb p.message_octets p.message_octets refl)) refl
kind_states p (suc i) = later_kind (λ k. states_other (length_in k) p.message_octets ≡ false) p i refl refl

pub kind_length : (p : SegmentedMessage) (i : ℕ) → too_long (length_in (planned_kind p i)) ≡ false
kind_length p zero = length_stated (λ l. too_long l ≡ false) p (λ h. le-ltb 4095 p.message_octets h) refl
kind_length p (suc i) = later_kind (λ k. too_long (length_in k) ≡ false) p i refl refl

pub kind_crc : (p : SegmentedMessage) (i : ℕ) → crc_too_large (crc_in (planned_kind p i)) ≡ false
kind_crc p zero = refl
kind_crc p (suc i) = later_kind (λ k. crc_too_large (crc_in k) ≡ false) p i refl refl

pub kind_first : (p : SegmentedMessage) (i : ℕ) → begin_test (type_of (planned_kind p i)) i ≡ false
kind_first p zero = refl
kind_first p (suc i) = later_kind (λ k. begin_test (type_of k) (suc i) ≡ false) p i refl refl

pub later_header : (p : SegmentedMessage) (i : ℕ) → header_octets (planned_kind p (suc i)) ≡ 3
unfolding header_octets
later_header p i = later_kind (λ k. header_octets k ≡ 3) p i refl refl
