-- Segment i of a record as the code finds it: none, or that of has_segment's tests. Assumes nothing.
use Prim.Native.Nat.{ℕ, ◌+◌, ◌-◌, ◌*◌, ◌≤◌, ◌<◌, min}
use mathlib.Core.Path.{◌≡◌, refl, sym}
use native.Mathlib.Omega.{arith}
use borrow.Author.Tests.{ltb-true, leb-true, lt-ltb, le-leb}
use mathlib.Core.Bool.{Bool, true, false, cond, ◌&&◌, true≢false}
use Rattle.std.specs.Prelude.{Option, Some, None}
use Rattle.segmentation.specs.declared.PlannedPart.{PlannedPart}
use Rattle.segmentation.specs.declared.SegmentedMessage.{SegmentedMessage}
use Rattle.segmentation.specs.Plan.{longer, part_start, planned_head, has_segment, segment_at}

both_true : (a b : Bool) → (a && b) ≡ true → (a ≡ true) × (b ≡ true)
both_true true b e = (refl, e)
both_true false b e = (e, absurd (true≢false (sym e)))

module _ (p : SegmentedMessage) where
  pub held_less : p.message_octets - (p.begin_octets + (p.count - 1) * p.later_capacity) ≡ longer p
  unfolding longer
  held_less = omega arith

  -- a record with a segment has what its sums need
  pub fits : (i : ℕ) → has_segment p i ≡ true → (i < p.count) × (p.count ≤ 256) × (p.begin_octets ≤ 255) × (p.later_capacity + min 1 (longer p) ≤ 255) × (part_start p i ≤ p.message_octets)
  fits i e =
      let a = both_true _ _ e in
      let b = both_true _ _ a.0 in
      let c = both_true _ _ b.0 in
      let d = both_true _ _ c.0 in (ltb-true _ _ d.0, leb-true _ _ d.1, leb-true _ _ c.1, leb-true _ _ b.1, leb-true _ _ a.1)

  pub no_segment : (i : ℕ) → ((i < p.count) × (p.count ≤ 256) × (p.begin_octets ≤ 255) × (p.later_capacity + min 1 (longer p) ≤ 255) × (part_start p i ≤ p.message_octets) → ⊥) → segment_at p i ≡ None
  unfolding segment_at
  no_segment i n = go (has_segment p i) refl
    where
      go : (t : Bool) → has_segment p i ≡ t → cond {A = Option PlannedPart} t (Some (record { head = planned_head p i; offset = part_start p i })) None ≡ None
      go true e = absurd (n (fits i e))
      go false e = refl

  pub with_segment : (i : ℕ) → i < p.count → p.count ≤ 256 → p.begin_octets ≤ 255 → p.later_capacity + min 1 (longer p) ≤ 255 → part_start p i ≤ p.message_octets → segment_at p i ≡ Some (record { head = planned_head p i; offset = part_start p i })
  unfolding segment_at
  with_segment i a b c d e = simp (lt-ltb _ _ a, le-leb _ _ b, le-leb _ _ c, le-leb (p.later_capacity + min 1 (longer p)) 255 d, le-leb (part_start p i) p.message_octets e)
