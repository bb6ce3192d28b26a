-- Document 02, 2026-02, of the even planner: 'with the Begin and the segment count that plan_message gives, but with the remaining octets spread so
-- that later segments differ by at most one octet, the longer ones first', and 'for any message and budget the two planners refuse alike'. Lengths
-- are those that the public call gives for a segment. What both planners have in common (a true cutting, the budget, the codec, the frozen check)
-- is in Planned, Laws and Encoded, by one argument that says which of the two. Assumes nothing.
use Prim.Native.Nat.{ℕ, zero, suc, ◌+◌, ◌-◌, ◌*◌, ◌≤◌, ◌<◌, min}
use mathlib.Core.Path.{◌≡◌, refl, sym, ap, ◌∙◌, subst}
use mathlib.Core.List.{List, [], ◌∷◌}
use native.Mathlib.Omega.{arith}
use native.Mathlib.Nat.{mul-le-mul_right}
use Rattle.tsar.specs.Rows.{Refusal}
use Rattle.tsar.specs.declared.AcknowledgmentWindow.{AcknowledgmentWindow}
use Rattle.tsar.specs.declared.AcknowledgmentWindow.TheVariants as window
use Rattle.tsar.specs.declared.SegmentHead.{SegmentHead}
use Rattle.segmentation.specs.declared.SegmentedMessage.{SegmentedMessage}
use Rattle.std.specs.Prelude.{Option, Some, None}
use Rattle.segmentation.specs.declared.PlannedPart.{PlannedPart}
use Rattle.segmentation.specs.Plan.{Planning, unsegmented, refused, segmented, plan_message, even_message, plan_of, share_of, evened, spread, prohibited, segment_count, begin_data, later_capacity_of, longer, planned_head, part_length, segment_at}
use Rattle.segmentation.specs.Capacities.{whole_part}
use Rattle.segmentation.specs.Planned.{full, even, even_of, Plannable, later, share, over}
use Rattle.segmentation.proofs.Planned.{shared, none_longer, many, share_some, begin_below, plan_is, plan_arguments, plan_count, plan_at_least, plan_segment, plan_next}

-- ---- refusing alike

-- an answer without its plan
pub data Outcome : Type 0 where
  whole : Outcome
  refusing : Refusal → Outcome
  cut : Outcome

abbrev pub outcome : Planning → Outcome
outcome unsegmented = whole
outcome (refused r) = refusing r
outcome (segmented p) = cut

spread_alike : (x : Planning) → outcome (spread x) ≡ outcome x
spread_alike unsegmented = refl
spread_alike (refused r) = refl
spread_alike (segmented p) = refl

-- each says Unsegmented, refuses with r, or plans exactly where the other does
pub alike : (n budget transaction : ℕ) (w : AcknowledgmentWindow) (version ceiling : ℕ) → outcome (even_message n budget transaction w version ceiling) ≡ outcome (plan_message n budget transaction w version ceiling)
alike n budget transaction w version ceiling = spread_alike (plan_message n budget transaction w version ceiling)

-- ---- lengths that differ by at most one, the longer first

last_whole : (b n i s o m : ℕ) → m * s + o ≡ n - b → b < n → suc i * s ≤ m * s → b + i * s + min i o + (s + min 1 (o - i)) ≤ n
last_whole b n i s o m e h k = omega arith

module _ (n budget transaction : ℕ) (w : AcknowledgmentWindow) (version ceiling : ℕ) (f : Plannable n budget transaction w version ceiling) where
  abbrev p : SegmentedMessage
  p = even_of n budget transaction w

  abbrev q : ℕ
  q = share n budget w

  abbrev r : ℕ
  r = over n budget w

  -- segment i + 1 has the share, and one octet more where i is below what is left over
  even_part : (i : ℕ) → i < later n budget w → part_length p (suc i) ≡ q + min 1 (r - i)
  unfolding evened share_of plan_of
  even_part i h =
      let e = many n budget transaction w version ceiling f in
      rw e
      (whole_part (begin_data n budget (prohibited w) + i * q + min i r) (q + min 1 (r - i)) n
      (last_whole (begin_data n budget (prohibited w)) n i q r (later n budget w) (shared n budget transaction w version ceiling f) (begin_below n budget transaction w version ceiling f)
      (mul-le-mul_right {m = suc i} {n = later n budget w} q h)))

  -- so a later one is as long as an earlier one, or one octet shorter
  share_lengths : (i j : ℕ) → i ≤ j → j < later n budget w → (part_length p (suc j) ≤ part_length p (suc i)) × (part_length p (suc i) ≤ part_length p (suc j) + 1)
  share_lengths i j h l =
      let a = even_part i (omega arith) in
      let b = even_part j l in
      rw (a, b) (apart q r i j h)
    where
      apart : (q r i j : ℕ) → i ≤ j → (q + min 1 (r - j) ≤ q + min 1 (r - i)) × (q + min 1 (r - i) ≤ q + min 1 (r - j) + 1)
      apart q r i j h = (omega arith, omega arith)

  share_length : (i : ℕ) → i < later n budget w → 1 ≤ part_length p (suc i)
  share_length i h = let e = even_part i h in rw e (some q (min 1 (r - i)) (share_some n budget transaction w version ceiling f))
    where
      some : (q k : ℕ) → 1 ≤ q → 1 ≤ q + k
      some q k h = omega arith

-- ---- the laws: of an even plan p

-- how many octets of data the public call gives for a segment; none where it gives no segment
abbrev pub head_length : Option PlannedPart → ℕ
head_length None = 0
head_length (Some x) = x.head.segment_data_length

abbrev pub length_at : SegmentedMessage → ℕ → ℕ
length_at p i = head_length (segment_at p i)

positive : (c : ℕ) → 2 ≤ c → 0 < c
positive c h = omega arith

below : (j c k : ℕ) → suc j < c → c ≡ k → j < k - 1
below j c k h e = omega arith

module _ (n budget transaction : ℕ) (w : AcknowledgmentWindow) (version ceiling : ℕ) (p : SegmentedMessage) (ok : even_message n budget transaction w version ceiling ≡ segmented p) where
  args : Plannable n budget transaction w version ceiling
  args = plan_arguments even n budget transaction w version ceiling p ok

  is : even_of n budget transaction w ≡ p
  is = plan_is even n budget transaction w version ceiling p ok

  -- the count is a formula of the message's length, the budget and whether the window is Prohibited
  pub even_count : p.count ≡ segment_count n budget (prohibited w)
  even_count = plan_count even n budget transaction w version ceiling p ok

  length_is : (i : ℕ) → i < p.count → length_at p i ≡ part_length p i
  length_is i h = ap head_length (plan_segment even n budget transaction w version ceiling p ok i h)

  part_lengths : (i j : ℕ) → i ≤ j → suc j < p.count → (part_length p (suc j) ≤ part_length p (suc i)) × (part_length p (suc i) ≤ part_length p (suc j) + 1)
  part_lengths i j h l =
      subst (λ (s : SegmentedMessage). (part_length s (suc j) ≤ part_length s (suc i)) × (part_length s (suc i) ≤ part_length s (suc j) + 1)) is
      (share_lengths n budget transaction w version ceiling args i j h (below j p.count (segment_count n budget (prohibited w)) l even_count))

  part_some : (i : ℕ) → suc i < p.count → 1 ≤ part_length p (suc i)
  part_some i l =
      subst (λ (s : SegmentedMessage). 1 ≤ part_length s (suc i)) is
      (share_length n budget transaction w version ceiling args i (below i p.count (segment_count n budget (prohibited w)) l even_count))

  -- of two later segments the lengths differ by at most one, and the longer comes first
  pub even_lengths : (i j : ℕ) → 1 ≤ i → i ≤ j → j < p.count → (length_at p j ≤ length_at p i) × (length_at p i ≤ length_at p j + 1)
  even_lengths zero j o h l = absurd (omega arith)
  even_lengths (suc i) zero o h l = absurd (omega arith)
  even_lengths (suc i) (suc j) o h l = rw (length_is (suc i) (omega arith), length_is (suc j) l) (part_lengths i j (omega arith) l)

  -- none of them is empty
  pub even_some : (i : ℕ) → 1 ≤ i → i < p.count → 1 ≤ length_at p i
  even_some zero o l = absurd (omega arith)
  even_some (suc i) o l = rw (length_is (suc i) l) (part_some i l)

  -- beside a plan q of plan_message for the same arguments: the same count, and the same Begin with the same data
  module _ (q : SegmentedMessage) (given : plan_message n budget transaction w version ceiling ≡ segmented q) where
    pub same_count : p.count ≡ q.count
    same_count = even_count ∙ sym (plan_count full n budget transaction w version ceiling q given)

    same_head_lem : planned_head p 0 ≡ planned_head q 0
    unfolding plan_of evened
    same_head_lem =
        ap (λ (s : SegmentedMessage). planned_head s 0) (sym is)
        ∙ ap (λ (s : SegmentedMessage). planned_head s 0) (plan_is full n budget transaction w version ceiling q given)

    pub same_begin : segment_at p 0 ≡ segment_at q 0
    same_begin =
        plan_segment even n budget transaction w version ceiling p ok 0 (positive p.count (plan_at_least even n budget transaction w version ceiling p ok))
        ∙ ap (λ (h : SegmentHead). Some (record { head = h; offset = 0 })) same_head_lem
        ∙ sym (plan_segment full n budget transaction w version ceiling q given 0 (positive q.count (plan_at_least full n budget transaction w version ceiling q given)))

-- ---- beside them plan_message's: document 01's later capacity in each but the last, and no longer ones

next_length : (b i c z m : ℕ) → z ≡ 0 → b + suc i * c + min (suc i) z ≡ b + i * c + min i z + m → m ≡ c
next_length b i c z m e f = omega arith

module _ (n budget transaction : ℕ) (w : AcknowledgmentWindow) (version ceiling : ℕ) (p : SegmentedMessage) (ok : plan_message n budget transaction w version ceiling ≡ segmented p) where
  pub full_longer : longer p ≡ 0
  full_longer =
      subst (λ (q : SegmentedMessage). longer q ≡ 0) (plan_is full n budget transaction w version ceiling p ok)
      (none_longer n budget transaction w version ceiling (plan_arguments full n budget transaction w version ceiling p ok))

  capacity : p.later_capacity ≡ later_capacity_of budget
  unfolding plan_of
  capacity = ap (λ (q : SegmentedMessage). q.later_capacity) (sym (plan_is full n budget transaction w version ceiling p ok))

  pub full_lengths : (i : ℕ) → 1 ≤ i → suc i < p.count → length_at p i ≡ later_capacity_of budget
  full_lengths zero o h = absurd (omega arith)
  full_lengths (suc i) o h =
      ap head_length (plan_segment full n budget transaction w version ceiling p ok (suc i) (omega arith))
      ∙ next_length p.begin_octets i p.later_capacity (longer p) (part_length p (suc i)) full_longer (plan_next full n budget transaction w version ceiling p ok (suc i) h)
      ∙ capacity

-- ---- an example: 8 octets at budget 6 under Prohibited

abbrev four_lengths : Planning → List ℕ
four_lengths unsegmented = []
four_lengths (refused r) = []
four_lengths (segmented p) = length_at p 0 ∷ length_at p 1 ∷ length_at p 2 ∷ length_at p 3 ∷ []

example_message : four_lengths (plan_message 8 6 0 window.Prohibited 1 6) ≡ 1 ∷ 3 ∷ 3 ∷ 1 ∷ []
unfolding plan_message plan_of segment_count segment_at longer
example_message = refl

example_even : four_lengths (even_message 8 6 0 window.Prohibited 1 6) ≡ 1 ∷ 3 ∷ 2 ∷ 2 ∷ []
unfolding plan_message plan_of segment_count segment_at longer evened share_of
example_even = refl
