-- What holds of every plan that a planner gives, plan_message or the even one: its segments are a true cutting of the message, each is one that the
-- codec writes under the plan's version, and each is within the budget. Assumes nothing.
use Prim.Native.Nat.{ℕ, zero, suc, ◌+◌, ◌-◌, ◌*◌, ◌≤◌, ◌<◌, min}
use Rattle.std.specs.Prelude.{◌≡◌, List, [], ◌∷◌, Bool, true, false, cond, not, ◌&&◌, length, leb, ltb, Some, None}
use Rattle.std.proofs.Math.Path.{refl, ap}
use Rattle.std.proofs.Common.{sym, ◌∙◌, subst, true≢false, ⊎_elim, mod-lt, le-div_iff_mul-le, mul-le-mul_left, mul-le-mul_right, length-take, ltb-true, ltb-false, leb-false, le-ltb}
use native.Mathlib.Omega.{arith}
use Rattle.std.proofs.Math.Nat.{div-add-mod, div-le_of_le-mul}
use Rattle.octets.specs.Laws.{le_or_lt}
use Rattle.std.proofs.lemmas.Bool.{lt-leb}
use Rattle.tsar.specs.Rows.{first_of, test, refusal, refusal_pass, AllFalse}
use Rattle.tsar.specs.Writing.{codec_rows, header_octets, word_octets}
use Rattle.tsar.specs.declared.AcknowledgmentWindow.{AcknowledgmentWindow}
use Rattle.segmentation.specs.declared.SegmentedMessage.{SegmentedMessage}
use Rattle.segmentation.specs.Plan.{Planning, unsegmented, refused, segmented, plan_message, plan_rows, plan_of, share_of, evened, spread, longer, rounded_up, begin_data, later_capacity_of, prohibited, bare_octets, begin_header, segment_count, services_for, planned_kind, planned_head, part_start, part_length, has_segment, segment_at, planned_whole}
use Rattle.segmentation.specs.Cutting.{Cutting}
use Rattle.segmentation.specs.Capacities.{Capacities, up_covers, up_some, up_least, part_within, part_short, next_start, last_end, parts_make, later_continues, last_ends, kind_plain, kind_states, kind_length, kind_crc, kind_first, later_header, has_segment_lem}
use Rattle.segmentation.specs.Planned.{Spread, planning, even_of, plan_as, Plannable, rest, later, share, over, full, even}

-- ---- what plan_message's rows leave

abbrev is_segmented : Planning → Bool
is_segmented unsegmented = false
is_segmented (refused r) = false
is_segmented (segmented p) = true

spread_segmented : (r : Planning) → is_segmented (spread r) ≡ is_segmented r
spread_segmented unsegmented = refl
spread_segmented (refused r) = refl
spread_segmented (segmented p) = refl

-- rows none of which plans segments
abbrev none_segmented : List (Bool × Planning) → Bool
none_segmented [] = true
none_segmented (c ∷ cs) = not (is_segmented c.1) && none_segmented cs

one_passed : (t : Bool) (v : Planning) (cs : List (Bool × Planning)) (d : Planning) → (not (is_segmented v) && none_segmented cs) ≡ true → is_segmented (cond t v (first_of cs d)) ≡ true → (t ≡ false) × (none_segmented cs ≡ true) × (is_segmented (first_of cs d) ≡ true)
one_passed true unsegmented cs d o e = absurd (true≢false (sym e))
one_passed true (refused r) cs d o e = absurd (true≢false (sym e))
one_passed true (segmented p) cs d o e = absurd (true≢false (sym o))
one_passed false unsegmented cs d o e = (refl, o, e)
one_passed false (refused r) cs d o e = (refl, o, e)
one_passed false (segmented p) cs d o e = absurd (true≢false (sym o))

-- where what such rows give is a plan, none of the tests holds
none_holds : (cs : List (Bool × Planning)) (d : Planning) → none_segmented cs ≡ true → is_segmented (first_of cs d) ≡ true → (n : ℕ) → test cs n ≡ false
none_holds [] d o e n = refl
none_holds (c ∷ cs) d o e zero = (one_passed c.0 c.1 cs d o e).0
none_holds (c ∷ cs) d o e (suc n) = let h = one_passed c.0 c.1 cs d o e in none_holds cs d h.1 h.2 n

-- ---- the plan of a message

-- Begin's header is what was set aside for it
begin_header_lem : (n budget transaction : ℕ) (w : AcknowledgmentWindow) → header_octets (planned_kind (plan_of n budget transaction w) 0) ≡ begin_header n budget (prohibited w)
unfolding header_octets plan_of
begin_header_lem n budget transaction w = go (prohibited w) (leb n 4095) (ltb (bare_octets (prohibited w) + 2) budget)
  where
    go : (p s t : Bool) → 3 + word_octets (cond (s && t && s) (Some n) None) + word_octets (services_for w p) ≡ cond (s && t) (bare_octets p + 2) (bare_octets p)
    go true true true = refl
    go true true false = refl
    go true false t = refl
    go false true true = refl
    go false true false = refl
    go false false t = refl

-- and is within the budget
pub header_within : (n budget : ℕ) (p : Bool) → bare_octets p ≤ budget → begin_header n budget p ≤ budget
header_within n budget p h = go (leb n 4095) (ltb (bare_octets p + 2) budget) refl
  where
    go : (s t : Bool) → ltb (bare_octets p + 2) budget ≡ t → cond (s && t) (bare_octets p + 2) (bare_octets p) ≤ budget
    go true true e = omega (arith, ltb-true (bare_octets p + 2) budget e)
    go true false e = h
    go false t e = h

-- ---- sums and differences

sub_zero : (a b : ℕ) → a ≤ b → a - b ≡ 0
sub_zero a b h = omega arith

several_later : (c : ℕ) → 1 ≤ c - 1 → 2 ≤ c
several_later c h = omega arith

positive : (c : ℕ) → 1 ≤ c - 1 → 0 < c
positive c h = omega arith

below_later : (i c : ℕ) → suc i < c → i < c - 1
below_later i c h = omega arith

full_starts : (b x i n : ℕ) → x < n - b → b + x + min i 0 < n
full_starts b x i n h = omega arith

one_short : (s o c : ℕ) → suc s ≤ c → s + min 1 o ≤ c
one_short s o c h = omega arith

same_share : (s c : ℕ) → s ≤ c → c < suc s → s ≡ c
same_share s c h k = omega arith

none_over : (s o c x y r : ℕ) → s ≤ c → x ≡ y → x + o ≡ r → r ≤ y → s + min 1 o ≤ c
none_over s o c x y r h e f g = omega arith

enough : (m x r : ℕ) → 1 ≤ m → (m - 1) * 1 ≤ x → x < r → 1 * m ≤ r
enough m x r h k l = omega arith

one_less : (m : ℕ) → 1 ≤ m → m - 1 < m
one_less m h = omega arith

left_is : (r x o : ℕ) → x + o ≡ r → r - x ≡ o
left_is r x o e = omega arith

short_share : (s budget : ℕ) → s ≤ min 255 (budget - 3) → s ≤ 255
short_share s budget h = omega arith

fit_share : (s budget : ℕ) → 3 < budget → s ≤ min 255 (budget - 3) → 3 + s ≤ budget
fit_share s budget k h = omega arith

few_over : (o c : ℕ) → o < c - 1 → o < c
few_over o c h = omega arith

even_starts : (b n i s o y : ℕ) → y + o ≡ n - b → b < n → 1 ≤ s → suc i * s ≤ y → b + i * s + min i o < n
even_starts b n i s o y e h k l = omega arith

-- ---- the rest of the message behind Begin's data, over the later segments

module _ (n budget transaction : ℕ) (w : AcknowledgmentWindow) (version ceiling : ℕ) (f : Plannable n budget transaction w version ceiling) where
  pub begin_below : begin_data n budget (prohibited w) < n
  begin_below = omega (arith, f.long)

  up : later n budget w ≡ rounded_up (rest n budget w) (later_capacity_of budget)
  unfolding segment_count
  up = omega arith

  some_later : 1 ≤ later n budget w
  some_later = omega (arith, up, up_some (rest n budget w) (later_capacity_of budget) (omega (arith, f.later_room)) (omega (arith, begin_below)))

  -- the later segments hold the rest
  covers : rest n budget w ≤ later n budget w * later_capacity_of budget
  covers = rw up (up_covers (rest n budget w) (later_capacity_of budget) (omega (arith, f.later_room)))

  -- and one less would not
  least : (i : ℕ) → i < later n budget w → i * later_capacity_of budget < rest n budget w
  least i h = up_least (rest n budget w) (later_capacity_of budget) i (omega (arith, f.later_room)) (omega (arith, up))

  -- nothing is left over: no segment of plan_message is a longer one
  pub none_longer : longer (plan_of n budget transaction w) ≡ 0
  unfolding plan_of longer
  none_longer = sub_zero (n - begin_data n budget (prohibited w)) ((segment_count n budget (prohibited w) - 1) * later_capacity_of budget) covers

  full_sound : Capacities (plan_of n budget transaction w)
  unfolding plan_of
  full_sound =
      let h = header_within n budget (prohibited w) f.begin_room in
      record {
        begin_short = omega arith;
        later_short = rw none_longer (omega arith);
        begin_below = begin_below;
        several = several_later (segment_count n budget (prohibited w)) some_later;
        few = f.not_many;
        longer_few = rw none_longer (positive (segment_count n budget (prohibited w)) some_later);
        starts = λ i l. rw none_longer (full_starts (begin_data n budget (prohibited w)) (i * later_capacity_of budget) i n (least i (below_later i (segment_count n budget (prohibited w)) l)));
        begin_fits = omega (arith, begin_header_lem n budget transaction w);
        later_fits_lem = rw none_longer (omega (arith, f.later_room));
      }

  -- spread evenly
  pub shared : later n budget w * share n budget w + over n budget w ≡ rest n budget w
  shared = div-add-mod (rest n budget w) (later n budget w)

  over_few : over n budget w < later n budget w
  over_few = mod-lt (rest n budget w) some_later

  share_in : share n budget w ≤ later_capacity_of budget
  share_in = div-le_of_le-mul (later n budget w) covers

  -- each share is within the capacity, and one short of it where something is left over
  share_most : share n budget w + min 1 (over n budget w) ≤ later_capacity_of budget
  share_most =
      ⊎_elim (λ (l : suc (share n budget w) ≤ later_capacity_of budget). one_short (share n budget w) (over n budget w) (later_capacity_of budget) l)
      (λ (l : later_capacity_of budget < suc (share n budget w)).
      let e : share n budget w ≡ later_capacity_of budget = same_share (share n budget w) (later_capacity_of budget) share_in l in
      let g : later n budget w * share n budget w ≡ later n budget w * later_capacity_of budget = ap (λ (k : ℕ). later n budget w * k) e in
      none_over (share n budget w) (over n budget w) (later_capacity_of budget) (later n budget w * share n budget w) (later n budget w * later_capacity_of budget) (rest n budget w) share_in g shared covers)
      (le_or_lt (suc (share n budget w)) (later_capacity_of budget))

  pub share_some : 1 ≤ share n budget w
  share_some =
      let k : (later n budget w - 1) * 1 ≤ (later n budget w - 1) * later_capacity_of budget = mul-le-mul_left (later n budget w - 1) (omega (arith, f.later_room)) in
      (le-div_iff_mul-le some_later).1 (enough (later n budget w) ((later n budget w - 1) * later_capacity_of budget) (rest n budget w) some_later k (least (later n budget w - 1) (one_less (later n budget w) some_later)))

  -- those are the longer segments
  pub many : longer (even_of n budget transaction w) ≡ over n budget w
  unfolding evened share_of plan_of longer
  many = left_is (rest n budget w) (later n budget w * share n budget w) (over n budget w) shared

  even_header : header_octets (planned_kind (even_of n budget transaction w) 0) ≡ begin_header n budget (prohibited w)
  unfolding evened plan_of
  even_header = begin_header_lem n budget transaction w

  even_sound : Capacities (even_of n budget transaction w)
  unfolding evened share_of plan_of
  even_sound =
      let h = header_within n budget (prohibited w) f.begin_room in
      record {
        begin_short = omega arith;
        later_short = rw many (short_share (share n budget w + min 1 (over n budget w)) budget share_most);
        begin_below = begin_below;
        several = several_later (segment_count n budget (prohibited w)) some_later;
        few = f.not_many;
        longer_few = rw many (few_over (over n budget w) (segment_count n budget (prohibited w)) over_few);
        starts = λ i l. rw many (even_starts (begin_data n budget (prohibited w)) n i (share n budget w) (over n budget w) (later n budget w * share n budget w) shared begin_below share_some (mul-le-mul_right {m = suc i} {n = later n budget w} (share n budget w) (below_later i (segment_count n budget (prohibited w)) l)));
        begin_fits = omega (arith, even_header);
        later_fits_lem = rw many (fit_share (share n budget w + min 1 (over n budget w)) budget f.later_room share_most);
      }

  plan_sound : (x : Spread) → Capacities (plan_as x n budget transaction w)
  plan_sound full = full_sound
  plan_sound even = even_sound

-- plan_message plans segments for such arguments alone
plannable : (n budget transaction : ℕ) (w : AcknowledgmentWindow) (version ceiling : ℕ) → ((k : ℕ) → test (plan_rows n budget transaction w version ceiling) k ≡ false) → Plannable n budget transaction w version ceiling
plannable n budget transaction w version ceiling t =
    record {
      within_ceiling = ltb-false ceiling budget (t 0);
      long = leb-false n budget (t 1);
      asks_none = t 2;
      served = ltb-false version 1 (t 3);
      small = ltb-false 7 transaction (t 4);
      begin_room = ltb-false budget (bare_octets (prohibited w)) (t 9);
      later_room = leb-false budget 3 (t 10);
      not_many = ltb-false 256 (segment_count n budget (prohibited w)) (t 11);
    }

-- ---- such arguments are planned

first_pass : (cs : List (Bool × Planning)) (d : Planning) → AllFalse cs → first_of cs d ≡ d
first_pass [] d h = refl
first_pass (c ∷ cs) d h = rw h.0 (first_pass cs d h.1)

message_given : (n budget transaction : ℕ) (w : AcknowledgmentWindow) (version ceiling : ℕ) → Plannable n budget transaction w version ceiling → plan_message n budget transaction w version ceiling ≡ segmented (plan_of n budget transaction w)
unfolding plan_message
message_given n budget transaction w version ceiling f =
    first_pass (plan_rows n budget transaction w version ceiling) (segmented (plan_of n budget transaction w))
    (le-ltb ceiling budget f.within_ceiling, (lt-leb n budget f.long, (f.asks_none, (le-ltb version 1 f.served, (le-ltb 7 transaction f.small, (refl, (refl, (refl, (refl, (le-ltb budget (bare_octets (prohibited w)) f.begin_room, (lt-leb budget 3 f.later_room, (le-ltb 256 (segment_count n budget (prohibited w)) f.not_many, tt))))))))))))

pub plan_given : (x : Spread) (n budget transaction : ℕ) (w : AcknowledgmentWindow) (version ceiling : ℕ) → Plannable n budget transaction w version ceiling → planning x n budget transaction w version ceiling ≡ segmented (plan_as x n budget transaction w)
plan_given full n budget transaction w version ceiling f = message_given n budget transaction w version ceiling f
plan_given even n budget transaction w version ceiling f = ap spread (message_given n budget transaction w version ceiling f)

-- where either planner plans segments, plan_message does
segmented_alike : (x : Spread) (n budget transaction : ℕ) (w : AcknowledgmentWindow) (version ceiling : ℕ) → is_segmented (planning x n budget transaction w version ceiling) ≡ is_segmented (plan_message n budget transaction w version ceiling)
segmented_alike full n budget transaction w version ceiling = refl
segmented_alike even n budget transaction w version ceiling = spread_segmented (plan_message n budget transaction w version ceiling)

-- what both planners put into a plan
fields : (x : Spread) (n budget transaction : ℕ) (w : AcknowledgmentWindow)
    → ((plan_as x n budget transaction w).message_octets ≡ n)
    × ((plan_as x n budget transaction w).payload_budget_octets ≡ budget)
    × ((plan_as x n budget transaction w).transaction_id ≡ transaction)
    × ((plan_as x n budget transaction w).acknowledgment_window ≡ w)
    × ((plan_as x n budget transaction w).count ≡ segment_count n budget (prohibited w))
unfolding plan_of evened
fields full n budget transaction w = (refl, refl, refl, refl, refl)
fields even n budget transaction w = (refl, refl, refl, refl, refl)

-- ---- the laws: of a plan p that a planner gives

module _ (x : Spread) (n budget transaction : ℕ) (w : AcknowledgmentWindow) (version ceiling : ℕ) (p : SegmentedMessage) (ok : planning x n budget transaction w version ceiling ≡ segmented p) where
  none_held : (k : ℕ) → test (plan_rows n budget transaction w version ceiling) k ≡ false
  unfolding plan_message
  none_held =
      none_holds (plan_rows n budget transaction w version ceiling) (segmented (plan_of n budget transaction w)) refl (sym (segmented_alike x n budget transaction w version ceiling) ∙ ap is_segmented ok)

  -- its arguments
  pub plan_arguments : Plannable n budget transaction w version ceiling
  plan_arguments = plannable n budget transaction w version ceiling none_held

  -- it is the plan of the formulas, for the even planner spread
  pub plan_is : plan_as x n budget transaction w ≡ p
  plan_is =
      let f : segmented (plan_as x n budget transaction w) ≡ segmented p = sym (plan_given x n budget transaction w version ceiling plan_arguments) ∙ ok in
      cc

  -- its capacities and count
  pub plan_capacities : Capacities p
  plan_capacities = subst Capacities plan_is (plan_sound n budget transaction w version ceiling plan_arguments x)

  pub plan_octets : p.message_octets ≡ n
  plan_octets = ap (λ (q : SegmentedMessage). q.message_octets) (sym plan_is) ∙ (fields x n budget transaction w).0

  pub plan_payload : p.payload_budget_octets ≡ budget
  plan_payload = ap (λ (q : SegmentedMessage). q.payload_budget_octets) (sym plan_is) ∙ (fields x n budget transaction w).1

  pub plan_transaction : p.transaction_id ≡ transaction
  plan_transaction = ap (λ (q : SegmentedMessage). q.transaction_id) (sym plan_is) ∙ (fields x n budget transaction w).2

  pub plan_window : p.acknowledgment_window ≡ w
  plan_window = ap (λ (q : SegmentedMessage). q.acknowledgment_window) (sym plan_is) ∙ (fields x n budget transaction w).3

  -- the count is a formula of the message's length, the budget and whether the window is Prohibited
  pub plan_count : p.count ≡ segment_count n budget (prohibited w)
  plan_count = ap (λ (q : SegmentedMessage). q.count) (sym plan_is) ∙ (fields x n budget transaction w).4

  pub plan_at_least : 2 ≤ p.count
  plan_at_least = plan_capacities.several

  pub plan_at_most : p.count ≤ 256
  plan_at_most = plan_capacities.few

  -- it has every segment below its count
  pub plan_has : (i : ℕ) → i < p.count → has_segment p i ≡ true
  plan_has = has_segment_lem p plan_capacities

  pub plan_segment : (i : ℕ) → i < p.count → segment_at p i ≡ Some (record { head = planned_head p i; offset = part_start p i })
  unfolding segment_at
  plan_segment i h = rw (plan_has i h)

  -- the data of segment i are a part of the message, of at most 255 octets
  pub plan_range : (i : ℕ) → i < p.count → part_start p i + part_length p i ≤ n
  plan_range i h = omega (arith, part_within p plan_capacities i h, plan_octets)

  pub plan_short : (i : ℕ) → part_length p i ≤ 255
  plan_short = part_short p plan_capacities

  -- a part begins where the one before it ends, and the last ends with the message
  pub plan_next : (i : ℕ) → suc i < p.count → part_start p (suc i) ≡ part_start p i + part_length p i
  plan_next = next_start p plan_capacities

  pub plan_last : (i : ℕ) → suc i ≡ p.count → part_start p i + part_length p i ≡ n
  plan_last zero h = absurd (omega (arith, plan_at_least))
  plan_last (suc i) h = last_end p plan_capacities i h ∙ plan_octets

  -- each segment is one that the codec writes under the plan's version
  pub plan_codec : (i : ℕ) → refusal (codec_rows version (planned_head p i).segment (planned_head p i).segment_data_length) ≡ None
  plan_codec i =
      refusal_pass (codec_rows version (planned_head p i).segment (planned_head p i).segment_data_length)
      (le-ltb version 1 plan_arguments.served, (le-ltb 7 p.transaction_id (rw plan_transaction plan_arguments.small), (le-ltb 255 (part_length p i) (plan_short i), (kind_first p i, (kind_length p i, (kind_crc p i, tt))))))

  -- and is within the budget
  pub plan_budget : (i : ℕ) → header_octets (planned_kind p i) + part_length p i ≤ budget
  plan_budget zero = omega (arith, plan_capacities.begin_fits, plan_payload)
  plan_budget (suc i) = omega (arith, plan_capacities.later_fits_lem, later_header p i, plan_payload)

  -- the segments are a true cutting of the message
  pub plan_cutting : (message : List ℕ) → length message ≡ n → Cutting message transaction p.count (planned_whole p message)
  plan_cutting message e =
      let f : length message ≡ p.message_octets = e ∙ sym plan_octets in
      record {
        at_least = plan_at_least;
        at_most = plan_at_most;
        numbered = λ i h. refl;
        one_transaction = λ i h. plan_transaction;
        begins = refl;
        continues = later_continues p plan_capacities;
        ends = last_ends p plan_capacities;
        plain = λ i h. kind_plain p i;
        short = λ i h. simp length-take (omega (arith, plan_short i));
        states = λ i h. rw f (kind_states p i);
        makes = parts_make p plan_capacities message f;
      }
