-- The delivery conditions can be met: document 01's P10, a message of 7 octets cut for a budget of 6, its last segment before the middle one, an
-- advance, a release, which is refused, and a repeat between them, in each profile; the same message with its last segment 200 s behind, which
-- profile 1 waits for and profile 2 does not; and what whoever meets the second half of demand 3 answers then.
use Prim.Native.Nat.{ℕ, zero, suc, ◌^◌, ◌≤◌, ◌<◌}
use Rattle.std.proofs.Math.Path.{◌≡◌, refl}
use Rattle.std.proofs.Common.{inl, inr, lit≤}
use Rattle.std.specs.Prelude.{List, [], ◌∷◌, ◌++◌, Bool, true, false, replicate, length, Some, None}
use native.Mathlib.Omega.{arith}
use Rattle.std.proofs.lemmas.List.{length-replicate}
use Rattle.octets.specs.Octets.{wiped_to, same_octets}
use Rattle.words.specs.Marks.{marked, sum_below, words_of, all_below, highest_of}
use Rattle.link.specs.Profile.{known_profile, receiver_interval}
use Rattle.link.specs.declared.HigherLayerProtocol.TheVariants.{Segmented}
use Rattle.tsar.specs.declared.AcknowledgmentWindow.{AcknowledgmentWindow}
use Rattle.tsar.specs.declared.AcknowledgmentWindow.TheVariants as window
use Rattle.segmentation.specs.Plan.{longer, plan_message, plan_of, segment_count, segmented, segment_at, planned_whole, planned_head}
use Rattle.segmentation.specs.declared.SegmentedMessage.{SegmentedMessage}
use Rattle.receiver.specs.Record.{store_octets, sum_to, empty_slots, empty_lengths, joined, impossible}
use Rattle.receiver.specs.Answers.{Step, refused}
use Rattle.receiver.specs.Receive.{Arrival, receive_of}
use Rattle.receiver.specs.Advance.{try_new_of, advance_of, release_of}
use Rattle.receiver.specs.declared.Terms.{Terms}
use Rattle.delivery.specs.Calls.{Call, receive, advance, release, StepFunction, TryNewFunction, ours, start, after, carried}
use Rattle.delivery.specs.Delivery.{Brings, HasCome, AllHaveCome, ReadingMeets, DeliveryConditions, HandsOver}
use Rattle.delivery.specs.Demand.{SecondHalf, step_after, train_of, planned as by_plan}

-- the message
abbrev pub text : List ℕ
text = 10 ∷ 11 ∷ 12 ∷ 13 ∷ 14 ∷ 15 ∷ 16 ∷ []

-- what try_new is given, at reading 0
abbrev pub terms_of : ℕ → Terms
terms_of profile =
    record {
      peer = record { kind = 1; width = 34; value = 5 };
      protocol = Segmented 0;
      transaction_id = 0;
      version = 1;
      profile = profile;
      maximum_message_octets = 10;
    }

-- of profile 1
abbrev pub terms₀ : Terms
terms₀ = terms_of 1

-- a store that the bench has filled
abbrev pub store₀ : List ℕ
store₀ = replicate 65280 165

-- it is long enough
pub room : store_octets ≤ length store₀
room = omega (arith, length-replicate {A = ℕ} 65280 165)

-- try_new makes a receiver of it
pub new_made : (try_new_of terms₀ 0).refused ≡ None
unfolding try_new_of known_profile
new_made = refl

pub new_made_2 : (try_new_of (terms_of 2) 0).refused ≡ None
unfolding try_new_of known_profile
new_made_2 = refl

-- the plan, under a window; Begin states the length, or not
abbrev pub plan₀ : AcknowledgmentWindow → Bool → SegmentedMessage
plan₀ w states =
    record {
      message_octets = 7;
      payload_budget_octets = 6;
      transaction_id = 0;
      acknowledgment_window = w;
      begin_octets = 1;
      later_capacity = 3;
      count = 3;
      states_length = states;
    }

-- it is plan_message's: under Prohibited, and under Every4, where Begin has no room for the length
pub planned : plan_message 7 6 0 window.Prohibited 1 100 ≡ segmented (plan₀ window.Prohibited true)
unfolding plan_message plan_of segment_count
planned = refl

pub planned_4 : plan_message 7 6 0 window.Every4 1 100 ≡ segmented (plan₀ window.Every4 false)
unfolding plan_message plan_of segment_count
planned_4 = refl

module _ (w : AcknowledgmentWindow) (states : Bool) where
  -- segment i of the plan, as a receive at a reading brings it
  abbrev pub arrival : ℕ → ℕ → Arrival
  arrival i now' =
      record {
        peer = terms₀.peer;
        protocol = terms₀.protocol;
        segment = (planned_head (plan₀ w states) i).segment;
        octets = (planned_whole (plan₀ w states) text i).segment_data;
        unparsed = 0;
        reading = now';
      }

  -- and with an output for the message
  abbrev pub bring : ℕ → ℕ → Call
  bring i now' = receive (arrival i now') (replicate 10 0)

  -- Begin, an advance, the End, a release, Begin again; then the middle one
  abbrev pub earlier : List Call
  earlier = bring 0 5 ∷ advance 6 ∷ bring 2 7 ∷ release 8 ∷ bring 0 8 ∷ []

  abbrev pub last_call : Call
  last_call = bring 1 9

  -- it brings the plan's segment
  brings : (i : ℕ) → i < 3 → (now' : ℕ) → Brings (train_of (plan₀ w states) text i) (arrival i now')
  unfolding segment_at longer
  brings zero h now' = record { same_sequence = refl; same_kind_lem = refl; same_data = refl }
  brings (suc zero) h now' = record { same_sequence = refl; same_kind_lem = refl; same_data = refl }
  brings (suc (suc zero)) h now' = record { same_sequence = refl; same_kind_lem = refl; same_data = refl }
  brings (suc (suc (suc i))) h now' = absurd (omega arith)

  -- the conditions are met, whatever the interval is, from 5 ms on
  pub met : (profile interval : ℕ) → 4 < interval → interval ≤ 2 ^ 63 → DeliveryConditions interval (terms_of profile) 0 3 (train_of (plan₀ w states) text) [] (earlier ++ (last_call ∷ []))
  met profile interval long short = (
    record {
      index = 0;
      in_train = lit≤ tt;
      brings = brings 0 (lit≤ tt) 5;
      begin_first = λ e. refl;
      peer = refl;
      protocol = refl;
      transaction = refl;
      parsed = refl;
      long_enough = lit≤ tt;
      reading_meets = record { never_falls = lit≤ tt; in_time = λ s e m. absurd (let z : ◌≡◌ {A = ℕ} 0 1 = cc in omega arith); below = omega arith };
    },
    (
      record { never_falls = lit≤ tt; in_time = λ s e m. let z : ◌≡◌ {A = ℕ} 5 s = cc in omega arith; below = omega arith },
      (
        record {
          index = 2;
          in_train = lit≤ tt;
          brings = brings 2 (lit≤ tt) 7;
          begin_first = λ e. cc;
          peer = refl;
          protocol = refl;
          transaction = refl;
          parsed = refl;
          long_enough = lit≤ tt;
          reading_meets = record { never_falls = lit≤ tt; in_time = λ s e m. let z : ◌≡◌ {A = ℕ} 5 s = cc in omega arith; below = omega arith };
        },
        (
          record { never_falls = lit≤ tt; in_time = λ s e m. let z : ◌≡◌ {A = ℕ} 7 s = cc in omega arith; below = omega arith },
          (
            record {
              index = 0;
              in_train = lit≤ tt;
              brings = brings 0 (lit≤ tt) 8;
              begin_first = λ e. refl;
              peer = refl;
              protocol = refl;
              transaction = refl;
              parsed = refl;
              long_enough = lit≤ tt;
              reading_meets = record { never_falls = lit≤ tt; in_time = λ s e m. let z : ◌≡◌ {A = ℕ} 7 s = cc in omega arith; below = omega arith };
            },
            (
              record {
                index = 1;
                in_train = lit≤ tt;
                brings = brings 1 (lit≤ tt) 9;
                begin_first = λ e. cc;
                peer = refl;
                protocol = refl;
                transaction = refl;
                parsed = refl;
                long_enough = lit≤ tt;
                reading_meets = record { never_falls = lit≤ tt; in_time = λ s e m. let z : ◌≡◌ {A = ℕ} 8 s = cc in omega arith; below = omega arith };
              },
              tt,
            ),
          ),
        ),
      ),
    ),
  )

  -- all of them
  abbrev pub whole : List Call
  whole = earlier ++ (last_call ∷ [])

  -- the conditions are met with a release after them
  pub met_released : (interval : ℕ) → 4 < interval → interval ≤ 2 ^ 63 → DeliveryConditions interval terms₀ 0 3 (train_of (plan₀ w states) text) [] (whole ++ (release 10 ∷ []))
  met_released interval long short =
      let m = met 1 interval long short in
      let last : ReadingMeets interval terms₀ 0 3 (train_of (plan₀ w states) text) (bring 1 9 ∷ bring 0 8 ∷ release 8 ∷ bring 2 7 ∷ advance 6 ∷ bring 0 5 ∷ []) 10 =
      record { never_falls = lit≤ tt; in_time = λ s e f. let z : ◌≡◌ {A = ℕ} 9 s = cc in omega arith; below = omega arith } in
      (m.0, (m.1.0, (m.1.1.0, (m.1.1.1.0, (m.1.1.1.1.0, (m.1.1.1.1.1.0, (last, tt)))))))

  -- with the last call every segment has come
  pub all_come : AllHaveCome 3 (train_of (plan₀ w states) text) (earlier ++ (last_call ∷ []))
  all_come zero h = inl (brings 0 (lit≤ tt) 5)
  all_come (suc zero) h = inr (inr (inr (inl (brings 1 (lit≤ tt) 9))))
  all_come (suc (suc zero)) h = inr (inl (brings 2 (lit≤ tt) 7))
  all_come (suc (suc (suc i))) h = absurd (omega arith)

  -- and before it not
  lacks : HasCome (train_of (plan₀ w states) text 1) earlier → ⊥
  unfolding segment_at longer
  lacks (inl b) = let z : ◌≡◌ {A = ℕ} 0 1 = b.same_sequence in omega arith
  lacks (inr (inl b)) = let z : ◌≡◌ {A = ℕ} 2 1 = b.same_sequence in omega arith
  lacks (inr (inr (inl b))) = let z : ◌≡◌ {A = ℕ} 0 1 = b.same_sequence in omega arith
  lacks (inr (inr (inr c))) = c

  pub not_earlier : AllHaveCome 3 (train_of (plan₀ w states) text) earlier → ⊥
  not_earlier f = lacks (f 1 (lit≤ tt))

  -- Begin and End, and 200 s later the middle one
  abbrev pub slow_earlier : List Call
  slow_earlier = bring 0 5 ∷ bring 2 6 ∷ []

  abbrev pub slow_call : Call
  slow_call = bring 1 200006

  -- this meets the conditions of an interval above that
  pub slow_met : (profile interval : ℕ) → 200000 < interval → interval ≤ 2 ^ 63 → DeliveryConditions interval (terms_of profile) 0 3 (train_of (plan₀ w states) text) [] (slow_earlier ++ (slow_call ∷ []))
  slow_met profile interval long short = (
    record {
      index = 0;
      in_train = lit≤ tt;
      brings = brings 0 (lit≤ tt) 5;
      begin_first = λ e. refl;
      peer = refl;
      protocol = refl;
      transaction = refl;
      parsed = refl;
      long_enough = lit≤ tt;
      reading_meets = record { never_falls = lit≤ tt; in_time = λ s e m. absurd (let z : ◌≡◌ {A = ℕ} 0 1 = cc in omega arith); below = omega arith };
    },
    (
      record {
        index = 2;
        in_train = lit≤ tt;
        brings = brings 2 (lit≤ tt) 6;
        begin_first = λ e. cc;
        peer = refl;
        protocol = refl;
        transaction = refl;
        parsed = refl;
        long_enough = lit≤ tt;
        reading_meets = record { never_falls = lit≤ tt; in_time = λ s e m. let z : ◌≡◌ {A = ℕ} 5 s = cc in omega arith; below = omega arith };
      },
      (
        record {
          index = 1;
          in_train = lit≤ tt;
          brings = brings 1 (lit≤ tt) 200006;
          begin_first = λ e. cc;
          peer = refl;
          protocol = refl;
          transaction = refl;
          parsed = refl;
          long_enough = lit≤ tt;
          reading_meets = record { never_falls = lit≤ tt; in_time = λ s e m. let z : ◌≡◌ {A = ℕ} 6 s = cc in omega arith; below = omega arith };
        },
        tt,
      ),
    ),
  )

  pub slow_come : AllHaveCome 3 (train_of (plan₀ w states) text) (slow_earlier ++ (slow_call ∷ []))
  slow_come zero h = inl (brings 0 (lit≤ tt) 5)
  slow_come (suc zero) h = inr (inr (inl (brings 1 (lit≤ tt) 200006)))
  slow_come (suc (suc zero)) h = inr (inl (brings 2 (lit≤ tt) 6))
  slow_come (suc (suc (suc i))) h = absurd (omega arith)

  slow_lacks : HasCome (train_of (plan₀ w states) text 1) slow_earlier → ⊥
  unfolding segment_at longer
  slow_lacks (inl b) = let z : ◌≡◌ {A = ℕ} 0 1 = b.same_sequence in omega arith
  slow_lacks (inr (inl b)) = let z : ◌≡◌ {A = ℕ} 2 1 = b.same_sequence in omega arith
  slow_lacks (inr (inr c)) = c

  pub slow_not_earlier : AllHaveCome 3 (train_of (plan₀ w states) text) slow_earlier → ⊥
  slow_not_earlier f = slow_lacks (f 1 (lit≤ tt))

  -- nor with the Begin alone
  begin_alone : HasCome (train_of (plan₀ w states) text 1) (bring 0 5 ∷ []) → ⊥
  unfolding segment_at longer
  begin_alone (inl b) = let z : ◌≡◌ {A = ℕ} 0 1 = b.same_sequence in omega arith
  begin_alone (inr c) = c

-- what the last call answers and leaves, of a receiver of a profile with that step function
abbrev pub last_step_of : ℕ → AcknowledgmentWindow → Bool → TryNewFunction → StepFunction → Step
last_step_of profile w states new step = step_after step (after step (start (new (terms_of profile) 0).receiver store₀) (earlier w states)) (last_call w states)

abbrev pub last_step : AcknowledgmentWindow → Bool → TryNewFunction → StepFunction → Step
last_step = last_step_of 1

abbrev pub slow_step : ℕ → TryNewFunction → StepFunction → Step
slow_step profile new step =
    step_after step (after step (start (new (terms_of profile) 0).receiver store₀) (slow_earlier window.Prohibited true)) (slow_call window.Prohibited true)

-- ours hands the message over with it
pub handed_over : HandsOver (last_step window.Prohibited true try_new_of ours) text
unfolding known_profile receiver_interval try_new_of receive_of advance_of release_of impossible all_below sum_to empty_slots empty_lengths joined same_octets wiped_to marked words_of sum_below highest_of longer segment_at
handed_over = (refl, refl)

-- in profile 2 too
pub handed_over_2 : HandsOver (last_step_of 2 window.Prohibited true try_new_of ours) text
unfolding known_profile receiver_interval try_new_of receive_of advance_of release_of impossible all_below sum_to empty_slots empty_lengths joined same_octets wiped_to marked words_of sum_below highest_of longer segment_at
handed_over_2 = (refl, refl)

-- profile 1 waits 200 s for it
pub slow_handed_over : HandsOver (slow_step 1 try_new_of ours) text
unfolding known_profile receiver_interval try_new_of receive_of advance_of release_of impossible all_below sum_to empty_slots empty_lengths joined same_octets wiped_to marked words_of sum_below highest_of longer segment_at
slow_handed_over = (refl, refl)

-- and profile 2 does not
pub slow_expired : (slow_step 2 try_new_of ours).answer ≡ refused (38, 0)
unfolding known_profile receiver_interval try_new_of receive_of advance_of release_of impossible all_below sum_to empty_slots empty_lengths joined same_octets wiped_to marked words_of sum_below highest_of longer segment_at
slow_expired = refl

-- a receiver of which the second half holds, and which try_new makes
module _ (interval : Terms → ℕ) (long : 4 < interval terms₀) (short : interval terms₀ ≤ 2 ^ 63) (new : TryNewFunction) (made : (new terms₀ 0).refused ≡ None) (step : StepFunction) (p : SecondHalf interval new step) where
  -- hands the message over with the last call
  pub must : HandsOver (last_step window.Prohibited true new step) text
  must =
      (p terms₀ 0 made store₀ text 3 (train_of (plan₀ window.Prohibited true) text) (by_plan 6 100 window.Prohibited (plan₀ window.Prohibited true) planned) (lit≤ tt) room (earlier window.Prohibited true) (last_call window.Prohibited true)
      (met window.Prohibited true 1 (interval terms₀) long short)).when (all_come window.Prohibited true) (not_earlier window.Prohibited true)

  -- under Every4 too
  pub must_4 : HandsOver (last_step window.Every4 false new step) text
  must_4 =
      (p terms₀ 0 made store₀ text 3 (train_of (plan₀ window.Every4 false) text) (by_plan 6 100 window.Every4 (plan₀ window.Every4 false) planned_4) (lit≤ tt) room (earlier window.Every4 false) (last_call window.Every4 false)
      (met window.Every4 false 1 (interval terms₀) long short)).when (all_come window.Every4 false) (not_earlier window.Every4 false)

  -- and hands nothing over with a release after it
  pub not_released : (k : ℕ) → carried (step_after step (after step (start (new terms₀ 0).receiver store₀) (whole window.Prohibited true)) (release 10)).answer ≡ Some k → ⊥
  not_released k e =
      ((p terms₀ 0 made store₀ text 3 (train_of (plan₀ window.Prohibited true) text) (by_plan 6 100 window.Prohibited (plan₀ window.Prohibited true) planned) (lit≤ tt) room (whole window.Prohibited true) (release 10)
      (met_released window.Prohibited true (interval terms₀) long short)).only_when k e).1 (all_come window.Prohibited true)

  -- nor with the first call, the Begin
  pub not_first : (k : ℕ) → carried (step (new terms₀ 0).receiver store₀ (bring window.Prohibited true 0 5)).answer ≡ Some k → ⊥
  not_first k e =
      begin_alone window.Prohibited true
      (((p terms₀ 0 made store₀ text 3 (train_of (plan₀ window.Prohibited true) text) (by_plan 6 100 window.Prohibited (plan₀ window.Prohibited true) planned) (lit≤ tt) room [] (bring window.Prohibited true 0 5)
      ((met window.Prohibited true 1 (interval terms₀) long short).0, tt)).only_when k e).0 1 (lit≤ tt))

-- and with an interval above 200 s, the message whose last segment comes then
pub must_slow : (profile : ℕ) (interval : Terms → ℕ) → 200000 < interval (terms_of profile) → interval (terms_of profile) ≤ 2 ^ 63
    → (new : TryNewFunction) → (new (terms_of profile) 0).refused ≡ None → (step : StepFunction) → SecondHalf interval new step → HandsOver (slow_step profile new step) text
must_slow profile interval over short new made step p =
    (p (terms_of profile) 0 made store₀ text 3 (train_of (plan₀ window.Prohibited true) text) (by_plan 6 100 window.Prohibited (plan₀ window.Prohibited true) planned) (lit≤ tt) room (slow_earlier window.Prohibited true) (slow_call window.Prohibited true)
    (slow_met window.Prohibited true profile (interval (terms_of profile)) over short)).when (slow_come window.Prohibited true) (slow_not_earlier window.Prohibited true)
