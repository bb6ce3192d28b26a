-- How long our receiver waits (specs/Waiting): for any interval, then at its own, then both profiles in numbers; and of a receiver that waits as long as
-- profile 1 whatever its profile is it is refuted. Demand 3 in numbers too. Assumes nothing.
use Prim.Native.Nat.{ℕ, ◌+◌, ◌-◌, ◌^◌, ◌≤◌, ◌<◌}
use mathlib.Core.Path.{◌≡◌, refl, sym, ap, subst, ◌∙◌}
use mathlib.Core.Logic.{inl, inr}
use mathlib.Core.List.{List, [], ◌∷◌}
use mathlib.Core.Bool.{Bool, true, false, cond, not, false≢true}
use Rattle.std.specs.Prelude.{Option, Some, None}
use native.Mathlib.Omega.{arith}
use lib.ListN.{length}
use lib.Dec.{eqb, leb}
use borrow.Author.Tests.{eq-eqb, le-leb, lt-leb, le-ltb, lt-ltb}
use Rattle.octets.specs.Octets.{wiped_to, same_octets}
use Rattle.words.specs.Marks.{marked, sum_below, words_of, all_below, highest_of}
use Rattle.link.specs.Profile.{known_profile, receiver_interval}
use Rattle.link.specs.Laws.{receiver_1, receiver_2}
use Rattle.tsar.specs.Rows.{Refusal, first_of, refusal, test, refusal_none, refusal_pass, by_rows}
use Rattle.tsar.specs.Kinds.{prohibited}
use Rattle.tsar.specs.declared.AcknowledgmentWindow.TheVariants as window
use Rattle.segmentation.specs.Plan.{longer}
use Rattle.receiver.specs.declared.ReceiverState.{ReceiverState}
use Rattle.receiver.specs.declared.ReceiverState.TheVariants.{AwaitingBegin, Receiving, Complete, Failed, Expired, Canceled}
use Rattle.receiver.specs.declared.Terms.{Terms}
use Rattle.receiver.specs.declared.Receiver.{Receiver}
use Rattle.receiver.specs.Record.{interval_of, store_octets, taking, complete, receiving, late, due, sum_to, empty_slots, empty_lengths, joined, impossible}
use Rattle.receiver.specs.Answers.{Answer, refused, answered, Step, refuses}
use Rattle.receiver.specs.Receive.{Arrival, Outcome, fails, repeats, closes, keeps, finishes, slot_rules, settle, late_or, receive_rows, receive_after, receive_of}
use Rattle.receiver.specs.Advance.{try_new_of, clock_rows, fires, advance_of}
use Rattle.delivery.specs.Calls.{Call, receive, advance, cancel, release, StepFunction, Left, step_of, ours, start, after, is_refused}
use Rattle.delivery.specs.Delivery.{reading}
use Rattle.delivery.specs.Demand.{SecondHalfAt, step_after}
use Rattle.delivery.specs.Lists.{never}
use Rattle.delivery.specs.Rules.{by_rules, by_receive, by_advance, by_cancel, by_release}
use Rattle.delivery.proofs.Theorem.{demand3}
use Rattle.delivery.specs.Waiting.{deadline_of, sets_deadline, fires_at, Sets, Fires, Waits}
use Rattle.delivery.specs.Witness.{terms_of, store₀, bring}

-- ---- what sets a deadline

module _ (interval : ℕ) (r : Receiver) (c : Call) (st : Step) where
  -- as it was
  same : sets_deadline c st ≡ false → deadline_of st.receiver ≡ deadline_of r → Sets interval r c st
  same f e = record { sets = λ t. never _ f t; moves_none = λ g. inl e; goes_on = λ g h k. e }

  -- off, with the reception over
  over : sets_deadline c st ≡ false → receiving st.receiver.progress.state ≡ false → deadline_of st.receiver ≡ None → Sets interval r c st
  over f k e = record { sets = λ t. never _ f t; moves_none = λ g. inr e; goes_on = λ g h m. never _ k m }

  -- off, by an advance that fires
  fired : sets_deadline c st ≡ false → fires_at c r ≡ true → deadline_of st.receiver ≡ None → Sets interval r c st
  fired f k e = record { sets = λ t. never _ f t; moves_none = λ g. inr e; goes_on = λ g h m. never _ h k }

  on : sets_deadline c st ≡ true → deadline_of st.receiver ≡ Some (reading c + interval) → Sets interval r c st
  on t e = record { sets = λ g. e; moves_none = λ f. never _ f t; goes_on = λ f h m. never _ f t }

module _ (interval : ℕ) (r : Receiver) (store : List ℕ) where
  set_by : (c : Call) → Sets interval r c (step_of interval r store c)
  set_by (receive a out) =
      by_receive (Sets interval r (receive a out)) interval r a store out (λ n e. same interval r (receive a out) _ refl refl) (λ A. over interval r (receive a out) _ refl refl refl)
      (same interval r (receive a out) _ refl refl)
      (λ A.
      by_rules (λ o. Sets interval r (receive a out) (settle interval o r a store out)) r a store (λ st s n. over interval r (receive a out) _ refl refl refl)
      (λ e. repeated (receiving r.progress.state) refl) (same interval r (receive a out) _ refl refl) (λ N right e. over interval r (receive a out) _ refl refl refl)
      (λ N e. on interval r (receive a out) _ refl refl))
    where
      repeated : (b : Bool) → receiving r.progress.state ≡ b → Sets interval r (receive a out) (settle interval repeats r a store out)
      repeated true e = on interval r (receive a out) _ e (rw e)
      repeated false e = same interval r (receive a out) _ e (rw e)
  set_by (advance n) = by_advance (Sets interval r (advance n)) r store n (λ k e. same interval r (advance n) _ refl refl) (λ K b p e f. by b p e)
    where
      by : (b p : Bool) → due (deadline_of r) n ≡ b → Sets interval r (advance n) (fires b p r store n)
      by false p e = same interval r (advance n) _ refl refl
      by true true e = over interval r (advance n) _ refl refl refl
      by true false e = fired interval r (advance n) _ refl e refl
  set_by (cancel n) = by_cancel (Sets interval r (cancel n)) r store n (λ k e. same interval r (cancel n) _ refl refl) (λ K s. over interval r (cancel n) _ refl refl refl)
  set_by (release n) = by_release (Sets interval r (release n)) r store n (λ k e. same interval r (release n) _ refl refl) (λ K s. over interval r (release n) _ refl refl refl)

-- ---- what it does

module _ (r : Receiver) (store : List ℕ) (now' d : ℕ) (e : deadline_of r ≡ Some d) where
  fires_at_lem : store_octets ≤ length store → impossible r ≡ false → r.progress.last_monotonic_ms ≤ now' → Fires r store now' d (advance_of r store now')
  fires_at_lem room ok l = by_advance (Fires r store now' d) r store now' (λ n q. absurd (passes n q)) (λ K b p q f. by b p (sym q) f)
    where
      passes : (n : Refusal) → refusal (clock_rows r store now') ≡ Some n → ⊥
      passes n q =
          let z = sym (refusal_pass (clock_rows r store now') (le-ltb (length store) store_octets room, (ok, (le-ltb now' r.progress.last_monotonic_ms l, tt)))) ∙ q in
          let y : ◌≡◌ {A = ℕ} 0 1 = cc in
          omega arith

      is : due (deadline_of r) now' ≡ leb d now'
      is = ap (λ (x : Option ℕ). due x now') e

      by : (b p : Bool) → b ≡ due (deadline_of r) now' → prohibited r.progress.services.acknowledgment_window ≡ p → Fires r store now' d (fires b p r store now')
      by false p q f = record { waits = λ h. refl; expires = λ h. never _ (sym (q ∙ is)) (le-leb d now' h); asks = λ h. never _ (sym (q ∙ is)) (le-leb d now' h) }
      by true true q f = record { waits = λ h. never _ (lt-leb d now' h) (sym (q ∙ is)); expires = λ h t. refl; asks = λ h t. never _ t f }
      by true false q f = record { waits = λ h. never _ (lt-leb d now' h) (sym (q ∙ is)); expires = λ h t. never _ f t; asks = λ h t. refl }

-- each row whose test holds has a number that is allowed
abbrev Only : (ℕ → Bool) → List (Bool × Refusal) → Type 0
Only ok [] = Unit {0}
Only ok (c ∷ cs) = (c.0 ≡ true → ok c.1.0 ≡ true) × Only ok cs

refused_only : (ok : ℕ → Bool) (cs : List (Bool × Refusal)) → Only ok cs → (n : Refusal) → refusal cs ≡ Some n → ok n.0 ≡ true
refused_only ok [] h n e = let z : ◌≡◌ {A = ℕ} 0 1 = cc in absurd (omega arith)
refused_only ok (c ∷ cs) h n e = go c.0 refl (refused_only ok cs h.1 n) e
  where
    go : (b : Bool) → c.0 ≡ b → (refusal cs ≡ Some n → ok n.0 ≡ true) → cond b (Some c.1) (refusal cs) ≡ Some n → ok n.0 ≡ true
    go true q ih f = let z : c.1 ≡ n = cc in ap (λ (x : Refusal). ok x.0) (sym z) ∙ h.0 q
    go false q ih f = ih f

-- a number other than m
abbrev other : ℕ → ℕ → Bool
other m k = not (eqb k m)

abbrev number_of : Answer → ℕ
number_of (refused n) = n.0
number_of (answered x m) = 0

not_number : (m : ℕ) (y : Answer) → other m (number_of y) ≡ true → y ≡ refused (m, 0) → ⊥
not_number m y o e = false≢true (sym (ap (λ (x : Answer). other m (number_of x)) e ∙ ap not (eq-eqb m m refl)) ∙ o)

module _ (interval : ℕ) (r : Receiver) (store : List ℕ) (a : Arrival) (out : List ℕ) where
  abbrev rows : List (Bool × Refusal)
  rows = receive_rows interval r a store out

  abbrev Other : ℕ → Step → Type 0
  Other m st = other m (number_of st.answer) ≡ true

  -- what the slots decide is refused with 38 alone
  settled_number : (m : ℕ) → other m 0 ≡ true → other m 38 ≡ true → (o : Outcome) → Other m (settle interval o r a store out)
  settled_number m z y (fails st s) = z
  settled_number m z y repeats = z
  settled_number m z y closes = y
  settled_number m z y keeps = z
  settled_number m z y finishes = z

  -- and not even with it while Receiving
  settled_receiving : complete r.progress.state ≡ false → Other 38 (settle interval (first_of (slot_rules r a store) keeps) r a store out)
  settled_receiving c =
      by_rows (λ o. Other 38 (settle interval o r a store out)) (slot_rules r a store) keeps
      ((λ x. refl), λ f. ((λ x. refl), λ f. ((λ x. refl), λ f. ((λ x. never _ c x), λ f. ((λ x. refl), λ f. ((λ x. refl), λ f. ((λ x. refl), λ f. ((λ x. refl), λ f. ((λ x. refl), λ f. ((λ x. refl), λ f. ((λ x. refl), λ f. ((λ x. refl), λ f. ((λ x. refl), λ f. ((λ x. refl), λ f. refl))))))))))))))

  -- the tests before the slots, but for one number
  rows_other : (m : ℕ) → (test rows 14 ≡ true → other m 38 ≡ true) → (test rows 16 ≡ true → other m 34 ≡ true)
      → other m 60 ≡ true → other m 61 ≡ true → other m 62 ≡ true → other m 33 ≡ true → other m 30 ≡ true → other m 31 ≡ true → other m 32 ≡ true → other m 1 ≡ true → other m 6 ≡ true → other m 35 ≡ true → other m 36 ≡ true
      → (n : Refusal) → refusal rows ≡ Some n → other m n.0 ≡ true
  rows_other m t38 t34 h60 h61 h62 h33 h30 h31 h32 h1 h6 h35 h36 =
      refused_only (other m) rows
      ((λ t. h60), ((λ t. h61), ((λ t. h62), ((λ t. h33), ((λ t. h30), ((λ t. h31), ((λ t. h32), ((λ t. h1), ((λ t. h6), ((λ t. h6), ((λ t. h6), ((λ t. h6), ((λ t. h6), ((λ t. h35), (t38, ((λ t. h36), (t34, tt)))))))))))))))))

  -- 34 where the reading is above the bound alone
  near_is : a.reading ≤ 2 ^ 64 - 1 - interval → Other 34 (receive_of interval r a store out)
  near_is l =
      by_receive (Other 34) interval r a store out
      (rows_other 34 (λ t. refl) (λ t. never _ (le-ltb (2 ^ 64 - 1 - interval) a.reading l) t) refl refl refl refl refl refl refl refl refl refl refl)
      (λ A. refl) refl (λ A. settled_number 34 refl refl (first_of (slot_rules r a store) keeps))

  too_far_is : 2 ^ 64 - 1 - interval < a.reading → is_refused (receive_of interval r a store out).answer ≡ true
  unfolding receive_of
  too_far_is l = go (refusal rows) refl
    where
      go : (v : Option Refusal) → refusal rows ≡ v → is_refused (receive_after interval v r a store out).answer ≡ true
      go (Some n) e = refl
      go None e = never _ (refusal_none rows e 16) (lt-ltb (2 ^ 64 - 1 - interval) a.reading l)

  module _ (d : ℕ) (at : deadline_of r ≡ Some d) (l : a.reading ≤ d) where
    is_not : late (deadline_of r) a.reading ≡ false
    is_not = ap (λ (x : Option ℕ). late x a.reading) at ∙ le-ltb d a.reading l

    -- what holds of the refusals by the tests and of what the slots decide
    by_in_time : (P : Step → Type 0) → ((n : Refusal) → refusal rows ≡ Some n → P (refuses n r store out)) → P (settle interval (first_of (slot_rules r a store) keeps) r a store out) → P (receive_of interval r a store out)
    unfolding receive_of
    by_in_time P f g = go (refusal rows) refl
      where
        goes : (b p : Bool) → b ≡ false → P (late_or interval b p r a store out)
        goes true p e = never _ e refl
        goes false p e = g

        go : (v : Option Refusal) → refusal rows ≡ v → P (receive_after interval v r a store out)
        go (Some n) e = f n e
        go None e = goes (late (deadline_of r) a.reading) (prohibited r.progress.services.acknowledgment_window) is_not

    not_37 : Other 37 (receive_of interval r a store out)
    not_37 = by_in_time (Other 37) (rows_other 37 (λ t. refl) (λ t. refl) refl refl refl refl refl refl refl refl refl refl refl) (settled_number 37 refl refl (first_of (slot_rules r a store) keeps))

    not_38 : receiving r.progress.state ≡ true → Other 38 (receive_of interval r a store out)
    not_38 k = by_in_time (Other 38) (rows_other 38 (λ t. never _ (ap not (takes r.progress.state k)) t) (λ t. refl) refl refl refl refl refl refl refl refl refl refl refl) (settled_receiving (unfinished r.progress.state k))
      where
        takes : (s : ReceiverState) → receiving s ≡ true → taking s ≡ true
        takes Receiving e = refl
        takes AwaitingBegin e = refl
        takes Complete e = refl
        takes (Failed x) e = e
        takes Expired e = e
        takes Canceled e = e

        unfinished : (s : ReceiverState) → receiving s ≡ true → complete s ≡ false
        unfinished Receiving e = refl
        unfinished AwaitingBegin e = refl
        unfinished Complete e = sym e
        unfinished (Failed x) e = refl
        unfinished Expired e = refl
        unfinished Canceled e = refl

late_is : (interval : ℕ) (r : Receiver) (store : List ℕ) (a : Arrival) (out : List ℕ) (d : ℕ) → deadline_of r ≡ Some d → d < a.reading → is_refused (receive_of interval r a store out).answer ≡ true
unfolding receive_of
late_is interval r store a out d e l = go (refusal (receive_rows interval r a store out))
  where
    is : late (deadline_of r) a.reading ≡ true
    is = ap (λ (x : Option ℕ). late x a.reading) e ∙ lt-ltb d a.reading l

    past : (b p : Bool) → b ≡ true → is_refused (late_or interval b p r a store out).answer ≡ true
    past true true q = refl
    past true false q = refl
    past false p q = absurd (false≢true q)

    go : (v : Option Refusal) → is_refused (receive_after interval v r a store out).answer ≡ true
    go (Some n) = refl
    go None = past (late (deadline_of r) a.reading) (prohibited r.progress.services.acknowledgment_window) is

-- ---- the law

pub waits : (interval : ℕ) → Waits (λ r. interval) (step_of interval)
waits interval =
    record {
      deadline_set = λ r store c. set_by interval r store c;
      advance_fires = λ r store now' d e room ok l. fires_at_lem r store now' d e room ok l;
      late_refused = λ r store a out d e l. late_is interval r store a out d e l;
      in_time = λ r store a out d e l k. (not_number 37 _ (not_37 interval r store a out d e l), not_number 38 _ (not_38 interval r store a out d e l k));
      too_far = λ r store a out l. too_far_is interval r store a out l;
      near = λ r store a out l. not_number 34 _ (near_is interval r store a out l);
    }

-- ours, at its own interval
pub own_waits : Waits interval_of ours
own_waits =
    record {
      deadline_set = λ r store c. set_by (interval_of r) r store c;
      advance_fires = λ r store now' d e room ok l. fires_at_lem r store now' d e room ok l;
      late_refused = λ r store a out d e l. late_is (interval_of r) r store a out d e l;
      in_time = λ r store a out d e l k. (not_number 37 _ (not_37 (interval_of r) r store a out d e l), not_number 38 _ (not_38 (interval_of r) r store a out d e l k));
      too_far = λ r store a out l. too_far_is (interval_of r) r store a out l;
      near = λ r store a out l. not_number 34 _ (near_is (interval_of r) r store a out l);
    }

-- ---- in numbers: a Begin at 5 ms, in each profile

abbrev begun : ℕ → Left
begun profile = after ours (start (try_new_of (terms_of profile) 0).receiver store₀) (bring window.Prohibited true 0 5 ∷ [])

-- under Every4
abbrev begun_4 : ℕ → Left
begun_4 profile = after ours (start (try_new_of (terms_of profile) 0).receiver store₀) (bring window.Every4 false 0 5 ∷ [])

-- the deadline, and after the Begin has come again at 7 ms; before the deadline the receiver waits, at it it expires; a segment at the deadline is taken,
-- and past it is refused with 38, under Every4 with 37
pub record InNumbers (profile d : ℕ) : Type 0 where
  pub set : deadline_of (begun profile).receiver ≡ Some d
  pub moved : deadline_of (step_after ours (begun profile) (bring window.Prohibited true 0 7)).receiver ≡ Some (d + 2)
  pub waiting : (step_after ours (begun profile) (advance (d - 1))).receiver.progress.state ≡ Receiving
  pub expired : (step_after ours (begun profile) (advance d)).receiver.progress.state ≡ Expired
  pub taken : is_refused (step_after ours (begun profile) (bring window.Prohibited true 2 d)).answer ≡ false
  pub late_38 : (step_after ours (begun profile) (bring window.Prohibited true 2 (d + 1))).answer ≡ refused (38, 0)
  pub late_37 : (step_after ours (begun_4 profile) (bring window.Every4 false 2 (d + 1))).answer ≡ refused (37, 0)

pub numbers_1 : InNumbers 1 300005
unfolding known_profile receiver_interval try_new_of receive_of advance_of impossible all_below sum_to empty_slots empty_lengths joined same_octets wiped_to marked words_of sum_below highest_of longer
numbers_1 = record { set = refl; moved = refl; waiting = refl; expired = refl; taken = refl; late_38 = refl; late_37 = refl }

pub numbers_2 : InNumbers 2 120005
unfolding known_profile receiver_interval try_new_of receive_of advance_of impossible all_below sum_to empty_slots empty_lengths joined same_octets wiped_to marked words_of sum_below highest_of longer
numbers_2 = record { set = refl; moved = refl; waiting = refl; expired = refl; taken = refl; late_38 = refl; late_37 = refl }

-- ---- receivers that are shut out

abbrev new_2 : Receiver
new_2 = (try_new_of (terms_of 2) 0).receiver

-- one that waits as long as profile 1 whatever its profile is
abbrev pub waits_longer : StepFunction
waits_longer = step_of (receiver_interval 1)

longer_sets : sets_deadline (bring window.Prohibited true 0 5) (waits_longer new_2 store₀ (bring window.Prohibited true 0 5)) ≡ true
unfolding known_profile receiver_interval try_new_of receive_of advance_of impossible all_below sum_to empty_slots empty_lengths joined same_octets wiped_to marked words_of sum_below highest_of longer
longer_sets = refl

longer_deadline : deadline_of (waits_longer new_2 store₀ (bring window.Prohibited true 0 5)).receiver ≡ Some 300005
unfolding known_profile receiver_interval try_new_of receive_of advance_of impossible all_below sum_to empty_slots empty_lengths joined same_octets wiped_to marked words_of sum_below highest_of longer
longer_deadline = refl

own_2 : interval_of new_2 ≡ 120000
unfolding known_profile receiver_interval try_new_of
own_2 = refl

pub waits_longer_refuted : Waits interval_of waits_longer → ⊥
waits_longer_refuted w =
    let e : Some 300005 ≡ Some (5 + interval_of new_2) = sym longer_deadline ∙ (w.deadline_set new_2 store₀ (bring window.Prohibited true 0 5)).sets longer_sets in
    let z : 300005 ≡ 5 + interval_of new_2 = cc in
    omega (arith, own_2)

-- ---- demand 3, in numbers

-- a receiver of profile 1 waits at least 300,000 ms for the next segment
pub profile_1 : (t : Terms) → t.profile ≡ 1 → SecondHalfAt 300000 try_new_of ours t
profile_1 t e = subst (λ (n : ℕ). SecondHalfAt n try_new_of ours t) (ap receiver_interval e ∙ receiver_1) (demand3.second_half t)

-- and one of profile 2 at least 120,000 ms
pub profile_2 : (t : Terms) → t.profile ≡ 2 → SecondHalfAt 120000 try_new_of ours t
profile_2 t e = subst (λ (n : ℕ). SecondHalfAt n try_new_of ours t) (ap receiver_interval e ∙ receiver_2) (demand3.second_half t)
