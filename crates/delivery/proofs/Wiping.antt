-- The receiver wipes its store on the four occasions and on no other, whatever its record is; no call changes the store of a closed receiver, so the
-- store of one that was made and is closed is wiped. Every call ends in one of two ways: it goes on, or it is closed on an occasion. Assumes nothing.
use Rattle.std.specs.Prelude.{ℕ, ◌≡◌, ◌⊎◌, List, [], ◌∷◌, Bool, false, cond, not, ◌&&◌, ◌||◌, get_or, eqb, ltb, Option, Some, None}
use Rattle.std.proofs.Math.Path.{refl, sym}
use Rattle.std.proofs.Common.{ap, ◌∙◌, subst, ⊎_elim, ltb-true, ltb-false}
use Rattle.std.proofs.Math.Logic.{inl, inr}
use Rattle.std.proofs.Math.Bool.{true}
use Rattle.std.proofs.lemmas.Bool.{false≢true, not-false}
use Rattle.words.specs.Marks.{marked, words_of}
use Rattle.words.specs.Laws.{marked_none, marked_past, marked_words_of}
use Rattle.words.specs.declared.Words.{Words}
use Rattle.tsar.specs.Rows.{Refusal, first_of, refusal, refusal_none}
use Rattle.tsar.specs.Kinds.{prohibited}
use Rattle.response.specs.declared.Status.{Status}
use Rattle.receiver.specs.declared.ReceiverState.{ReceiverState}
use Rattle.receiver.specs.declared.ReceiverState.TheVariants.{AwaitingBegin, Receiving, Complete, Failed, Expired, Canceled}
use Rattle.receiver.specs.declared.Terms.{Terms}
use Rattle.receiver.specs.declared.Receiver.{Receiver}
use Rattle.receiver.specs.Record.{interval_of, taking, awaiting, receiving, complete, late, due, is_held, closed}
use Rattle.receiver.specs.Answers.{Step}
use Rattle.receiver.specs.Receive.{Arrival, sequence, settle, keeps, slot_rules, receive_rows, late_or, receive_after, at_stage, Stage, before, begun, noted, keeping, receive_of}
use Rattle.receiver.specs.Advance.{try_new_of, fires, advance_of}
use Rattle.delivery.specs.Calls.{Call, receive, advance, cancel, release, Left, step_of, ours, start, then, after, is_refused, has_failed, carried}
use Rattle.delivery.specs.Delivery.{reading}
use Rattle.delivery.specs.Lists.{never, and_left, and_right}
use Rattle.delivery.specs.Rules.{Clocked, by_rules, by_receive, by_advance, by_cancel, by_release}
use Rattle.delivery.specs.Leaves.{Wiped, Fills}
use Rattle.delivery.specs.Left.{late_due, due_receiving, or_yes, cancel_open, release_open, fires_open, leaves}
use Rattle.delivery.specs.Invariant.{shut, made_is}
use Rattle.delivery.specs.Own.{own_interval, one_interval, made_interval}
use Rattle.delivery.proofs.ProgressReleased.{stays_closed}
use Rattle.delivery.specs.Occasions.{Occasion, failure, expiry, cancelling, releasing, has_expired, is_canceled, occasion, is_one, asks, closes, Emptied, WipesOnOccasion}
use Rattle.delivery.specs.Wiping.{Clean}

-- ---- the two ways

-- closed on an occasion: as `closed` leaves a record of the receiver's terms, which is the receiver's own unless the reception failed
record Shut (r : Receiver) (c : Call) (st : Step) : Type 0 where
  pub taking_before : taking r.progress.state ≡ true
  pub state : ReceiverState
  pub takes_none : taking state ≡ false
  pub is_one_lem : is_one (occasion c r state) ≡ true
  pub found : Receiver
  pub same_terms : found.terms ≡ r.terms
  pub own : has_failed state ≡ false → found ≡ r
  pub closed_is : st.receiver ≡ closed found state (reading c)
  pub no_message : carried st.answer ≡ None

-- or it goes on: it takes segments as before, holds what was held, and was not asked to close, or was refused
record Goes (r : Receiver) (c : Call) (st : Step) : Type 0 where
  pub same_taking : taking st.receiver.progress.state ≡ taking r.progress.state
  pub held_on : (s : ℕ) → is_held r s ≡ true → is_held st.receiver s ≡ true
  pub not_asked : asks c ≡ true → is_refused st.answer ≡ true

abbrev Way : Receiver → Call → Step → Type 0
Way r c st = Goes r c st ⊎ Shut r c st

-- the record at which a reception fails has the receiver's terms
stage_terms : (r : Receiver) (a : Arrival) (st : Stage) → (at_stage r a st).terms ≡ r.terms
stage_terms r a before = refl
stage_terms r a begun = refl
stage_terms r a noted = refl
stage_terms r a keeping = refl

-- tests that hold give an occasion
one_of : (b : Bool) (o : Occasion) (z : Option Occasion) → b ≡ true → is_one (cond (b && true) (Some o) z) ≡ true
one_of b o z e = rw e

one_expiry : (b c : Bool) → b ≡ true → c ≡ true → is_one (cond (b && c && true) (Some expiry) None) ≡ true
one_expiry b c e f = rw (e, f)

one_late : (t b c : Bool) → b ≡ true → c ≡ true → is_one (cond (t && false) (Some failure) (cond (b && c && true) (Some expiry) None)) ≡ true
one_late true b c e f = one_expiry b c e f
one_late false b c e f = one_expiry b c e f

-- a slot that was held is so with one more
held_more : (w : Words) (q s : ℕ) → marked w s ≡ true → marked (words_of (λ t. eqb t q || marked w t)) s ≡ true
held_more w q s e = go (ltb s 256) refl
  where
    go : (b : Bool) → ltb s 256 ≡ b → marked (words_of (λ t. eqb t q || marked w t)) s ≡ true
    go true l = marked_words_of (λ t. eqb t q || marked w t) s (ltb-true s 256 l) ∙ or_yes (eqb s q) (marked w s) e
    go false l = never _ (marked_past w s (ltb-false s 256 l)) e

module _ (interval : ℕ) (r : Receiver) (store : List ℕ) where
  -- the receiver's own record, closed
  own_shut : (c : Call) (s : ReceiverState) (st : Step) → taking r.progress.state ≡ true → taking s ≡ false → is_one (occasion c r s) ≡ true
      → st.receiver ≡ closed r s (reading c) → carried st.answer ≡ None → Shut r c st
  own_shut c s st o f i e m =
      record { taking_before = o; state = s; takes_none = f; is_one_lem = i; found = r; same_terms = refl; own = λ g. refl; closed_is = e; no_message = m }

  failed_shut : (a : Arrival) (o : List ℕ) (k : Stage) (s : Status) (st : Step) → taking r.progress.state ≡ true
      → st.receiver ≡ closed (at_stage r a k) (Failed s) a.reading → carried st.answer ≡ None → Shut r (receive a o) st
  failed_shut a o k s st t e m =
      record {
        taking_before = t;
        state = Failed s;
        takes_none = refl;
        is_one_lem = one_of (taking r.progress.state) failure _ t;
        found = at_stage r a k;
        same_terms = stage_terms r a k;
        own = λ g. absurd (false≢true (sym g));
        closed_is = e;
        no_message = m;
      }

  -- refused, or with the same state and marks
  stays : (c : Call) (st : Step) → taking st.receiver.progress.state ≡ taking r.progress.state → st.receiver.held ≡ r.held
      → (asks c ≡ true → is_refused st.answer ≡ true) → Way r c st
  stays c st e h n = inl (record { same_taking = e; held_on = λ s q. ap (λ (w : Words). marked w s) h ∙ q; not_asked = n })

  not_asked_receive : (a : Arrival) (o : List ℕ) (b : Bool) → asks (receive a o) ≡ true → b ≡ true
  not_asked_receive a o b q = absurd (false≢true q)

  receive_way : (a : Arrival) (o : List ℕ) → Way r (receive a o) (receive_of interval r a store o)
  unfolding receive_of
  receive_way a o = go (refusal (receive_rows interval r a store o)) refl
    where
      settled : taking r.progress.state ≡ true → Way r (receive a o) (settle interval (first_of (slot_rules r a store) keeps) r a store o)
      settled t =
          by_rules (λ x. Way r (receive a o) (settle interval x r a store o)) r a store (λ k s e. inr (failed_shut a o k s _ t refl refl))
          (λ e. stays (receive a o) _ refl refl (not_asked_receive a o _)) (stays (receive a o) _ refl refl (not_asked_receive a o _))
          (λ N right e. inl (record { same_taking = sym t; held_on = λ s q. held_more r.held (sequence a) s q; not_asked = not_asked_receive a o _ }))
          (λ N e. inl (record { same_taking = sym t; held_on = λ s q. held_more r.held (sequence a) s q; not_asked = not_asked_receive a o _ }))

      in_time : refusal (receive_rows interval r a store o) ≡ None → (b p : Bool) → late r.progress.deadline_monotonic_ms a.reading ≡ b → Way r (receive a o) (late_or interval b p r a store o)
      in_time e true true l =
          let f = refusal_none (receive_rows interval r a store o) e in
          let g : receiving r.progress.state ≡ true = due_receiving r a.reading (f 2) (late_due r.progress.deadline_monotonic_ms a.reading l) in
          inr (own_shut (receive a o) Expired (late_or interval true true r a store o) (not-false (taking r.progress.state) (f 14)) refl (one_late (taking r.progress.state) (receiving r.progress.state) (late r.progress.deadline_monotonic_ms a.reading) g l) refl refl)
      in_time e true false l = stays (receive a o) (late_or interval true false r a store o) refl refl (not_asked_receive a o true)
      in_time e false p l = settled (not-false (taking r.progress.state) (refusal_none (receive_rows interval r a store o) e 14))

      go : (v : Option Refusal) → refusal (receive_rows interval r a store o) ≡ v → Way r (receive a o) (receive_after interval v r a store o)
      go (Some n) e = stays (receive a o) (receive_after interval (Some n) r a store o) refl refl (not_asked_receive a o true)
      go None e = in_time e (late r.progress.deadline_monotonic_ms a.reading) (prohibited r.progress.services.acknowledgment_window) refl

  way : (c : Call) → Way r c (step_of interval r store c)
  way (receive a o) = receive_way a o
  way (advance n) = by_advance (Way r (advance n)) r store n (λ k e. stays (advance n) _ refl refl (λ q. refl)) (λ K b p d f. fired K b p d)
    where
      fired : Clocked r store n → (b p : Bool) → due r.progress.deadline_monotonic_ms n ≡ b → Way r (advance n) (fires b p r store n)
      fired K false p d = stays (advance n) (fires false p r store n) refl refl (λ q. absurd (false≢true q))
      fired K true true d =
          let g : receiving r.progress.state ≡ true = due_receiving r n K.possible d in
          inr (own_shut (advance n) Expired (fires true true r store n) (fires_open r store n K d) refl (one_expiry (receiving r.progress.state) (due r.progress.deadline_monotonic_ms n) g d) refl refl)
      fired K true false d = stays (advance n) (fires true false r store n) refl refl (λ q. absurd (false≢true q))
  way (cancel n) =
      by_cancel (Way r (cancel n)) r store n (λ k e. stays (cancel n) _ refl refl (λ q. refl))
      (λ K s. inr (own_shut (cancel n) Canceled _ (cancel_open r.progress.state s) refl (one_of (awaiting r.progress.state || receiving r.progress.state) cancelling None s) refl refl))
  way (release n) =
      by_release (Way r (release n)) r store n (λ k e. stays (release n) _ refl refl (λ q. refl))
      (λ K s. inr (own_shut (release n) Canceled _ (release_open r.progress.state s) refl (one_of (complete r.progress.state) releasing None s) refl refl))

-- ---- what follows of each

-- a state that takes segments is none of the three that are left on an occasion
open_left : (s : ReceiverState) → taking s ≡ true → (has_failed s ≡ false) × (has_expired s ≡ false) × (is_canceled s ≡ false)
open_left AwaitingBegin e = (refl, refl, refl)
open_left Receiving e = (refl, refl, refl)
open_left Complete e = (refl, refl, refl)
open_left (Failed x) e = absurd (false≢true e)
open_left Expired e = absurd (false≢true e)
open_left Canceled e = absurd (false≢true e)

-- one that does not hold gives none
none_left : (b c : Bool) (o : Occasion) (z : Option Occasion) → c ≡ false → is_one z ≡ false → is_one (cond (b && c) (Some o) z) ≡ false
none_left true c o z e f = rw e f
none_left false c o z e f = f

none_found : (b c : Bool) (o : Occasion) (z : Option Occasion) → b ≡ false → is_one z ≡ false → is_one (cond (b && c) (Some o) z) ≡ false
none_found b c o z e f = rw e f

-- leaving a state that takes segments, a call has no occasion
open_none : (c : Call) (r : Receiver) (s : ReceiverState) → taking s ≡ true → is_one (occasion c r s) ≡ false
open_none (receive a o) r s e =
    none_left (taking r.progress.state) (has_failed s) failure _ (open_left s e).0
    (none_left (receiving r.progress.state && late r.progress.deadline_monotonic_ms a.reading) (has_expired s) expiry None (open_left s e).1 refl)
open_none (advance n) r s e =
    none_left (receiving r.progress.state && due r.progress.deadline_monotonic_ms n) (has_expired s) expiry None (open_left s e).1 refl
open_none (cancel n) r s e = none_left (awaiting r.progress.state || receiving r.progress.state) (is_canceled s) cancelling None (open_left s e).2 refl
open_none (release n) r s e = none_left (complete r.progress.state) (is_canceled s) releasing None (open_left s e).2 refl

-- nor has one at a state that takes none
shut_none : (c : Call) (r : Receiver) (s : ReceiverState) → taking r.progress.state ≡ false → is_one (occasion c r s) ≡ false
shut_none (receive a o) r s e =
    let f = (shut r.progress.state e).1 in
    none_found (taking r.progress.state) (has_failed s) failure _ e
    (none_found (receiving r.progress.state && late r.progress.deadline_monotonic_ms a.reading) (has_expired s) expiry None (rw f) refl)
shut_none (advance n) r s e = none_found (receiving r.progress.state && due r.progress.deadline_monotonic_ms n) (has_expired s) expiry None (rw (shut r.progress.state e).1) refl
shut_none (cancel n) r s e =
    none_found (awaiting r.progress.state || receiving r.progress.state) (is_canceled s) cancelling None (rw ((shut r.progress.state e).0, (shut r.progress.state e).1)) refl
shut_none (release n) r s e = none_found (complete r.progress.state) (is_canceled s) releasing None (shut r.progress.state e).2 refl

module _ (r : Receiver) (c : Call) (st : Step) where
  abbrev s : ReceiverState
  s = st.receiver.progress.state

  -- taking as before, it does not close
  as_before : taking s ≡ taking r.progress.state → closes r st ≡ false
  as_before e = go (taking r.progress.state) refl
    where
      go : (b : Bool) → taking r.progress.state ≡ b → (taking r.progress.state && not (taking s)) ≡ false
      go true f = rw (e ∙ f) (rw f)
      go false f = rw f

  shut_closes : Shut r c st → closes r st ≡ true
  shut_closes z = rw (z.taking_before, ap (λ (x : Receiver). taking x.progress.state) z.closed_is ∙ z.takes_none)

  -- and has no occasion
  exactly_way : Way r c st → closes r st ≡ is_one (occasion c r s)
  exactly_way (inl z) = as_before z.same_taking ∙ sym (go (taking r.progress.state) refl)
    where
      go : (b : Bool) → taking r.progress.state ≡ b → is_one (occasion c r s) ≡ false
      go true f = open_none c r s (z.same_taking ∙ f)
      go false f = shut_none c r s f
  exactly_way (inr z) = shut_closes z ∙ sym (ap (λ (x : Receiver). is_one (occasion c r x.progress.state)) z.closed_is ∙ z.is_one_lem)

  acts_way : Way r c st → asks c ≡ true → is_refused st.answer ≡ false → closes r st ≡ true
  acts_way (inl z) q f = never _ f (z.not_asked q)
  acts_way (inr z) q f = shut_closes z

  none_way : Way r c st → closes r st ≡ true → carried st.answer ≡ None
  none_way (inl z) g = never _ (as_before z.same_taking) g
  none_way (inr z) g = z.no_message

  held_way : Way r c st → closes r st ≡ false → (t : ℕ) → is_held r t ≡ true → is_held st.receiver t ≡ true
  held_way (inl z) g = z.held_on
  held_way (inr z) g = never _ g (shut_closes z)

  -- closed, the record is emptied
  empties_way : Way r c st → closes r st ≡ true → Emptied r c st
  empties_way (inl z) g = never _ (as_before z.same_taking) g
  empties_way (inr z) g =
      record {
        same_terms = ap (λ (x : Receiver). x.terms) q ∙ z.same_terms;
        holds_none = λ t. ap (λ (x : Receiver). marked x.held t) q ∙ marked_none t;
        no_lengths = ap (λ (x : Receiver). x.lengths) q;
        no_slots = ap (λ (x : Receiver). x.slots) q;
        counts_none = ap (λ (x : Receiver). x.progress.stored_octets) q;
        no_deadline = ap (λ (x : Receiver). x.progress.deadline_monotonic_ms) q;
        read_at = ap (λ (x : Receiver). x.progress.last_monotonic_ms) q;
        same_services_lem = λ f. ap (λ (x : Receiver). x.progress.services) q ∙ ap (λ (x : Receiver). x.progress.services) (own f);
        same_end = λ f. ap (λ (x : Receiver). x.progress.end_sequence) q ∙ ap (λ (x : Receiver). x.progress.end_sequence) (own f);
        same_length = λ f. ap (λ (x : Receiver). x.progress.message_length) q ∙ ap (λ (x : Receiver). x.progress.message_length) (own f);
      }
    where
      q : st.receiver ≡ closed z.found z.state (reading c)
      q = z.closed_is

      own : has_failed s ≡ false → z.found ≡ r
      own f = z.own (sym (ap (λ (x : Receiver). has_failed x.progress.state) q) ∙ f)

-- ---- the law: for every interval, record, store and call

pub wipes : (interval : ℕ) → WipesOnOccasion (step_of interval)
wipes interval r store c =
    record {
      exactly = exactly_way r c st (way interval r store c);
      acts = acts_way r c st (way interval r store c);
      hands_none = none_way r c st (way interval r store c);
      still_held = held_way r c st (way interval r store c);
      wipes = λ g. (leaves interval).closed_wipes r store c (and_left _ _ g) (not_taking g);
      empties = empties_way r c st (way interval r store c);
      else = λ t g. ⊎_elim (λ (e : st.store ≡ store). inl e) (λ (x : Wiped r store st ⊎ Fills r store c st). ⊎_elim (λ (w : Wiped r store st). never _ g (closing w)) (λ (f : Fills r store c st). inr f) x) ((leaves interval).store_left r store c t);
    }
  where
    st : Step
    st = step_of interval r store c

    not_taking : closes r st ≡ true → taking st.receiver.progress.state ≡ false
    not_taking g = go (taking st.receiver.progress.state) (and_right (taking r.progress.state) _ g)
      where
        go : (b : Bool) → not b ≡ true → b ≡ false
        go true e = sym e
        go false e = refl

    closing : Wiped r store st → closes r st ≡ true
    closing w = rw (w.was_open, w.is_closed_lem)

-- and ours, at its own interval
pub own_wipes : WipesOnOccasion ours
own_wipes r = wipes (interval_of r) r

-- ---- a closed receiver's store

-- no call changes it
pub store_stays : (interval : ℕ) (r : Receiver) (store : List ℕ) (c : Call) → taking r.progress.state ≡ false → (step_of interval r store c).store ≡ store
store_stays interval r store (receive a o) f =
    by_receive (λ st. st.store ≡ store) interval r a store o (λ n e. refl) (λ A. never _ f A.takes) refl (λ A. never _ f A.takes)
store_stays interval r store (advance n) f = kept ((leaves interval).store_left r store (advance n) tt)
  where
    kept : ((advance_of r store n).store ≡ store) ⊎ (Wiped r store (advance_of r store n) ⊎ ⊥) → (advance_of r store n).store ≡ store
    kept (inl e) = e
    kept (inr (inl w)) = never _ f w.was_open
    kept (inr (inr z)) = absurd z
store_stays interval r store (cancel n) f = by_cancel (λ st. st.store ≡ store) r store n (λ k e. refl) (λ K s. never _ f (cancel_open r.progress.state s))
store_stays interval r store (release n) f = by_release (λ st. st.store ≡ store) r store n (λ k e. refl) (λ K s. never _ f (release_open r.progress.state s))

-- nor any list of calls: a store that was wiped stays so while the receiver is not made anew
pub stores_stay : (interval : ℕ) (w : Left) (cs : List Call) → taking w.receiver.progress.state ≡ false → (after (step_of interval) w cs).store ≡ w.store
stores_stay interval w [] f = refl
stores_stay interval w (c ∷ cs) f =
    stores_stay interval (then (step_of interval) w c) cs (stays_closed interval w.receiver w.store c f).0 ∙ store_stays interval w.receiver w.store c f

pub clean_then : (interval : ℕ) (w : Left) (c : Call) → Clean w → Clean (then (step_of interval) w c)
clean_then interval w c k f i h = go (taking w.receiver.progress.state) refl
  where
    go : (b : Bool) → taking w.receiver.progress.state ≡ b → get_or (step_of interval w.receiver w.store c).store i 0 ≡ 0
    go true o = ((leaves interval).closed_wipes w.receiver w.store c o f).zero i h
    go false o = ap (λ (l : List ℕ). get_or l i 0) (store_stays interval w.receiver w.store c o) ∙ k o i h

clean_after : (interval : ℕ) (w : Left) (cs : List Call) → Clean w → Clean (after (step_of interval) w cs)
clean_after interval w [] k = k
clean_after interval w (c ∷ cs) k = clean_after interval (then (step_of interval) w c) cs (clean_then interval w c k)

pub closed_store : (interval : ℕ) (t : Terms) (made : ℕ) → (try_new_of t made).refused ≡ None → (store : List ℕ) (cs : List Call) → Clean (after (step_of interval) (start (try_new_of t made).receiver store) cs)
closed_store interval t made e store cs =
    clean_after interval (start (try_new_of t made).receiver store) cs (λ f. never _ f (ap (λ (r : Receiver). taking r.progress.state) (made_is t made e)))

-- so of ours
pub own_closed_store : (t : Terms) (made : ℕ) → (try_new_of t made).refused ≡ None → (store : List ℕ) (cs : List Call) → Clean (after ours (start (try_new_of t made).receiver store) cs)
own_closed_store t made e store cs =
    subst Clean (sym (one_interval (own_interval t) (start (try_new_of t made).receiver store) cs (made_interval t made e))) (closed_store (own_interval t) t made e store cs)
