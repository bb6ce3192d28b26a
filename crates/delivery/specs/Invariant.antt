-- What holds after every list of calls on a receiver that try_new gave, kept by each call; the first half of demand 3 follows.
use Rattle.std.specs.Prelude.{ℕ, ◌*◌, ◌≤◌, ◌<◌, ◌≡◌, refl, List, [], ◌∷◌, Bool, true, false, ◌||◌, length, eqb, Option, Some, None}
use Rattle.std.proofs.Common.{sym, ap, ◌∙◌, subst, arith, length-set}
use Rattle.std.proofs.lemmas.Bool.{false≢true, not-false}
use Rattle.std.proofs.Math.Bool.{and-false}
use Rattle.std.proofs.lemmas.List.{length-replicate}
use Rattle.std.proofs.lemmas.List.Edits.{sets}
use Rattle.words.specs.Marks.{marked, no_marks}
use Rattle.words.specs.Laws.{marked_none}
use Rattle.words.specs.declared.Words.{Words}
use Rattle.tsar.specs.Layout.{WholeSegment}
use Rattle.tsar.specs.Kinds.{states_other}
use Rattle.response.specs.declared.Status.{Status}
use Rattle.receiver.specs.declared.Slot.{Slot}
use Rattle.receiver.specs.declared.ReceiverState.{ReceiverState}
use Rattle.receiver.specs.declared.ReceiverState.TheVariants.{AwaitingBegin, Receiving, Complete, Failed, Expired, Canceled}
use Rattle.receiver.specs.declared.Terms.{Terms}
use Rattle.receiver.specs.declared.Receiver.{Receiver}
use Rattle.receiver.specs.Record.{taking, awaiting, receiving, complete, receiving_or_complete, other_end, no_slot, held_length, empty_slots, empty_lengths, slot_octets, full_with}
use Rattle.receiver.specs.Answers.{Step}
use Rattle.receiver.specs.Receive.{Arrival, sequence, kind, settle, kept, Stage, before, begun, noted, keeping, fails, repeats, keeps, finishes}
use Rattle.receiver.specs.Advance.{Made, empty, try_new_of, fires}
use Rattle.receiver.proofs.Making.{makes}
use Rattle.delivery.specs.Calls.{Call, receive, advance, cancel, release, Left, find, absent, brought, total, HandOver, AllOfAccepted, start, step_of, after, then, taken, FitsTypes, AllFitTypes}
use Rattle.delivery.specs.Demand.{FirstHalf}
use Rattle.delivery.specs.Lists.{never, or_right, and_rest, sum_to_zero}
use Rattle.delivery.specs.Rules.{Admitted, New, stated_with, end_with, count_with, fills, by_rules, by_receive, by_advance, by_cancel, by_release}
use Rattle.delivery.specs.Body.{Body, BodyOf, body', holds_at, free_absent, held_found}
use Rattle.delivery.specs.Message.{of_accepted, full_after}

-- one message was handed over, of the segments acc
pub record HandedOf (acc : List WholeSegment) (handed : List HandOver) : Type 0 where
  pub count : ℕ
  pub message : List ℕ
  pub is : handed ≡ record { count = count; message = message; accepted = acc } ∷ []

-- what holds of a receiver with the terms that it has now, and t those that try_new was given; of the store, of what was accepted and of what was handed over
pub record Inv (t terms : Terms) (state : ReceiverState) (held : Words) (lengths : List ℕ) (slots : List Slot) (end_sequence : Option ℕ) (stated : Option ℕ) (count : ℕ) (store : List ℕ) (acc : List WholeSegment) (handed : List HandOver) : Type 0 where
  -- the terms never change
  pub same : terms ≡ t
  pub long_lengths : length lengths ≡ 256
  pub long_slots : length slots ≡ 256
  -- while it takes segments
  pub body : taking state ≡ true → Body terms.maximum_message_octets held lengths slots end_sequence stated count store acc
  -- outside Receiving and Complete nothing is held
  pub empty : receiving_or_complete state ≡ false → (s : ℕ) → s < 256 → marked held s ≡ false
  -- before the Begin nothing was accepted
  pub unaccepted : awaiting state ≡ true → acc ≡ []
  -- before Complete nothing was handed over, in Complete the message of all that was accepted, and never two
  pub unhanded : complete state ≡ false → taking state ≡ true → handed ≡ []
  pub handed_all : complete state ≡ true → HandedOf acc handed
  pub once : length handed ≤ 1
  pub right : AllOfAccepted handed

-- of what calls left, t being the terms that try_new was given
abbrev pub InvOf : Terms → Left → Type 0
InvOf t w =
    let r = w.receiver in
    let p = r.progress in
    Inv t r.terms p.state r.held r.lengths r.slots p.end_sequence p.message_length p.stored_octets w.store w.accepted w.handed

-- the first that is handed over
handed_one : (h : HandOver) (hs : List HandOver) → hs ≡ [] → HandedOf h.accepted (h ∷ hs)
handed_one h hs e = record { count = h.count; message = h.message; is = ap {B = List HandOver} (λ (l : List HandOver). h ∷ l) e }

-- ---- records with nothing held

-- 256 empty slots
pub empty_slots_lem : length empty_slots ≡ 256
unfolding empty_slots
empty_slots_lem = length-replicate 256 no_slot

-- 256 lengths of 0
pub empty_lengths_lem : length empty_lengths ≡ 256
unfolding empty_lengths
empty_lengths_lem = length-replicate {A = ℕ} 256 0

-- a closed receiver neither awaits the Begin, nor is Receiving, nor Complete
pub shut : (s : ReceiverState) → taking s ≡ false → (awaiting s ≡ false) × (receiving s ≡ false) × (complete s ≡ false)
shut AwaitingBegin e = absurd (false≢true (sym e))
shut Receiving e = absurd (false≢true (sym e))
shut Complete e = absurd (false≢true (sym e))
shut (Failed n) e = (refl, refl, refl)
shut Expired e = (refl, refl, refl)
shut Canceled e = (refl, refl, refl)

-- an open one takes segments
pub open_takes : (s : ReceiverState) → receiving_or_complete s ≡ true → taking s ≡ true
open_takes AwaitingBegin e = refl
open_takes Receiving e = refl
open_takes Complete e = refl
open_takes (Failed n) e = e
open_takes Expired e = e
open_takes Canceled e = e

-- closed: what was handed over stays, and nothing is held
closed_inv : (t : Terms) (w : Left) → InvOf t w → (s : ReceiverState) → taking s ≡ false → (z : Option ℕ) (n : Option ℕ) (store : List ℕ)
    → Inv t w.receiver.terms s no_marks empty_lengths empty_slots z n 0 store w.accepted w.handed
closed_inv t w I s f z n store = record {
  same = I.same;
  long_lengths = empty_lengths_lem;
  long_slots = empty_slots_lem;
  body = λ e. never _ f e;
  empty = λ e i h. marked_none i;
  unaccepted = λ e. never _ (shut s f).0 e;
  unhanded = λ c e. never _ f e;
  handed_all = λ e. never _ (shut s f).2 e;
  once = I.once;
  right = I.right;
}

-- ---- receive

module _ (interval : ℕ) (t : Terms) (w : Left) (I : InvOf t w) (a : Arrival) (o : List ℕ) (seq : sequence a < 256) where
  abbrev Next : Step → Type 0
  Next st = InvOf t (taken w (receive a o) st)

  abbrev r : Receiver
  r = w.receiver

  -- the end at which the slots are full
  ends : (z : Option ℕ) → full_with r.held (sequence a) z ≡ true → (e : ℕ) × (z ≡ Some e) × (full_with r.held (sequence a) (Some e) ≡ true)
  ends None e = absurd (false≢true e)
  ends (Some n) e = (n, refl, e)

  module _ (A : Admitted r a w.store o) where
    -- the body before the call
    B : BodyOf r w.store w.accepted
    B = I.body A.takes

    -- a repeat
    repeated : marked r.held (sequence a) ≡ true → Next (settle interval repeats r a w.store o)
    repeated e =
        let f = held_found r.held r.lengths r.slots w.store (sequence a) (find (sequence a) w.accepted) (B.holds (sequence a) seq) e in
        simp (f, and-false) I

    module _ (N : New r a) where
      abbrev next : Receiver
      next = kept r a Receiving r.progress.deadline_monotonic_ms

      abbrev store' : List ℕ
      store' = sets w.store (slot_octets * sequence a) a.octets

      -- none was accepted with its number
      unfound : find (sequence a) w.accepted ≡ None
      unfound = free_absent r.held r.lengths r.slots w.store (sequence a) (find (sequence a) w.accepted) (B.holds (sequence a) seq) N.free

      -- the body with the segment
      grown : BodyOf next store' (brought a ∷ w.accepted)
      grown =
          body' B a I.long_lengths I.long_slots A.room seq A.short N.free N.fits
          (λ e. not-false _ (or_right (eqb (sequence a) 0 || other_end r.progress.end_sequence (sequence a)) _ (and_rest _ _ N.in_place e))) N.inside N.agrees
          N.stated_fits N.not_passed

      -- still 256 lengths
      long_lengths' : length next.lengths ≡ 256
      long_lengths' = length-set r.lengths (sequence a) (length a.octets) ∙ I.long_lengths

      -- and 256 slots
      long_slots' : length next.slots ≡ 256
      long_slots' = length-set r.slots (sequence a) (record { kind = kind a }) ∙ I.long_slots

      -- a segment that is held
      stored : Next (settle interval keeps r a w.store o)
      stored = rw unfound (record {
        same = I.same;
        long_lengths = long_lengths';
        long_slots = long_slots';
        body = λ e. grown;
        empty = λ e. absurd (false≢true (sym e));
        unaccepted = λ e. absurd (false≢true e);
        unhanded = λ c e. I.unhanded N.unfinished A.takes;
        handed_all = λ e. absurd (false≢true e);
        once = I.once;
        right = I.right;
      })

      -- and that completes the message
      finished : states_other (stated_with r a) (count_with r a) ≡ false → fills r a ≡ true → Next (settle interval finishes r a w.store o)
      finished right e =
          let l = ends (end_with r a) e in
          let h = of_accepted grown l.0 l.1 (full_after r.held (sequence a) l.0 (grown.ended l.0 l.1).0 l.2) right o A.output_room in
          let z = I.unhanded N.unfinished A.takes in
          rw unfound (record {
            same = I.same;
            long_lengths = long_lengths';
            long_slots = long_slots';
            body = λ e. grown;
            empty = λ e. absurd (false≢true (sym e));
            unaccepted = λ e. absurd (false≢true e);
            unhanded = λ c e. absurd (false≢true (sym c));
            handed_all = λ e. handed_one _ w.handed z;
            once = omega (arith, ap length z);
            right = (h, I.right);
          })

  -- a reception that fails
  failed : (st : Stage) (s : Status) → Next (settle interval (fails st s) r a w.store o)
  failed before s = closed_inv t w I (Failed s) refl _ _ _
  failed begun s = closed_inv t w I (Failed s) refl _ _ _
  failed noted s = closed_inv t w I (Failed s) refl _ _ _
  failed keeping s = closed_inv t w I (Failed s) refl _ _ _

  -- receive keeps it
  pub receive_inv : InvOf t (then (step_of interval) w (receive a o))
  receive_inv =
      by_receive Next interval r a w.store o (λ n e. I) (λ A. closed_inv t w I Expired refl _ _ _) I
      (λ A. by_rules (λ out. Next (settle interval out r a w.store o)) r a w.store (λ st s n. failed st s) (repeated A) I (finished A) (λ N e. stored A N))

-- ---- advance, cancel and release

module _ (interval : ℕ) (t : Terms) (w : Left) (I : InvOf t w) (now' : ℕ) where
  -- advance keeps it
  pub advance_inv : InvOf t (then (step_of interval) w (advance now'))
  advance_inv = by_advance (λ st. InvOf t (taken w (advance now') st)) w.receiver w.store now' (λ n e. I) (λ K b p e f. fired b p)
    where
      fired : (b p : Bool) → InvOf t (taken w (advance now') (fires b p w.receiver w.store now'))
      fired false p = I
      fired true true = closed_inv t w I Expired refl _ _ _
      fired true false = I

  -- cancel keeps it
  pub cancel_inv : InvOf t (then (step_of interval) w (cancel now'))
  cancel_inv = by_cancel (λ st. InvOf t (taken w (cancel now') st)) w.receiver w.store now' (λ n e. I) (λ K s. closed_inv t w I Canceled refl _ _ _)

  -- release keeps it
  pub release_inv : InvOf t (then (step_of interval) w (release now'))
  release_inv = by_release (λ st. InvOf t (taken w (release now') st)) w.receiver w.store now' (λ n e. I) (λ K s. closed_inv t w I Canceled refl _ _ _)

-- each call keeps it
pub then_inv : (interval : ℕ) (t : Terms) (w : Left) (c : Call) → FitsTypes c → InvOf t w → InvOf t (then (step_of interval) w c)
then_inv interval t w (receive a o) h I = receive_inv interval t w I a o h
then_inv interval t w (advance n) h I = advance_inv interval t w I n
then_inv interval t w (cancel n) h I = cancel_inv interval t w I n
then_inv interval t w (release n) h I = release_inv interval t w I n

-- and every list of calls
pub after_inv : (interval : ℕ) (t : Terms) (w : Left) (cs : List Call) → AllFitTypes cs → InvOf t w → InvOf t (after (step_of interval) w cs)
after_inv interval t w [] h I = I
after_inv interval t w (c ∷ cs) h I = after_inv interval t (then (step_of interval) w c) cs h.1 (then_inv interval t w c h.0 I)

-- ---- try_new

-- where try_new refuses nothing, its record is the empty one
pub made_is : (t : Terms) (made : ℕ) → (try_new_of t made).refused ≡ None → (try_new_of t made).receiver ≡ empty t AwaitingBegin made
made_is t made e = ap (λ (m : Made). m.receiver) (makes t made e)

-- the empty record has it
fresh_inv : (t : Terms) (made : ℕ) (store : List ℕ) → InvOf t (start (empty t AwaitingBegin made) store)
unfolding total
fresh_inv t made store = record {
  same = refl;
  long_lengths = empty_lengths_lem;
  long_slots = empty_slots_lem;
  body = λ e. record {
    holds = λ s h. marked_none s;
    small = λ s x f. absurd (false≢true (ap absent (sym f)));
    in_range = λ s x f. absurd (false≢true (ap absent (sym f)));
    counts = refl;
    bounded = omega arith;
    sums = sum_to_zero 256 (held_length no_marks empty_lengths) (λ i h. rw (marked_none i));
    ended = λ e f. absurd (let z : ◌≡◌ {A = ℕ} 0 1 = cc in omega arith);
    within = λ e f s l h. marked_none s;
    stating = λ s x f n g. absurd (false≢true (ap absent (sym f)));
    stated_by = λ n f. absurd (let z : ◌≡◌ {A = ℕ} 0 1 = cc in omega arith);
    stated_fits = refl;
    not_passed = refl;
  };
  empty = λ e s h. marked_none s;
  unaccepted = λ e. refl;
  unhanded = λ c e. refl;
  handed_all = λ e. absurd (false≢true e);
  once = omega arith;
  right = tt;
}

-- the record of a try_new that refuses nothing has it, with any store
pub start_inv : (t : Terms) (made : ℕ) → (try_new_of t made).refused ≡ None → (store : List ℕ) → InvOf t (start (try_new_of t made).receiver store)
start_inv t made e store = subst (λ (z : Receiver). InvOf t (start z store)) (sym (made_is t made e)) (fresh_inv t made store)

-- every list of calls on a receiver that try_new gave leaves what the first half of the demand says
pub after_the_list : (interval : ℕ) → FirstHalf try_new_of (step_of interval)
after_the_list interval t made e store cs h =
    let w = after (step_of interval) (start (try_new_of t made).receiver store) cs in
    let I = after_inv interval t (start (try_new_of t made).receiver store) cs h (start_inv t made e store) in
    let m : w.receiver.terms.maximum_message_octets ≡ t.maximum_message_octets = ap (λ (z : Terms). z.maximum_message_octets) I.same in
    record {
      holds = λ f s l. holds_at w.receiver w.store s (find s w.accepted) ((I.body (open_takes w.receiver.progress.state f)).holds s l);
      counts = λ f. (I.body (open_takes w.receiver.progress.state f)).counts;
      within = λ f. omega (arith, m, (I.body (open_takes w.receiver.progress.state f)).bounded);
      holds_none = I.empty;
      hands_over_once = I.once;
      messages = I.right;
    }
