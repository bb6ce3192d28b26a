-- Document 02, 2026-07, what a release does and leaves: 'it wipes the store, empties slots and count as cancelling does, takes the reading, leaves the
-- state Canceled and answers as cancel does. Repeats after it get Closed.' When calls allow it; what it leaves; that every receive after it is refused
-- and changes nothing, with 38 where document 01's tests before 38 pass; and that the store stays wiped whatever calls follow. Its refusals and their
-- order are in receiver's proofs/Closing. Laws; they assume nothing.
use Rattle.std.specs.Prelude.{ℕ, ◌≤◌, ◌<◌, ◌≡◌, refl, List, [], ◌∷◌, Bool, true, false, cond, not, ◌&&◌, ◌||◌, length, get_or, eqb, leb, Option, Some, None}
use Rattle.std.proofs.Common.{sym, ◌∙◌, subst, arith, le-ltb, eq-eqb, le-leb}
use Rattle.std.proofs.Math.Path.{ap}
use Rattle.std.proofs.lemmas.Bool.{false≢true, not-false}
use Rattle.std.proofs.Math.Bool.{and-false}
use Rattle.octets.specs.Octets.{length_wiped, get_d_wiped}
use Rattle.words.specs.Marks.{marked, no_marks}
use Rattle.words.specs.Laws.{marked_none}
use Rattle.words.specs.Search.{all_below_all}
use Rattle.link.specs.Profile.{known_profile}
use Rattle.tsar.specs.Writing.{codec_rows}
use Rattle.tsar.specs.Rows.{Refusal, refusal, test, or_else, refusal_none, refusal_pass, refusal_append, any_pass, any_none}
use Rattle.receiver.specs.declared.ReceiverState.{ReceiverState}
use Rattle.receiver.specs.declared.ReceiverState.TheVariants.{AwaitingBegin, Receiving, Complete, Failed, Expired, Canceled}
use Rattle.receiver.specs.declared.Terms.{Terms}
use Rattle.receiver.specs.declared.Receiver.{Receiver}
use Rattle.receiver.specs.Record.{interval_of, taking, awaiting, receiving, complete, receiving_or_complete, is_begin, kind_at, gap, past_end, held_length, empty_lengths, store_octets, wiped, closed, faults, impossible}
use Rattle.receiver.specs.Answers.{Step, answered, refuses}
use Rattle.receiver.specs.Receive.{Arrival, receive_rows, receive_after, receive_of}
use Rattle.receiver.specs.Advance.{try_new_of, cancel_after, cancel_of, release_of}
use Rattle.receiver.proofs.Closing.{releases, cancels}
use Rattle.delivery.specs.Calls.{Call, cancel, release, Left, start, step_of, ours, then, after, is_refused, AllFitTypes}
use Rattle.delivery.specs.Demand.{step_after}
use Rattle.delivery.specs.Lists.{never, sum_to_zero}
use Rattle.delivery.specs.Invariant.{shut, start_inv}
use Rattle.delivery.specs.Possible.{start_ready, after_both, profile_known, possible}
use Rattle.delivery.specs.Steps.{store_length}
use Rattle.delivery.specs.Rules.{Clocked, by_receive, by_cancel, by_release}
use Rattle.delivery.proofs.ProgressPasses.{◌⨾◌}
use Rattle.delivery.specs.Own.{own_interval, one_interval, one_interval_step, made_interval}
use Rattle.delivery.proofs.ProgressReleased.{stays_closed, stay_closed}
use Rattle.delivery.proofs.Wiping.{wipes, stores_stay, clean_then, closed_store}
use Rattle.delivery.specs.AfterRelease.{Before38, IsClosed, Released, giving_up, GivenUp}

-- the rows before the first that gives 38, and those from it on
abbrev before38 : List (Bool × Refusal) → List (Bool × Refusal)
before38 [] = []
before38 (x ∷ xs) = cond (eqb x.1.0 38) [] (x ∷ before38 xs)

abbrev from38 : List (Bool × Refusal) → List (Bool × Refusal)
from38 [] = []
from38 (x ∷ xs) = cond (eqb x.1.0 38) (x ∷ xs) (from38 xs)

module _ (interval : ℕ) (r : Receiver) (a : Arrival) (store out : List ℕ) (f : taking r.progress.state ≡ false) where
  closed_refuses : (n : Refusal) × (receive_of interval r a store out ≡ refuses n r store out)
  closed_refuses =
      by_receive (λ st. (n : Refusal) × (st ≡ refuses n r store out)) interval r a store out (λ n e. (n, refl)) (λ A. never _ f A.takes) ((37, 0), refl) (λ A. never _ f A.takes)

  with_38 : refusal (before38 (receive_rows interval r a store out)) ≡ None → receive_of interval r a store out ≡ refuses (38, 0) r store out
  unfolding receive_of
  with_38 e = ap (λ (v : Option Refusal). receive_after interval v r a store out) is_38
    where
      is_38 : refusal (receive_rows interval r a store out) ≡ Some (38, 0)
      is_38 =
          refusal_append (before38 (receive_rows interval r a store out)) (from38 (receive_rows interval r a store out))
          ∙ ap (λ (v : Option Refusal). or_else v (refusal (from38 (receive_rows interval r a store out)))) e
          ∙ rw f

  gets_38 : Before38 r a store out → receive_of interval r a store out ≡ refuses (38, 0) r store out
  gets_38 B =
      let c = refusal_none (codec_rows r.terms.version a.segment (length a.octets)) B.codec in
      with_38
      (refusal_pass (before38 (receive_rows interval r a store out))
      (le-ltb (length store) store_octets B.room
      ⨾ le-ltb _ _ B.long_enough
      ⨾ B.possible
      ⨾ le-ltb _ _ B.not_back
      ⨾ ap not B.same_peer
      ⨾ ap not B.same_protocol_lem
      ⨾ ap not (eq-eqb _ _ B.same_transaction)
      ⨾ c 0 ⨾ c 1 ⨾ c 2 ⨾ c 3 ⨾ c 4 ⨾ c 5
      ⨾ ap not (eq-eqb _ _ B.parsed)
      ⨾ tt))

  -- every receive at a closed receiver is so
  pub closed_to_all : IsClosed interval a r store out
  closed_to_all = record { number = closed_refuses.0; refused_with = closed_refuses.1; closed_38 = gets_38 }

-- a closed record of a known profile is none of 62's
pub closed_possible : (r : Receiver) (s : ReceiverState) → taking s ≡ false → known_profile r.terms.profile ≡ true → (now' : ℕ) → impossible (closed r s now') ≡ false
unfolding impossible
closed_possible r s f k now' =
    any_pass (faults (closed r s now'))
    (ap not (all_below_all 256 (λ t. leb (held_length no_marks empty_lengths t) 255) (λ t h. le-leb _ _ (none_long t)))
    ⨾ ap not (eq-eqb _ _ (sym (sum_to_zero 256 (held_length no_marks empty_lengths) (λ t h. rw (marked_none t)))))
    ⨾ le-ltb r.terms.maximum_message_octets 0 (omega arith)
    ⨾ ap (λ (b : Bool). not (receiving_or_complete s) && not b) (all_below_all 256 (λ t. not (marked no_marks t)) (λ t h. ap not (marked_none t))) ∙ and-false (not (receiving_or_complete s))
    ⨾ ap (λ (b : Bool). b && not (marked no_marks 0 && is_begin (kind_at (closed r s now') 0))) not_open
    ⨾ ap not (all_below_all 256 (λ t. not (past_end r.progress.end_sequence t && marked no_marks t)) (λ t h. none_past t))
    ⨾ and-false (not (receiving s))
    ⨾ ap (λ (b : Bool). b && gap no_marks r.progress.end_sequence) (shut s f).2
    ⨾ ap not k
    ⨾ tt)
  where
    none_long : (t : ℕ) → held_length no_marks empty_lengths t ≤ 255
    none_long t = rw (marked_none t) (omega arith)

    not_open : receiving_or_complete s ≡ false
    not_open = rw ((shut s f).1, (shut s f).2)

    none_past : (t : ℕ) → not (past_end r.progress.end_sequence t && marked no_marks t) ≡ true
    none_past t = rw (marked_none t) (ap not (and-false (past_end r.progress.end_sequence t)))

-- a record that is none of 62's is of a known profile
possible_known : (r : Receiver) → impossible r ≡ false → known_profile r.terms.profile ≡ true
unfolding impossible
possible_known r ok = not-false _ (any_none (faults r) ok 8)

-- ---- when a release is not refused

-- calls leave the store as long as it was
stores_length : (interval : ℕ) (w : Left) (cs : List Call) → length (after (step_of interval) w cs).store ≡ length w.store
stores_length interval w [] = refl
stores_length interval w (c ∷ cs) = stores_length interval (then (step_of interval) w c) cs ∙ store_length interval w.receiver w.store c

-- so a receiver that try_new gave and that any calls left Complete can be released, where its store had room, at a reading that isn't below the last
pub complete_releases : (interval : ℕ) (t : Terms) (made : ℕ) → (try_new_of t made).refused ≡ None → (store : List ℕ) → store_octets ≤ length store → (cs : List Call) → AllFitTypes cs
    → (now' : ℕ) → (after (step_of interval) (start (try_new_of t made).receiver store) cs).receiver.progress.last_monotonic_ms ≤ now'
    → complete (after (step_of interval) (start (try_new_of t made).receiver store) cs).receiver.progress.state ≡ true
    → is_refused (step_after (step_of interval) (after (step_of interval) (start (try_new_of t made).receiver store) cs) (release now')).answer ≡ false
complete_releases interval t made e store room cs f now' l c =
    let w₀ = start (try_new_of t made).receiver store in
    let w = after (step_of interval) w₀ cs in
    let b = after_both interval t w₀ cs f (start_inv t made e store) (start_ready t made e) in
    ap (λ (st : Step). is_refused st.answer)
    (releases w.receiver w.store now' (omega (arith, room, stores_length interval w₀ cs)) (possible t w b.0 b.1 (profile_known t made e)) l c)

-- a cancel that is not refused answers without a response and without a message
cancel_answers : (x : Receiver) (l : List ℕ) (n : ℕ) → is_refused (cancel_of x l n).answer ≡ false → answered None None ≡ (cancel_of x l n).answer
cancel_answers x l n = by_cancel (λ z. is_refused z.answer ≡ false → answered None None ≡ z.answer) x l n (λ k e f. absurd (false≢true (sym f))) (λ K s f. refl)

module _ (r : Receiver) (store : List ℕ) (now' : ℕ) where
  -- by what it leaves where it is not refused
  by_released : (P : Step → Type 0) → (Clocked r store now' → P (cancel_after None r store now')) → is_refused (release_of r store now').answer ≡ false → P (release_of r store now')
  by_released P g = by_release (λ z. is_refused z.answer ≡ false → P z) r store now' (λ n e f. absurd (false≢true (sym f))) (λ K s f. g K)

  pub release_leaves : is_refused (release_of r store now').answer ≡ false → Released r store now' (release_of r store now')
  release_leaves e =
      record {
        answers = by_released (λ z. (x : Receiver) (l : List ℕ) (n : ℕ) → is_refused (cancel_of x l n).answer ≡ false → z.answer ≡ (cancel_of x l n).answer) (λ K. cancel_answers) e;
        canceled = by_released (λ z. z.receiver.progress.state ≡ Canceled) (λ K. refl) e;
        emptied = let law = wipes 0 r store (release now') in law.empties (law.acts refl e);
        wiped_store = by_released (λ z. z.store ≡ wiped store) (λ K. refl) e;
      }

  module _ (interval : ℕ) (a : Arrival) (out : List ℕ) where
    -- every receive after it is refused and changes nothing
    pub released_refuses : is_refused (release_of r store now').answer ≡ false → IsClosed interval a (release_of r store now').receiver (release_of r store now').store out
    released_refuses = by_released (λ z. IsClosed interval a z.receiver z.store out) (λ K. closed_to_all interval (closed r Canceled now') a (wiped store) out refl)

    -- and a repeat gets Closed: whatever no test refused before the release, at a reading that isn't below the release's
    pub repeats_closed : refusal (receive_rows interval r a store out) ≡ None → now' ≤ a.reading → is_refused (release_of r store now').answer ≡ false
        → receive_of interval (release_of r store now').receiver a (release_of r store now').store out ≡ refuses (38, 0) (release_of r store now').receiver (release_of r store now').store out
    repeats_closed e l =
        by_released (λ z. receive_of interval z.receiver a z.store out ≡ refuses (38, 0) z.receiver z.store out)
        (λ K. with_38 interval (closed r Canceled now') a (wiped store) out refl (passes K))
      where
        t : (n : ℕ) → test (receive_rows interval r a store out) n ≡ false
        t = refusal_none (receive_rows interval r a store out) e

        passes : Clocked r store now' → refusal (before38 (receive_rows interval (closed r Canceled now') a (wiped store) out)) ≡ None
        passes K =
            refusal_pass (before38 (receive_rows interval (closed r Canceled now') a (wiped store) out))
            (le-ltb (length (wiped store)) store_octets (omega (arith, K.room, length_wiped store_octets store))
            ⨾ t 1
            ⨾ closed_possible r Canceled refl (possible_known r K.possible) now'
            ⨾ le-ltb _ _ l
            ⨾ t 4 ⨾ t 5 ⨾ t 6 ⨾ t 7 ⨾ t 8 ⨾ t 9 ⨾ t 10 ⨾ t 11 ⨾ t 12 ⨾ t 13
            ⨾ tt)

-- ---- lent on

-- after a release that is not refused, whatever calls come then, every octet of the store's slots is 0
pub released_store : (interval : ℕ) (w : Left) (now' : ℕ) → is_refused (release_of w.receiver w.store now').answer ≡ false → (cs : List Call) (i : ℕ) → i < store_octets
    → get_or (after (step_of interval) w (release now' ∷ cs)).store i 0 ≡ 0
released_store interval w now' e cs i h =
    let z = release_leaves w.receiver w.store now' e in
    ap (λ (l : List ℕ). get_or l i 0) (stores_stay interval (then (step_of interval) w (release now')) cs (ap taking z.canceled) ∙ z.wiped_store) ∙ get_d_wiped store_octets i w.store h

-- and every receive after it, whatever calls come between, is refused and changes nothing, with 38 where the tests before it pass
pub released_refuses_later : (interval : ℕ) (w : Left) (now' : ℕ) → is_refused (release_of w.receiver w.store now').answer ≡ false → (cs : List Call) (a : Arrival) (out : List ℕ)
    → IsClosed interval a (after (step_of interval) w (release now' ∷ cs)).receiver (after (step_of interval) w (release now' ∷ cs)).store out
released_refuses_later interval w now' e cs a out =
    let w₁ = then (step_of interval) w (release now') in
    let z = release_leaves w.receiver w.store now' e in
    let w₂ = after (step_of interval) w₁ cs in
    closed_to_all interval w₂.receiver a w₂.store out (stay_closed interval w₁ cs (ap taking z.canceled)).0

-- a receiver that can be neither canceled nor released is closed
neither_closed : (s : ReceiverState) → complete s ≡ false → (awaiting s || receiving s) ≡ false → taking s ≡ false
neither_closed AwaitingBegin c e = e
neither_closed Receiving c e = e
neither_closed Complete c e = c
neither_closed (Failed n) c e = refl
neither_closed Expired c e = refl
neither_closed Canceled c e = refl

-- after it, whatever calls were made since try_new, the receiver takes no segments and every octet of the store's slots is 0: where the store had room,
-- and at a reading that isn't below the last
pub given_up : (interval : ℕ) (t : Terms) (made : ℕ) → (try_new_of t made).refused ≡ None → (store : List ℕ) → store_octets ≤ length store → (cs : List Call) → AllFitTypes cs
    → (now' : ℕ) → (after (step_of interval) (start (try_new_of t made).receiver store) cs).receiver.progress.last_monotonic_ms ≤ now'
    → GivenUp (step_after (step_of interval) (after (step_of interval) (start (try_new_of t made).receiver store) cs) (giving_up (after (step_of interval) (start (try_new_of t made).receiver store) cs).receiver now'))
given_up interval t made e store room cs f now' l =
    let g = shuts (complete w.receiver.progress.state) (awaiting w.receiver.progress.state || receiving w.receiver.progress.state) refl refl in
    (g, clean_then interval w (giving_up w.receiver now') (closed_store interval t made e store cs) g)
  where
    w₀ : Left
    w₀ = start (try_new_of t made).receiver store

    w : Left
    w = after (step_of interval) w₀ cs

    fair : store_octets ≤ length w.store
    fair = omega (arith, room, stores_length interval w₀ cs)

    ok : impossible w.receiver ≡ false
    ok = let b = after_both interval t w₀ cs f (start_inv t made e store) (start_ready t made e) in possible t w b.0 b.1 (profile_known t made e)

    shuts : (b o : Bool) → complete w.receiver.progress.state ≡ b → (awaiting w.receiver.progress.state || receiving w.receiver.progress.state) ≡ o
        → taking (step_of interval w.receiver w.store (cond b (release now') (cancel now'))).receiver.progress.state ≡ false
    shuts true o p q = ap (λ (st : Step). taking st.receiver.progress.state) (releases w.receiver w.store now' fair ok l p)
    shuts false true p q = ap (λ (st : Step). taking st.receiver.progress.state) (cancels w.receiver w.store now' fair ok l q)
    shuts false false p q = (stays_closed interval w.receiver w.store (cancel now') (neither_closed w.receiver.progress.state p q)).0

-- ---- the same of ours

pub own_complete_releases : (t : Terms) (made : ℕ) → (try_new_of t made).refused ≡ None → (store : List ℕ) → store_octets ≤ length store → (cs : List Call) → AllFitTypes cs
    → (now' : ℕ) → (after ours (start (try_new_of t made).receiver store) cs).receiver.progress.last_monotonic_ms ≤ now'
    → complete (after ours (start (try_new_of t made).receiver store) cs).receiver.progress.state ≡ true
    → is_refused (step_after ours (after ours (start (try_new_of t made).receiver store) cs) (release now')).answer ≡ false
own_complete_releases t made e store room cs f now' l c =
    let n = own_interval t in
    let w₀ = start (try_new_of t made).receiver store in
    let A = one_interval n w₀ cs (made_interval t made e) in
    ap (λ (st : Step). is_refused st.answer) (one_interval_step n w₀ cs (release now') (made_interval t made e))
    ∙ complete_releases n t made e store room cs f now' (subst (λ (w : Left). w.receiver.progress.last_monotonic_ms ≤ now') A l)
    (sym (ap (λ (w : Left). complete w.receiver.progress.state) A) ∙ c)

module _ (w : Left) (now' : ℕ) (e : is_refused (release_of w.receiver w.store now').answer ≡ false) (cs : List Call) where
  abbrev left : Left
  left = after ours w (release now' ∷ cs)

  same_way : left ≡ after (step_of (interval_of w.receiver)) w (release now' ∷ cs)
  same_way = one_interval (interval_of w.receiver) w (release now' ∷ cs) refl

  pub own_released_store : (i : ℕ) → i < store_octets → get_or left.store i 0 ≡ 0
  own_released_store i h = ap (λ (v : Left). get_or v.store i 0) same_way ∙ released_store (interval_of w.receiver) w now' e cs i h

  pub own_released_refuses_later : (a : Arrival) (out : List ℕ) → IsClosed (interval_of left.receiver) a left.receiver left.store out
  own_released_refuses_later a out =
      closed_to_all (interval_of left.receiver) left.receiver a left.store out
      (ap (λ (v : Left). taking v.receiver.progress.state) same_way
      ∙ (stay_closed (interval_of w.receiver) (then (step_of (interval_of w.receiver)) w (release now')) cs (ap taking (release_leaves w.receiver w.store now' e).canceled)).0)

pub own_given_up : (t : Terms) (made : ℕ) → (try_new_of t made).refused ≡ None → (store : List ℕ) → store_octets ≤ length store → (cs : List Call) → AllFitTypes cs
    → (now' : ℕ) → (after ours (start (try_new_of t made).receiver store) cs).receiver.progress.last_monotonic_ms ≤ now'
    → GivenUp (step_after ours (after ours (start (try_new_of t made).receiver store) cs) (giving_up (after ours (start (try_new_of t made).receiver store) cs).receiver now'))
own_given_up t made e store room cs f now' l =
    let n = own_interval t in
    let w₀ = start (try_new_of t made).receiver store in
    let A = one_interval n w₀ cs (made_interval t made e) in
    subst GivenUp
    (ap (λ (w : Left). step_after (step_of n) (after (step_of n) w₀ cs) (giving_up w.receiver now')) (sym A)
    ∙ sym (one_interval_step n w₀ cs (giving_up (after ours w₀ cs).receiver now') (made_interval t made e)))
    (given_up n t made e store room cs f now' (subst (λ (w : Left). w.receiver.progress.last_monotonic_ms ≤ now') A l))
