-- No section begins over the octets of another: what the program does with the receiver of a section that has ended leaves a receiver that is
-- closed and, where it took segments, a store whose first 65,280 octets are 0. It holds of every receiver whose numbers fit their types and that
-- is none of 62's, with anything behind it in the memory, and of every store that is long enough; the refill with A5 has no part in it. None
-- of the refusals 60, 62, 33 and 38 can come, since the reading is the record's own. Assumes nothing.
use Prim.Native.Nat.{ℕ, ◌≤◌, ◌<◌}
use mathlib.Core.Path.{◌≡◌, refl, sym, ap, ap₂, ◌∙◌, subst}
use mathlib.Core.Bool.{Bool, true, false, cond, not, ◌&&◌, ◌||◌, true≢false}
use mathlib.Core.Logic.{⊎_elim}
use mathlib.Core.List.{List, [], ◌++◌}
use Rattle.std.specs.Prelude.{Option, Some, None}
use native.Mathlib.Omega.{arith}
use borrow.Author.Tests.{le-ltb, eqb-true, not-true, not-false}
use lib.Dec.{eqb}
use lib.ListN.{length, get_or, replicate, length-append}
use Rattle.octets.specs.Laws.{le_or_lt}
use Rattle.octets.specs.Octets.{same_octets, wiped_whole, same_refl}
use Rattle.words.specs.Marks.{marked, all_below}
use Rattle.words.specs.declared.Words.{Words}
use Rattle.words.specs.Laws.{marked_none, marked_past}
use Rattle.words.specs.Search.{all_below_true}
use Rattle.tsar.specs.Rows.{refusal, refusal_pass, any_none}
use Rattle.receiver.specs.declared.ReceiverState.{ReceiverState}
use Rattle.receiver.specs.declared.ReceiverState.TheVariants.{AwaitingBegin, Receiving, Complete, Failed, Expired, Canceled}
use Rattle.receiver.specs.declared.Receiver.{Receiver}
use Rattle.receiver.specs.Record.{taking, awaiting, receiving, complete, receiving_or_complete, running, store_octets, sum_to, held_length, wiped, faults, impossible, closed}
use Rattle.receiver.specs.Answers.{Step}
use Rattle.receiver.specs.Advance.{cancel_after}
use Rattle.receiver.proofs.HeldSums.{sum_bound}
use Rattle.receiver.proofs.Closing.{releases, cancels}
use Rattle.image.specs.Spelling.{spelled_ok}
use Rattle.receiver_image.specs.Heads.{head_image}
use Rattle.receiver_image.specs.Images.{image_of, record_of, ReceiverFits, receiver_layout}
use Rattle.receiver_answers.specs.Answers.{no_octets}
use Rattle.receiver_c.specs.Calls.{Call, spelled_by, step_call, closing_tests, cancel_call, release_call}
use Rattle.receiver_c.specs.Laws.{cancel_passed, release_passed}
use Rattle.report.specs.declared.outcome.Event.TheVariants.{BadLine}
use Rattle.report.specs.declared.outcome.Told.{Told}
use Rattle.report.specs.Outcome.{noted, ended}
use Rattle.bench.specs.Closing.{unchanged, closing_by, closing_call_of, close_call, Closed, LeavesClosed, zeros, leaves_zeros, left_to}

-- ---- a receiver that takes no segments is closed already: 62 tells the rest

not_holding : (s : ReceiverState) → taking s ≡ false → (receiving_or_complete s ≡ false) × (receiving s ≡ false)
not_holding AwaitingBegin e = absurd (true≢false e)
not_holding Receiving e = absurd (true≢false e)
not_holding Complete e = absurd (true≢false e)
not_holding (Failed s) e = (refl, refl)
not_holding Expired e = (refl, refl)
not_holding Canceled e = (refl, refl)

-- the second of two tests, where both do not hold and the first does
second_fails : (a b : Bool) → a ≡ false → (not a && b) ≡ false → b ≡ false
second_fails true b e h = absurd (true≢false e)
second_fails false b e h = h

not_running : (d : Option ℕ) → running d ≡ false → d ≡ None
not_running None e = refl
not_running (Some t) e = absurd (true≢false e)

unheld : (held : Words) → all_below 256 (λ t. not (marked held t)) ≡ true → (s : ℕ) → marked held s ≡ false
unheld held e s =
    ⊎_elim
    (λ (h : 256 ≤ s). marked_past held s h)
    (λ (h : s < 256). not-true (marked held s) (all_below_true 256 (λ t. not (marked held t)) e s h))
    (le_or_lt 256 s)

-- a sum over slots of which none is held
sum_unheld : (held : Words) (lengths : List ℕ) → ((s : ℕ) → marked held s ≡ false) → sum_to 256 (held_length held lengths) ≡ 0
sum_unheld held lengths h =
    let each : (t : ℕ) → t < 256 → held_length held lengths t ≤ 0 = λ t l. subst (λ (b : Bool). cond b (get_or lengths t 0) 0 ≤ 0) (sym (h t)) (omega arith) in
    omega (arith, sum_bound 256 0 (held_length held lengths) each)

already_closed : (r : Receiver) → impossible r ≡ false → taking r.progress.state ≡ false → Closed r
unfolding impossible
already_closed r ok e =
    let s = not_holding r.progress.state e in
    let none_held : (t : ℕ) → marked r.held t ≡ false =
    unheld r.held (not-false _ (second_fails (receiving_or_complete r.progress.state) _ s.0 (any_none (faults r) ok 3))) in
    record {
      takes_none = e;
      holds_none = none_held;
      counts_none = eqb-true _ _ (not-false _ (any_none (faults r) ok 1)) ∙ sum_unheld r.held r.lengths none_held;
      waits_not = not_running _ (second_fails (receiving r.progress.state) _ s.1 (any_none (faults r) ok 6));
    }

-- ---- one that takes segments: at its own last reading no row holds but that of the state (receiver's proofs/Closing)

-- what is left then
leaves : (r : Receiver) (memory store : List ℕ) (n : ℕ) → taking r.progress.state ≡ true → LeavesClosed r store (step_call no_octets memory [] (cancel_after None r store n))
leaves r memory store n e =
    record {
      done = refl;
      left = closed r Canceled n;
      spelled = refl;
      closed = record { takes_none = refl; holds_none = marked_none; counts_none = refl; waits_not = refl };
      wipes = λ f. refl;
      keeps = λ f. absurd (true≢false (sym e ∙ f));
    }

-- ---- the memory

module _ (r : Receiver) (fits : ReceiverFits r) (rest : List ℕ) where
  -- a receiver was made
  made : eqb (get_or (image_of r ++ rest) 0 0) 0 ≡ false
  unfolding image_of head_image
  made = refl

  reads_back : record_of (image_of r ++ rest) ≡ r
  reads_back = receiver_layout.back r fits rest

  -- the exports' own tests pass
  tested : refusal (closing_tests (image_of r ++ rest)) ≡ None
  tested =
      let a = length-append (image_of r) rest in
      let b = receiver_layout.wide r fits in
      refusal_pass (closing_tests (image_of r ++ rest)) (le-ltb (length (image_of r ++ rest)) 3931 (omega arith), (ap not (spelled_ok receiver_layout r fits rest), tt))

  still_spelled : spelled_by (image_of r ++ rest) ≡ Some r
  unfolding spelled_by
  still_spelled = ap (λ (b : Bool). cond b (Some (record_of (image_of r ++ rest))) None) (spelled_ok receiver_layout r fits rest) ∙ ap Some reads_back

  -- nothing is done with a receiver that takes no segments
  stays : (store : List ℕ) → impossible r ≡ false → taking r.progress.state ≡ false → LeavesClosed r store (unchanged (image_of r ++ rest) store)
  stays store ok e =
      record {
        done = refl;
        left = r;
        spelled = still_spelled;
        closed = already_closed r ok e;
        wipes = λ f. absurd (true≢false (sym f ∙ e));
        keeps = λ f. refl;
      }

  closing_is : (store : List ℕ) → close_call (image_of r ++ rest) store ≡ closing_call_of r (image_of r ++ rest) store
  unfolding close_call
  closing_is store =
      ap (λ (b : Bool). cond b (unchanged (image_of r ++ rest) store) (closing_call_of (record_of (image_of r ++ rest)) (image_of r ++ rest) store)) made
      ∙ ap (λ (x : Receiver). closing_call_of x (image_of r ++ rest) store) reads_back

  -- the call of a step that is not refused
  steps : (store : List ℕ) (n : ℕ) (z : Step) (c : Call) → taking r.progress.state ≡ true → z ≡ cancel_after None r store n → step_call no_octets (image_of r ++ rest) [] z ≡ c
      → LeavesClosed r store c
  steps store n z c e d q =
      subst (LeavesClosed r store) (ap (step_call no_octets (image_of r ++ rest) []) (sym d) ∙ q) (leaves r (image_of r ++ rest) store n e)

  module _ (store : List ℕ) (ok : impossible r ≡ false) (room : store_octets ≤ length store) where
    canceled_left : taking r.progress.state ≡ true → (awaiting r.progress.state || receiving r.progress.state) ≡ true
        → LeavesClosed r store (cancel_call (image_of r ++ rest) store r.progress.last_monotonic_ms)
    canceled_left e d = steps store _ _ _ e (cancels r store _ room ok (omega arith) d) (cancel_passed (image_of r ++ rest) store r.progress.last_monotonic_ms r tested (sym reads_back))

    released_left : taking r.progress.state ≡ true → complete r.progress.state ≡ true
        → LeavesClosed r store (release_call (image_of r ++ rest) store r.progress.last_monotonic_ms)
    released_left e d = steps store _ _ _ e (releases r store _ room ok (omega arith) d) (release_passed (image_of r ++ rest) store r.progress.last_monotonic_ms r tested (sym reads_back))

    by_state : (s : ReceiverState) → r.progress.state ≡ s → LeavesClosed r store (closing_by s (image_of r ++ rest) store r.progress.last_monotonic_ms)
    by_state AwaitingBegin e = canceled_left (ap taking e) (ap (λ (s : ReceiverState). awaiting s || receiving s) e)
    by_state Receiving e = canceled_left (ap taking e) (ap (λ (s : ReceiverState). awaiting s || receiving s) e)
    by_state Complete e = released_left (ap taking e) (ap complete e)
    by_state (Failed s) e = stays store ok (ap taking e)
    by_state Expired e = stays store ok (ap taking e)
    by_state Canceled e = stays store ok (ap taking e)

-- ---- the law

pub section_closed : (r : Receiver) → ReceiverFits r → impossible r ≡ false → (rest store : List ℕ) → store_octets ≤ length store
    → LeavesClosed r store (close_call (image_of r ++ rest) store)
section_closed r fits ok rest store room =
    subst (LeavesClosed r store) (sym (closing_is r fits rest store)) (by_state r fits rest store ok room r.progress.state refl)

-- so nothing is said of it, where the store has 65,280 octets and is 0 throughout if the receiver was closed before

wiped_zeros : (store : List ℕ) → length store ≡ store_octets → wiped store ≡ zeros
unfolding zeros
wiped_zeros store e = wiped_whole store_octets store (omega arith) ∙ ap (λ (n : ℕ). replicate n 0) e

pub nothing_said : (t : Told) (r : Receiver) → ReceiverFits r → impossible r ≡ false → (rest store : List ℕ) → length store ≡ store_octets
    → (taking r.progress.state ≡ false → store ≡ zeros) → left_to t (image_of r ++ rest) store ≡ t
nothing_said t r fits ok rest store e h =
    let c : Call = close_call (image_of r ++ rest) store in
    let l : LeavesClosed r store c = section_closed r fits ok rest store (omega arith) in
    let left_zeros : c.store ≡ zeros = by_taking c l (taking r.progress.state) refl in
    let found : leaves_zeros c ≡ true = ap₂ (λ (n : ℕ) (x : List ℕ). eqb n 0 && same_octets x zeros) l.done left_zeros ∙ same_refl zeros in
    ap₂ (λ (x y : Bool). cond x t (cond y t (ended (noted t BadLine)))) (made r fits rest) found
  where
    by_taking : (c : Call) → LeavesClosed r store c → (b : Bool) → taking r.progress.state ≡ b → c.store ≡ zeros
    by_taking c l true q = l.wipes q ∙ wiped_zeros store e
    by_taking c l false q = l.keeps q ∙ h q
