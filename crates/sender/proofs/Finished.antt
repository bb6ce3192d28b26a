-- Document 02, 2026-09: 'senders finish them', of frozen plans under Exceptions. A sender of any plan under it, all of whose segments were queued and
-- accepted at try_new's reading, completes an interval after it, also one whose record has a planned plan; for any interval, then of ours at its own. A
-- profile that is known is asked for, as 62 does. Assumes nothing.
use Prim.Native.Nat.{ℕ, zero, suc, ◌+◌, ◌-◌, ◌^◌, ◌≤◌, ◌<◌}
use mathlib.Core.Path.{◌≡◌, refl, sym, ap, ◌∙◌, subst}
use mathlib.Core.List.{List, [], ◌∷◌}
use mathlib.Core.Bool.{Bool, true, false, cond, not, ◌&&◌, ◌||◌, true≢false}
use Rattle.std.specs.Prelude.{Option, Some, None}
use mathlib.Core.Logic.{⊎_elim}
use native.Mathlib.Omega.{arith}
use lib.ListN.{length}
use lib.Dec.{lit≤, eqb, ltb}
use borrow.Author.Tests.{ltb-true, lt-ltb, le-ltb, le-leb, lt-leb, eq-eqb, ne_eqb}
use Rattle.octets.specs.Laws.{le_or_lt}
use Rattle.words.specs.Marks.{marked, sum_below, words_of, no_marks, all_below, lowest_of}
use Rattle.words.specs.Laws.{marked_none, marked_words_of}
use Rattle.words.specs.Search.{all_below_all, lowest_at, lowest_none}
use Rattle.words.specs.declared.Words.{Words}
use Rattle.link.specs.Peer.{identity_refused, protocol_served}
use Rattle.link.specs.Profile.{known_profile, sender_interval}
use Rattle.link.specs.declared.HigherLayerProtocol.TheVariants.{Segmented}
use Rattle.tsar.specs.Rows.{Refusal, refusal, refusal_pass}
use Rattle.tsar.specs.Kinds.{prohibited}
use Rattle.tsar.specs.declared.AcknowledgmentWindow.{AcknowledgmentWindow}
use Rattle.tsar.specs.declared.AcknowledgmentWindow.TheVariants as window
use Rattle.segmentation.specs.Frozen.{Proposal, frozen_refusal, frozen_of}
use Rattle.segmentation.specs.Accepted.{accepted_iff}
use Rattle.segmentation.proofs.Retired.{exceptions_train, exceptions_accepted}
use Rattle.sender.specs.declared.Plan.{Plan}
use Rattle.sender.specs.declared.Terms.{Terms}
use Rattle.sender.specs.declared.Outline.{Outline}
use Rattle.sender.specs.declared.Progress.{Progress}
use Rattle.sender.specs.declared.Sender.{Sender}
use Rattle.sender.specs.declared.Completion.TheVariants.{ExceptionIntervalElapsed}
use Rattle.sender.specs.declared.SenderState.TheVariants.{Prepared, AwaitingAccept, AwaitingResponse, Complete}
use Rattle.sender.specs.Record.{awaits_response, due, needs, has_pending, next_pending, plan_count, plan_window, outline, outline_of, interval_of, impossible}
use Rattle.sender.specs.Steps.{advanced, sets_deadline, counted_as, accepted_next}
use Rattle.sender.specs.Calls.{Answer, answered, Step, Turn, refuses, left, or_tickets, on_refusal, advanced_to, submitted_rows, count_rows, counting, submitting, submitted_in, submitted_of, word_rows, after_advance, accepted_in, accepted_of, advance_in, advance_of}
use Rattle.sender.specs.TryNew.{first_sender, try_new_of}
use Rattle.sender.specs.Pending.{pending_next}
use Rattle.sender.specs.Reached.{Standing, response_awaited}
use Rattle.sender.specs.CallList.{Call, advance, submitted, accepted, step_of, afterwards, answers, ReachedSender, standing_possible, first_reached, list_keeps}
use Rattle.sender.specs.Own.{ours, one_interval}
use Rattle.sender.proofs.Waiting.{waits_some, asked_sets}
use Rattle.sender.proofs.Retired.{frozen_plan, frozen_made}

-- ---- at the deadline

none_pending : (n : ℕ) (s w : Words) → next_pending n s w ≡ None → has_pending n s w ≡ false
none_pending n s w e = ap not (all_below_all n (λ i. not (needs s w i)) (λ i h. go i h (needs s w i) refl))
  where
    go : (i : ℕ) → i < n → (b : Bool) → needs s w i ≡ b → not b ≡ true
    go i h true q = absurd (pending_next n s w i h q e)
    go i h false q = refl

-- of any sender of a known profile that calls reach: in AwaitingResponse an advance to the deadline or past it completes it, unless 33 comes first; its ticket is one of
-- 64 bits
pub elapsed : (interval : ℕ) (s : Sender) (k : ℕ) → ReachedSender interval s → known_profile s.terms.profile ≡ true → plan_window s.plan ≡ window.Exceptions → s.progress.state ≡ AwaitingResponse
    → s.progress.last_monotonic_ms ≤ k → due s.progress.deadline_monotonic_ms k ≡ true → s.progress.last_ticket ≤ 2 ^ 64 - 1
    → (advance_of s k).answer ≡ answered (Complete ExceptionIntervalElapsed)
unfolding advance_of advance_in advanced
elapsed interval s k r c e a l d t =
    let o = outline s in
    let p = s.progress in
    let None = (response_awaited o.count o.acknowledgment_window p r.standing (ap awaits_response a)).1 in
    simp (standing_possible o p r.standing c, le-ltb k p.last_monotonic_ms l, a, d, e, none_pending o.count p.submitted p.retry None, le-ltb (2 ^ 64 - 1) p.last_ticket t)

-- ---- the marks once i segments were submitted

unfoldable submitted_to : ℕ → Words
submitted_to zero = no_marks
submitted_to (suc i) = words_of (λ j. eqb j i || marked (submitted_to i) j)

unfoldable retried_to : ℕ → Words
retried_to zero = no_marks
retried_to (suc i) = words_of (λ j. not (eqb j i) && marked (retried_to i) j)

unfoldable counted_to : ℕ → ℕ
counted_to zero = 0
counted_to (suc i) = counted_to i + 1

counted_is : (i : ℕ) → counted_to i ≡ i
unfolding counted_to
counted_is zero = refl
counted_is (suc i) = omega (arith, counted_is i)

one_more : (i j : ℕ) → (eqb j i || ltb j i) ≡ ltb j (suc i)
one_more i j =
    ⊎_elim (λ (l : suc j ≤ i). ap (λ (b : Bool). eqb j i || b) (lt-ltb j i l) ∙ ap (λ (b : Bool). b || true) (ne_eqb j i (λ e. omega arith)) ∙ sym (lt-ltb j (suc i) (omega arith)))
    (λ (l : i < suc j). ⊎_elim
    (λ (m : suc i ≤ j). ap (λ (b : Bool). b || ltb j i) (ne_eqb j i (λ e. omega arith)) ∙ le-ltb j i (omega arith) ∙ sym (le-ltb j (suc i) m))
    (λ (m : j < suc i). ap (λ (b : Bool). b || ltb j i) (eq-eqb j i (omega arith)) ∙ sym (lt-ltb j (suc i) m))
    (le_or_lt (suc i) j))
    (le_or_lt (suc j) i)

and_none : (b : Bool) → (b && false) ≡ false
and_none true = refl
and_none false = refl

submitted_is : (i j : ℕ) → j < 256 → marked (submitted_to i) j ≡ ltb j i
unfolding submitted_to
submitted_is zero j h = marked_none j ∙ sym (le-ltb j 0 (omega arith))
submitted_is (suc i) j h = marked_words_of (λ j. eqb j i || marked (submitted_to i) j) j h ∙ ap (λ (b : Bool). eqb j i || b) (submitted_is i j h) ∙ one_more i j

retried_none : (i j : ℕ) → j < 256 → marked (retried_to i) j ≡ false
unfolding retried_to
retried_none zero j h = marked_none j
retried_none (suc i) j h = marked_words_of (λ j. not (eqb j i) && marked (retried_to i) j) j h ∙ ap (λ (b : Bool). not (eqb j i) && b) (retried_none i j h) ∙ and_none (not (eqb j i))

needs_is : (i j : ℕ) → j < 256 → needs (submitted_to i) (retried_to i) j ≡ not (ltb j i)
needs_is i j h = ap (λ (b : Bool). not b || marked (retried_to i) j) (submitted_is i j h) ∙ ap (λ (b : Bool). not (ltb j i) || b) (retried_none i j h) ∙ or_false (not (ltb j i))
  where
    or_false : (b : Bool) → (b || false) ≡ b
    or_false true = refl
    or_false false = refl

-- the next one is pending, and none once all were submitted
next_is : (n i : ℕ) → n ≤ 256 → i < n → next_pending n (submitted_to i) (retried_to i) ≡ Some i
next_is n i m l =
    lowest_at (needs (submitted_to i) (retried_to i)) n i
    (record { within = l; holds = needs_is i i (omega arith) ∙ ap not (le-ltb i i (omega arith)); below = λ j h. needs_is i j (omega arith) ∙ ap not (lt-ltb j i h) })

next_none : (n : ℕ) → n ≤ 256 → next_pending n (submitted_to n) (retried_to n) ≡ None
next_none n m = lowest_none (needs (submitted_to n) (retried_to n)) n (λ j h. needs_is n j (omega arith) ∙ ap not (lt-ltb j n h))

-- ---- one segment

module _ (interval : ℕ) (positive : 0 < interval) (own : ℕ) (o : Outline) (known : known_profile o.profile ≡ true) (k : ℕ) (low : k + interval < 2 ^ 64) (asked : prohibited o.acknowledgment_window ≡ false) (least : 2 ≤ o.count) (most : o.count ≤ 256) where
  abbrev n : ℕ
  n = o.count

  abbrev w : AcknowledgmentWindow
  w = o.acknowledgment_window

  abbrev runs_from : ℕ → Option ℕ
  runs_from zero = None
  runs_from (suc i) = Some (k + interval)

  -- segment i is offered; it is with the lower layer; all are accepted
  abbrev offers : ℕ → Progress
  offers i =
      record {
        state = Prepared;
        current = Some (record { ticket = i; index = i; prepared_monotonic_ms = k });
        last_ticket = i;
        submitted = submitted_to i;
        retry = retried_to i;
        received = no_marks;
        deadline_monotonic_ms = runs_from i;
        last_monotonic_ms = k;
        layer3_submissions = counted_to i;
      }

  abbrev queued : ℕ → Progress
  queued i =
      record {
        state = AwaitingAccept;
        current = Some (record { ticket = i; index = i; prepared_monotonic_ms = k });
        last_ticket = i;
        submitted = submitted_to (suc i);
        retry = retried_to (suc i);
        received = no_marks;
        deadline_monotonic_ms = Some (k + interval);
        last_monotonic_ms = k;
        layer3_submissions = counted_to (suc i);
      }

  abbrev waits : ℕ → Progress
  waits i =
      record {
        state = AwaitingResponse;
        current = None;
        last_ticket = i;
        submitted = submitted_to (suc i);
        retry = retried_to (suc i);
        received = no_marks;
        deadline_monotonic_ms = Some (k + interval);
        last_monotonic_ms = k;
        layer3_submissions = counted_to (suc i);
      }

  not_due : due (Some (k + interval)) k ≡ false
  not_due = lt-leb (k + interval) k (omega arith)

  in_64 : (i : ℕ) → i < 256 → ltb (2 ^ 64 - 1) i ≡ false
  in_64 i h = le-ltb (2 ^ 64 - 1) i (omega arith)

  below : (i : ℕ) → i ≤ n → (j : ℕ) → j < 256 → marked (submitted_to i) j ≡ true → j < n
  below i l j h e = let z = ltb-true j i (sym (submitted_is i j h) ∙ e) in omega arith

  never : (i : ℕ) (j : ℕ) → j < 256 → marked (retried_to i) j ≡ true → j < n
  never i j h e = absurd (true≢false (sym e ∙ retried_none i j h))

  offers_stands : (i : ℕ) → i < n → Standing n w (offers i)
  offers_stands i l =
      record {
        least = least;
        most = most;
        marks = record { submitted_below = below i (omega arith); retry_below = never i; received_below = λ j h e. absurd (true≢false (sym e ∙ marked_none j)); received_submitted = λ j h e. absurd (true≢false (sym e ∙ marked_none j)) };
        stands = (_, refl, next_is n i most l, l);
      }

  queued_stands : (i : ℕ) → i < n → Standing n w (queued i)
  queued_stands i l =
      record {
        least = least;
        most = most;
        marks = record { submitted_below = below (suc i) l; retry_below = never (suc i); received_below = λ j h e. absurd (true≢false (sym e ∙ marked_none j)); received_submitted = λ j h e. absurd (true≢false (sym e ∙ marked_none j)) };
        stands = (_, refl, l, refl);
      }

  stays : (i : ℕ) → advanced_to o (queued i) k ≡ queued i
  unfolding advanced
  stays i = simp not_due

  owned : (i : ℕ) → (eqb own own && eqb i i) ≡ true
  owned i = simp (eq-eqb own own refl, eq-eqb i i refl)

  sets : (i : ℕ) → sets_deadline n w (offers i) ≡ true
  sets i = asked_sets n w (offers i) asked

  -- queued
  counts : (i : ℕ) → i < n → counting interval n w (offers i) k k ≡ left (queued i)
  unfolding submitted_to retried_to counted_to
  counts i l =
      ap (λ (b : Bool). on_refusal (refusal (count_rows interval b (offers i) k)) (offers i) (left (advanced n w (counted_as interval b (offers i) k) k))) (sets i)
      ∙ ap (λ (r : Option Refusal). on_refusal r (offers i) (left (advanced_to o (queued i) k))) (refusal_pass (count_rows interval true (offers i) k) (le-ltb (2 ^ 64 - 1 - interval) k (omega arith), (le-ltb (2 ^ 64 - 2) (counted_to i) (omega (arith, counted_is i)), tt)))
      ∙ ap left (stays i)

  submits : (i : ℕ) → i < n → submitted_in interval own o (offers i) own i k k ≡ left (queued i)
  unfolding submitted_in
  submits i l =
      ap (λ (r : Option Refusal). or_tickets (offers i) (on_refusal r (offers i) (submitting interval o (offers i) k k)))
      (refusal_pass (submitted_rows own o (offers i) own i k k) (standing_possible o (offers i) (offers_stands i l) known, (le-ltb k k (omega arith), (refl, (ap not (owned i), (ap (λ (b : Bool). b || b) (le-ltb k k (omega arith)), tt))))))
      ∙ ap (λ (b : Bool). or_tickets (offers i) (cond (b && due (runs_from i) k) (refuses (44, 0) (advanced_to o (offers i) k)) (counting interval n w (offers i) k k))) asked
      ∙ ap (or_tickets (offers i)) (counts i l)
      ∙ ap (λ (b : Bool). cond b (refuses (63, 0) (offers i)) (left (queued i))) (in_64 i (omega arith))

  -- accepted
  word : (i : ℕ) → i < n → (next : Progress) → accepted_next n w (queued i) k ≡ next → next.last_ticket < 2 ^ 64 → accepted_in own o (queued i) own i k ≡ left next
  unfolding accepted_in
  word i l next e t =
      ap (λ (r : Option Refusal). or_tickets (queued i) (on_refusal r (queued i) (after_advance own own i (advanced_to o (queued i) k) (accepted_next n w (advanced_to o (queued i) k) k))))
      (refusal_pass (word_rows own o (queued i) own i k) (standing_possible o (queued i) (queued_stands i l) known, (le-ltb k k (omega arith), (refl, (ap not (owned i), tt)))))
      ∙ ap (λ (q : Progress). or_tickets (queued i) (after_advance own own i q (accepted_next n w q k))) (stays i)
      ∙ ap (λ (b : Bool). or_tickets (queued i) (cond b (left (accepted_next n w (queued i) k)) (refuses (42, 0) (queued i)))) (owned i)
      ∙ ap (λ (q : Progress). or_tickets (queued i) (left q)) e
      ∙ ap (λ (b : Bool). cond b (refuses (63, 0) (queued i)) (left next)) (le-ltb (2 ^ 64 - 1) next.last_ticket (omega arith))

  accepts : (i : ℕ) → suc i < n → accepted_in own o (queued i) own i k ≡ left (offers (suc i))
  accepts i l = word i (omega arith) (offers (suc i)) (simp (next_is n (suc i) most l)) (omega arith)

  accepts_last : (i : ℕ) → suc i ≡ n → accepted_in own o (queued i) own i k ≡ left (waits i)
  accepts_last i e = word i (omega arith) (waits i) (simp (nothing, asked)) (omega arith)
    where
      nothing : next_pending n (submitted_to (suc i)) (retried_to (suc i)) ≡ None
      nothing = subst (λ (m : ℕ). next_pending n (submitted_to m) (retried_to m) ≡ None) (sym e) (next_none n most)

-- ---- all of them, in order

-- m segments from i on are queued and accepted, at reading k
unfoldable pub sends : ℕ → ℕ → ℕ → ℕ → List Call
sends own k i zero = []
sends own k i (suc m) = submitted own i k k ∷ accepted own i k ∷ sends own k (suc i) m

module _ (interval : ℕ) (positive : 0 < interval) (t : Terms) (p : Plan) (known : known_profile t.profile ≡ true) (k : ℕ) (low : k + interval < 2 ^ 64) (asked : prohibited (plan_window p) ≡ false) (least : 2 ≤ plan_count p) (most : plan_count p ≤ 256) where
  abbrev holding : Progress → Sender
  holding q = record { terms = t; progress = q; plan = p }

  abbrev offering' : ℕ → Progress
  offering' = offers interval positive t.number (outline_of t.profile p) known k low asked least most

  abbrev queued' : ℕ → Progress
  queued' = queued interval positive t.number (outline_of t.profile p) known k low asked least most

  abbrev waiting' : ℕ → Progress
  waiting' = waits interval positive t.number (outline_of t.profile p) known k low asked least most

  submits_it : (i : ℕ) → i < plan_count p → (submitted_of interval (holding (offering' i)) t.number i k k).sender ≡ holding (queued' i)
  unfolding submitted_of
  submits_it i l = ap (λ (u : Turn). holding u.progress) (submits interval positive t.number (outline_of t.profile p) known k low asked least most i l)

  accepts_it : (i : ℕ) → suc i < plan_count p → (accepted_of (holding (queued' i)) t.number i k).sender ≡ holding (offering' (suc i))
  unfolding accepted_of
  accepts_it i l = ap (λ (u : Turn). holding u.progress) (accepts interval positive t.number (outline_of t.profile p) known k low asked least most i l)

  accepts_end : (i : ℕ) → suc i ≡ plan_count p → (accepted_of (holding (queued' i)) t.number i k).sender ≡ holding (waiting' i)
  unfolding accepted_of
  accepts_end i e = ap (λ (u : Turn). holding u.progress) (accepts_last interval positive t.number (outline_of t.profile p) known k low asked least most i e)

  sends_all : (m i : ℕ) → i + suc m ≡ plan_count p → afterwards (step_of interval) (holding (offering' i)) (sends t.number k i (suc m)) ≡ holding (waiting' (i + m))
  unfolding sends
  sends_all zero i e =
      ap (λ (s : Sender). (accepted_of s t.number i k).sender) (submits_it i (omega arith))
      ∙ accepts_end i (omega arith)
      ∙ ap (λ (j : ℕ). holding (waiting' j)) (omega arith)
  sends_all (suc m) i e =
      ap (λ (s : Sender). afterwards (step_of interval) (accepted_of s t.number i k).sender (sends t.number k (suc i) (suc m))) (submits_it i (omega arith))
      ∙ ap (λ (s : Sender). afterwards (step_of interval) s (sends t.number k (suc i) (suc m))) (accepts_it i (omega arith))
      ∙ sends_all m (suc i) (omega arith)
      ∙ ap (λ (j : ℕ). holding (waiting' j)) (omega arith)

  -- once each segment was queued and accepted, the sender awaits a response
  all_sent : afterwards (step_of interval) (first_sender t p k) (sends t.number k 0 (plan_count p)) ≡ holding (waiting' (plan_count p - 1))
  unfolding submitted_to retried_to counted_to
  all_sent =
      ap (λ (m : ℕ). afterwards (step_of interval) (first_sender t p k) (sends t.number k 0 m)) (let z : plan_count p ≡ suc (plan_count p - 1) = omega arith in z)
      ∙ sends_all (plan_count p - 1) 0 (omega arith)
      ∙ ap (λ (j : ℕ). holding (waiting' j)) (omega arith)

-- under Exceptions: it awaits a response until an interval after reading k, and an advance to that completes it
abbrev pub Finishes : ℕ → ℕ → Sender → Type 0
Finishes interval k s =
    (s.progress.state ≡ AwaitingResponse)
    × (s.progress.deadline_monotonic_ms ≡ Some (k + interval))
    × ((advance_of s (k + interval)).answer ≡ answered (Complete ExceptionIntervalElapsed))

-- so does a sender of any plan of 2 to 256 segments, planned ones too, and of a known profile, once each was queued and accepted at k
pub exceptions_complete : (interval : ℕ) → 0 < interval → (t : Terms) (p : Plan) → known_profile t.profile ≡ true → (k : ℕ) → k + interval < 2 ^ 64 → plan_window p ≡ window.Exceptions → 2 ≤ plan_count p → plan_count p ≤ 256
    → Finishes interval k (afterwards (step_of interval) (first_sender t p k) (sends t.number k 0 (plan_count p)))
exceptions_complete interval positive t p known k low e least most =
    let s = afterwards (step_of interval) (first_sender t p k) (sends t.number k 0 (plan_count p)) in
    let is = all_sent interval positive t p known k low (ap prohibited e) least most in
    let awaits : s.progress.state ≡ AwaitingResponse = ap (λ (x : Sender). x.progress.state) is in
    let runs : s.progress.deadline_monotonic_ms ≡ Some (k + interval) = ap (λ (x : Sender). x.progress.deadline_monotonic_ms) is in
    let read : s.progress.last_monotonic_ms ≡ k = ap (λ (x : Sender). x.progress.last_monotonic_ms) is in
    let ticket : s.progress.last_ticket ≡ plan_count p - 1 = ap (λ (x : Sender). x.progress.last_ticket) is in (
      awaits,
      runs,
      elapsed interval s (k + interval) (list_keeps interval (first_sender t p k) (sends t.number k 0 (plan_count p)) (first_reached interval t p k least most))
          (ap (λ (x : Sender). known_profile x.terms.profile) is ∙ known)
          (ap (λ (x : Sender). plan_window x.plan) is ∙ e)
          awaits
          (omega arith)
          (ap (λ (d : Option ℕ). due d (k + interval)) runs ∙ le-leb (k + interval) (k + interval) (omega arith))
          (omega arith),
    )

-- ---- so every frozen plan under Exceptions that the check accepts is finished by the sender that try_new makes of it

pub frozen_finished : (q : Proposal) → length q.heads ≡ 256 → frozen_refusal q ≡ None → (frozen_of q).acknowledgment_window ≡ window.Exceptions
    → (t : Terms) (k : ℕ) → identity_refused t.peer ≡ false → protocol_served t.protocol ≡ true → known_profile t.profile ≡ true → 1 ≤ t.version
    → (interval : ℕ) → 0 < interval → k + interval < 2 ^ 64
    → Finishes interval k (afterwards (step_of interval) (try_new_of t (frozen_plan q) q.message k).sender (sends t.number k 0 q.count))
frozen_finished q wide ok asks t k i s known v interval positive low =
    let c = ((accepted_iff q).0 ok).cutting in
    subst (λ (st : Step). Finishes interval k (afterwards (step_of interval) st.sender (sends t.number k 0 q.count))) (sym (frozen_made q wide ok t k i s known v))
    (exceptions_complete interval positive t (frozen_plan q) known k low asks c.at_least c.at_most)

-- by our sender, its own interval after k
pub own_frozen_finished : (q : Proposal) → length q.heads ≡ 256 → frozen_refusal q ≡ None → (frozen_of q).acknowledgment_window ≡ window.Exceptions
    → (t : Terms) (k : ℕ) → identity_refused t.peer ≡ false → protocol_served t.protocol ≡ true → known_profile t.profile ≡ true → 1 ≤ t.version
    → k + sender_interval t.profile < 2 ^ 64
    → Finishes (sender_interval t.profile) k (afterwards ours (try_new_of t (frozen_plan q) q.message k).sender (sends t.number k 0 q.count))
own_frozen_finished q wide ok asks t k i s known v low =
    let interval = sender_interval t.profile in
    let made = ap (λ (st : Step). interval_of st.sender) (frozen_made q wide ok t k i s known v) in
    subst (λ (z : Sender). Finishes interval k z) (sym (one_interval interval (try_new_of t (frozen_plan q) q.message k).sender (sends t.number k 0 q.count) made))
    (frozen_finished q wide ok asks t k i s known v interval (waits_some t.profile) low)

-- ---- the example, sent to its end by ours: each segment is submitted and accepted at reading 0, and the sender completes 330,000 ms later where it is
-- of profile 1, and 150,000 ms later where it is of profile 2

abbrev example_terms : ℕ → Terms
example_terms profile = record { peer = record { kind = 1; width = 34; value = 5 }; protocol = Segmented 0; version = 1; profile = profile; number = 0 }

-- with two readings behind
abbrev example_calls : ℕ → ℕ → List Call
example_calls early late = submitted 0 0 0 0 ∷ accepted 0 0 0 ∷ submitted 0 1 0 0 ∷ accepted 0 1 0 ∷ advance early ∷ advance late ∷ []

abbrev example_answers : List Answer
example_answers =
    answered AwaitingAccept
    ∷ answered Prepared
    ∷ answered AwaitingAccept
    ∷ answered AwaitingResponse
    ∷ answered AwaitingResponse
    ∷ answered (Complete ExceptionIntervalElapsed)
    ∷ []

abbrev example_sender : ℕ → Sender
example_sender profile = (try_new_of (example_terms profile) (frozen_plan exceptions_train) exceptions_train.message 0).sender

first_finished : answers ours (first_sender (example_terms 1) (frozen_plan exceptions_train) 0) (example_calls 329999 330000) ≡ example_answers
unfolding submitted_of submitted_in accepted_of accepted_in advance_of advance_in advanced impossible all_below lowest_of marked words_of sum_below known_profile sender_interval
first_finished = refl

first_finished_2 : answers ours (first_sender (example_terms 2) (frozen_plan exceptions_train) 0) (example_calls 149999 150000) ≡ example_answers
unfolding submitted_of submitted_in accepted_of accepted_in advance_of advance_in advanced impossible all_below lowest_of marked words_of sum_below known_profile sender_interval
first_finished_2 = refl

example_made : (profile : ℕ) → known_profile profile ≡ true → example_sender profile ≡ first_sender (example_terms profile) (frozen_plan exceptions_train) 0
example_made profile known = ap (λ (st : Step). st.sender) (frozen_made exceptions_train refl exceptions_accepted (example_terms profile) 0 refl refl known (lit≤ tt))

pub exceptions_finished : answers ours (example_sender 1) (example_calls 329999 330000) ≡ example_answers
unfolding known_profile
exceptions_finished = ap (λ (s : Sender). answers ours s (example_calls 329999 330000)) (example_made 1 refl) ∙ first_finished

pub exceptions_finished_2 : answers ours (example_sender 2) (example_calls 149999 150000) ≡ example_answers
unfolding known_profile
exceptions_finished_2 = ap (λ (s : Sender). answers ours s (example_calls 149999 150000)) (example_made 2 refl) ∙ first_finished_2
