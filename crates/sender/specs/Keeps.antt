-- Each step keeps the facts of reached senders: preparing, finishing, advancing, counting a submission, and reacting to a response. Assumes nothing.
use Rattle.std.specs.Prelude.{ℕ, ◌+◌, ◌≤◌, ◌<◌, ◌≡◌, refl, Bool, true, false, cond, not, ◌&&◌, ◌||◌, eqb, Option, Some, None}
use Rattle.std.proofs.Common.{sym, ap, ◌∙◌, subst, true≢false, ⊎_elim, arith, eqb-true}
use Rattle.std.proofs.Math.Bool.{or-true}
use Rattle.words.specs.Marks.{marked, no_marks, all_below}
use Rattle.words.specs.Search.{lowest_is}
use Rattle.words.specs.Laws.{marked_words_of, marked_none}
use Rattle.words.specs.declared.Words.{Words}
use Rattle.tsar.specs.Rows.{either}
use Rattle.tsar.specs.Kinds.{prohibited}
use Rattle.tsar.specs.declared.AcknowledgmentWindow.{AcknowledgmentWindow}
use Rattle.response.specs.declared.Response.{Response}
use Rattle.sender.specs.declared.Submission.{Submission}
use Rattle.sender.specs.declared.SenderState.{SenderState}
use Rattle.sender.specs.declared.SenderState.TheVariants.{Prepared, AwaitingAccept, AwaitingResponse, Complete, Failed, Cancelled}
use Rattle.sender.specs.declared.Completion.TheVariants.{LowerLayerAccepted, PeerReceived, ExceptionIntervalElapsed}
use Rattle.sender.specs.declared.SenderFailure.TheVariants.{SegmentInterval, Peer}
use Rattle.sender.specs.declared.Progress.{Progress}
use Rattle.sender.specs.declared.Reaction.{Reaction}
use Rattle.sender.specs.declared.Reaction.TheVariants.{Completes, Marks, Resends, Fails}
use Rattle.sender.specs.Record.{is_prepared, awaits_accept, awaits_response, is_closed, due, running, is_exceptions, needs, has_pending, next_pending}
use Rattle.sender.specs.Steps.{offering, marking, until, read, is_at, prepare_for, prepare, finish, again, fire, advanced, index_of, is_last, sets_deadline, counted, accepted_next, cancelled, reaction, is_timeout, marked_retry, marked_received, resent, last_if, reprepare, react_by, react}
use Rattle.sender.specs.Calls.{acknowledges_unsubmitted}
use Rattle.sender.specs.Pending.{and_both, or_cases, below_none, below_with, below_without, below_again, below_resent, below_marked, below_received, below_last_if, received_submitted, again_next, resent_next, last_if_next}
use Rattle.sender.specs.Reached.{Stands, MarksLie, InTime, Standing, Reached, submission_below_lem, prepared_offers, accept_awaited}

-- ---- states and submissions by their tests

prepared_is : (s : SenderState) → is_prepared s ≡ true → s ≡ Prepared
prepared_is Prepared e = refl
prepared_is AwaitingAccept e = absurd (true≢false (sym e))
prepared_is AwaitingResponse e = absurd (true≢false (sym e))
prepared_is (Complete k) e = absurd (true≢false (sym e))
prepared_is (Failed k) e = absurd (true≢false (sym e))
prepared_is Cancelled e = absurd (true≢false (sym e))

accept_is : (s : SenderState) → awaits_accept s ≡ true → s ≡ AwaitingAccept
accept_is Prepared e = absurd (true≢false (sym e))
accept_is AwaitingAccept e = refl
accept_is AwaitingResponse e = absurd (true≢false (sym e))
accept_is (Complete k) e = absurd (true≢false (sym e))
accept_is (Failed k) e = absurd (true≢false (sym e))
accept_is Cancelled e = absurd (true≢false (sym e))

at_is : (c : Option Submission) (i : ℕ) → is_at c i ≡ true → (x : Submission) × (c ≡ Some x) × (x.index ≡ i)
at_is None i e = absurd (true≢false (sym e))
at_is (Some x) i e = (x, refl, eqb-true x.index i e)

-- ---- preparing

-- it changes neither the marks nor the deadline nor the reading
pub prepare_same : {A : Type 0} (get : Progress → A) (n : ℕ) (p : Progress) (now' : ℕ) → ((s : SenderState) (c : Option Submission) (t : ℕ) → get (offering p s c t) ≡ get p) → get (prepare n p now') ≡ get p
prepare_same get n p now' h = go (next_pending n p.submitted p.retry)
  where
    go : (f : Option ℕ) → get (prepare_for f p now') ≡ get p
    go None = h AwaitingResponse None p.last_ticket
    go (Some i) = either (λ q. get q ≡ get p) (is_prepared p.state && is_at p.current i) p _ (λ e. refl) (λ e. h _ _ _)

-- it leaves a sender that stands, if it runs where nothing is pending
module _ (n : ℕ) (w : AcknowledgmentWindow) (p : Progress) (now' : ℕ) (l : 2 ≤ n) (m : n ≤ 256) (marks : MarksLie n p.submitted p.retry p.received) where
  pub prepare_stands : (next_pending n p.submitted p.retry ≡ None → running p.deadline_monotonic_ms ≡ true) → Standing n w (prepare n p now')
  prepare_stands runs = go (next_pending n p.submitted p.retry) refl
    where
      offers : (i : ℕ) → next_pending n p.submitted p.retry ≡ Some i → i < n
      offers i e = (lowest_is (needs p.submitted p.retry) n i e).within

      kept : (i : ℕ) → next_pending n p.submitted p.retry ≡ Some i → (is_prepared p.state && is_at p.current i) ≡ true → Standing n w p
      kept i e t =
          let s = and_both (is_prepared p.state) (is_at p.current i) t in
          let x = at_is p.current i s.1 in
          let b : x.0.index < n = let z = offers i e in omega (arith, x.2) in
          record {
            least = l;
            most = m;
            marks = marks;
            stands = subst (λ (st : SenderState). Stands st p.current (next_pending n p.submitted p.retry) p.deadline_monotonic_ms (prohibited w) n) (sym (prepared_is p.state s.0)) (x.0, x.1, e ∙ ap Some (sym x.2), b);
          }

      go : (f : Option ℕ) → next_pending n p.submitted p.retry ≡ f → Standing n w (prepare_for f p now')
      go None e = record { least = l; most = m; marks = marks; stands = (refl, e, runs e) }
      go (Some i) e =
          either (Standing n w) (is_prepared p.state && is_at p.current i) p _
          (kept i e) (λ t. record { least = l; most = m; marks = marks; stands = (_, refl, e, offers i e) })

-- ---- finishing

module _ (interval n : ℕ) (w : AcknowledgmentWindow) (p : Progress) (now' : ℕ) (l : 2 ≤ n) (m : n ≤ 256) (marks : MarksLie n p.submitted p.retry p.received) where
  pub finish_reached : (s : SenderState) → is_closed s ≡ true → Reached interval n w (finish p s) now'
  finish_reached s e = record { standing = record { least = l; most = m; marks = marks; stands = closed s e }; in_time = tt }
    where
      closed : (s : SenderState) → is_closed s ≡ true → Stands s None (next_pending n p.submitted p.retry) None (prohibited w) n
      closed Prepared e = absurd (true≢false (sym e))
      closed AwaitingAccept e = absurd (true≢false (sym e))
      closed AwaitingResponse e = absurd (true≢false (sym e))
      closed (Complete k) e = (refl, refl)
      closed (Failed k) e = (refl, refl)
      closed Cancelled e = (refl, refl)

-- ---- advancing

-- the last reading is no part of the facts
read_reached : (interval n : ℕ) (w : AcknowledgmentWindow) (p : Progress) (now' k : ℕ) → Reached interval n w p now' → Reached interval n w (read p k) now'
read_reached interval n w p now' k h =
    record { standing = record { least = h.standing.least; most = h.standing.most; marks = h.standing.marks; stands = h.standing.stands }; in_time = h.in_time }

-- advance keeps what was submitted
pub advanced_submitted : (n : ℕ) (w : AcknowledgmentWindow) (p : Progress) (now' : ℕ) → (advanced n w p now').submitted ≡ p.submitted
unfolding advanced
advanced_submitted n w p now' =
    either (λ q. q.submitted ≡ p.submitted) (not (is_closed p.state) && due p.deadline_monotonic_ms now') (fire n w p now') p
    (λ e. either (λ q. q.submitted ≡ p.submitted) (prohibited w) (finish p (Failed SegmentInterval)) _ (λ f. refl)
    (λ f. either (λ q. q.submitted ≡ p.submitted) (is_exceptions w && awaits_response p.state && not (has_pending n p.submitted p.retry)) (finish p (Complete ExceptionIntervalElapsed)) _ (λ g. refl)
    (λ g. prepare_same (λ q. q.submitted) n (until (marking p (again n p p.current) p.received) None) now' (λ s c t. refl))))
    (λ e. refl)

-- preparing, where the deadline is in time
prepare_reached : (interval n : ℕ) (w : AcknowledgmentWindow) (p : Progress) (now' : ℕ) → 2 ≤ n → n ≤ 256 → MarksLie n p.submitted p.retry p.received
    → (next_pending n p.submitted p.retry ≡ None → running p.deadline_monotonic_ms ≡ true) → InTime interval p.deadline_monotonic_ms now' → Reached interval n w (prepare n p now') now'
prepare_reached interval n w p now' l m marks runs t =
    record {
      standing = prepare_stands n w p now' l m marks runs;
      in_time = subst (λ (d : Option ℕ). InTime interval d now') (sym (prepare_same (λ r. r.deadline_monotonic_ms) n p now' (λ s c k. refl))) t;
    }

module _ (interval n : ℕ) (w : AcknowledgmentWindow) (p : Progress) (now' : ℕ) (h : Reached interval n w p now') where
  -- a due deadline: closed, or the lowest of what is sent again is offered
  fire_reached : Reached interval n w (fire n w p now') now'
  fire_reached =
      either (λ q. Reached interval n w q now') (prohibited w) (finish p (Failed SegmentInterval)) _ (λ e. closed (Failed SegmentInterval) refl)
      (λ e. either (λ q. Reached interval n w q now') (is_exceptions w && awaits_response p.state && not (has_pending n p.submitted p.retry)) (finish p (Complete ExceptionIntervalElapsed)) _
      (λ f. closed (Complete ExceptionIntervalElapsed) refl) (λ f. offered))
    where
      closed : (s : SenderState) → is_closed s ≡ true → Reached interval n w (finish p s) now'
      closed = finish_reached interval n w p now' h.standing.least h.standing.most h.standing.marks

      offered : Reached interval n w (prepare n (until (marking p (again n p p.current) p.received) None) now') now'
      offered =
          prepare_reached interval n w (until (marking p (again n p p.current) p.received) None) now' h.standing.least h.standing.most
          (record {
            submitted_below = h.standing.marks.submitted_below;
            retry_below = below_again n p p.current h.standing.least (submission_below_lem n w p h.standing) h.standing.marks.retry_below;
            received_below = h.standing.marks.received_below;
            received_submitted = h.standing.marks.received_submitted;
          })
          (λ e. absurd (again_next n p p.current h.standing.least h.standing.most (submission_below_lem n w p h.standing) e)) tt

  pub advanced_reached : Reached interval n w (advanced n w p now') now'
  unfolding advanced
  advanced_reached =
      read_reached interval n w (cond (not (is_closed p.state) && due p.deadline_monotonic_ms now') (fire n w p now') p) now' now'
      (either (λ q. Reached interval n w q now') (not (is_closed p.state) && due p.deadline_monotonic_ms now') (fire n w p now') p (λ e. fire_reached) (λ e. h))

-- ---- a submission that is counted

module _ (interval n : ℕ) (w : AcknowledgmentWindow) (p : Progress) (queued now' : ℕ) (h : Standing n w p) (prepared : is_prepared p.state ≡ true) where
  counted_marks : MarksLie n (counted interval n w p queued).submitted (counted interval n w p queued).retry (counted interval n w p queued).received
  counted_marks =
      let x = prepared_offers n w p h prepared in
      let i : index_of p.current < n = subst (λ (c : Option Submission). index_of c < n) (sym x.1) x.3 in
      record {
        submitted_below = below_with n (index_of p.current) p.submitted i h.marks.submitted_below;
        retry_below = below_without n (index_of p.current) p.retry h.marks.retry_below;
        received_below = h.marks.received_below;
        received_submitted = λ j k e. marked_words_of (λ j. eqb j (index_of p.current) || marked p.submitted j) j k ∙ more j (h.marks.received_submitted j k e);
      }
    where
      more : (j : ℕ) → marked p.submitted j ≡ true → (eqb j (index_of p.current) || marked p.submitted j) ≡ true
      more j e = ap (λ (b : Bool). eqb j (index_of p.current) || b) e ∙ or-true (eqb j (index_of p.current))

  pub counted_reached : queued ≤ now' → Reached interval n w (counted interval n w p queued) now'
  counted_reached l =
      let x = prepared_offers n w p h prepared in
      record {
        standing = record { least = h.least; most = h.most; marks = counted_marks; stands = (x.0, x.1, x.3, waits (is_last n p) (prohibited w)) };
        in_time = either (λ d. InTime interval d now') (sets_deadline n w p) (Some (queued + interval)) None (λ e. omega arith) (λ e. tt);
      }
    where
      waits : (a b : Bool) → (running (cond (not (a && b)) (Some (queued + interval)) None) || b) ≡ true
      waits true true = refl
      waits true false = refl
      waits false b = refl

-- ---- the lower layer's word, and cancelling

module _ (interval n : ℕ) (w : AcknowledgmentWindow) (p : Progress) (now' : ℕ) (h : Reached interval n w p now') where
  -- what is prepared once the submission is taken
  abbrev taken : Progress
  taken = offering p p.state None p.last_ticket

  taken_marks : MarksLie n (prepare n taken now').submitted (prepare n taken now').retry (prepare n taken now').received
  taken_marks =
      rw (prepare_same (λ r. r.submitted) n taken now' (λ s c t. refl), prepare_same (λ r. r.retry) n taken now' (λ s c t. refl), prepare_same (λ r. r.received) n taken now' (λ s c t. refl)) h.standing.marks

  pub accepted_reached : awaits_accept p.state ≡ true → Reached interval n w (accepted_next n w p now') now'
  accepted_reached a =
      either (λ q. Reached interval n w q now') (awaits_response (prepare n taken now').state && prohibited w) (finish (prepare n taken now') (Complete LowerLayerAccepted)) (prepare n taken now')
      (λ e. finish_reached interval n w (prepare n taken now') now' h.standing.least h.standing.most taken_marks (Complete LowerLayerAccepted) refl)
      (λ e. prepare_reached interval n w taken now' h.standing.least h.standing.most h.standing.marks (waits e) h.in_time)
    where
      waits : (awaits_response (prepare n taken now').state && prohibited w) ≡ false → next_pending n p.submitted p.retry ≡ None → running p.deadline_monotonic_ms ≡ true
      waits e f =
          let k : prohibited w ≡ false = sym (ap (λ (g : Option ℕ). awaits_response (prepare_for g taken now').state && prohibited w) f) ∙ e in
          let z = accept_awaited n w p h.standing a in
          ⊎_elim (λ (y : running p.deadline_monotonic_ms ≡ true). y) (λ (y : prohibited w ≡ true). absurd (true≢false (sym y ∙ k))) (or_cases (running p.deadline_monotonic_ms) (prohibited w) z.3)

  -- it changes no reading
  pub accepted_last : (accepted_next n w p now').last_monotonic_ms ≡ p.last_monotonic_ms
  accepted_last =
      either (λ q. q.last_monotonic_ms ≡ p.last_monotonic_ms) (awaits_response (prepare n taken now').state && prohibited w) (finish (prepare n taken now') (Complete LowerLayerAccepted)) (prepare n taken now')
      (λ e. prepare_same (λ r. r.last_monotonic_ms) n taken now' (λ s c t. refl)) (λ e. prepare_same (λ r. r.last_monotonic_ms) n taken now' (λ s c t. refl))

  pub cancelled_reached : Reached interval n w (cancelled p) now'
  cancelled_reached =
      either (λ q. Reached interval n w q now') (is_closed p.state) p (finish p Cancelled) (λ e. h)
      (λ e. finish_reached interval n w p now' h.standing.least h.standing.most h.standing.marks Cancelled refl)

  pub cancelled_last : (cancelled p).last_monotonic_ms ≡ p.last_monotonic_ms
  cancelled_last = either (λ q. q.last_monotonic_ms ≡ p.last_monotonic_ms) (is_closed p.state) p (finish p Cancelled) (λ e. refl) (λ e. refl)

-- ---- a response

module _ (interval n : ℕ) (w : AcknowledgmentWindow) (p : Progress) (now' : ℕ) (h : Reached interval n w p now') where
  -- marks that lie, and something pending unless a deadline runs
  reprepared : (retry received : Words) → MarksLie n p.submitted retry received → (next_pending n p.submitted retry ≡ None → running p.deadline_monotonic_ms ≡ true) → Reached interval n w (reprepare n (marking p retry received) now') now'
  reprepared retry received marks runs =
      either (λ q. Reached interval n w q now') (awaits_accept p.state) (marking p retry received) (prepare n (marking p retry received) now')
      (λ e. record {
        standing = record {
          least = h.standing.least;
          most = h.standing.most;
          marks = marks;
          stands = subst (λ (st : SenderState). Stands st p.current (next_pending n p.submitted retry) p.deadline_monotonic_ms (prohibited w) n) (sym (accept_is p.state e)) (accept_awaited n w p h.standing e);
        };
        in_time = h.in_time;
      })
      (λ e. prepare_reached interval n w (marking p retry received) now' h.standing.least h.standing.most marks runs h.in_time)

  -- where no entry is of an unsubmitted segment, and some segment was submitted
  react_by_lem : (r : Response) → acknowledges_unsubmitted n p.submitted r.acknowledgments ≡ false → all_below n (λ i. not (marked p.submitted i)) ≡ false → (k : Reaction) → Reached interval n w (react_by k n p r now') now'
  react_by_lem r a b Completes = finish_reached interval n w p now' h.standing.least h.standing.most h.standing.marks (Complete PeerReceived) refl
  react_by_lem r a b Marks =
      let timeout = is_timeout r.status in
      let asks = timeout || not (running p.deadline_monotonic_ms) in
      let told = marked_retry n p.submitted p.retry r.acknowledgments timeout in
      reprepared (last_if asks n p.submitted told) (marked_received n r.acknowledgments)
      (record {
        submitted_below = h.standing.marks.submitted_below;
        retry_below = below_last_if asks n p.submitted told h.standing.least (below_marked n p.submitted p.retry r.acknowledgments timeout h.standing.marks.retry_below);
        received_below = below_received n r.acknowledgments;
        received_submitted = received_submitted n p.submitted r.acknowledgments a;
      })
      (runs (running p.deadline_monotonic_ms) timeout told)
    where
      runs : (b t : Bool) (told : Words) → next_pending n p.submitted (last_if (t || not b) n p.submitted told) ≡ None → b ≡ true
      runs true t told f = refl
      runs false true told f = absurd (last_if_next true n p.submitted told refl h.standing.least h.standing.most f)
      runs false false told f = absurd (last_if_next true n p.submitted told refl h.standing.least h.standing.most f)
  react_by_lem r a b Resends =
      reprepared (resent n p.submitted p.retry) no_marks
      (record {
        submitted_below = h.standing.marks.submitted_below;
        retry_below = below_resent n p.submitted p.retry h.standing.marks.retry_below;
        received_below = below_none n;
        received_submitted = λ i k e. absurd (true≢false (sym e ∙ marked_none i));
      })
      (λ e. absurd (resent_next n p.submitted p.retry h.standing.most b e))
  react_by_lem r a b Fails = finish_reached interval n w p now' h.standing.least h.standing.most h.standing.marks (Failed (Peer r.status)) refl

  pub react_reached : (r : Response) → acknowledges_unsubmitted n p.submitted r.acknowledgments ≡ false → all_below n (λ i. not (marked p.submitted i)) ≡ false → Reached interval n w (react n p r now') now'
  react_reached r a b = react_by_lem r a b (reaction r.status)
