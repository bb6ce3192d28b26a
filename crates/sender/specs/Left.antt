-- What a refused call leaves of our sender: by 63, then by the rows, then by whether advance has acted. Assumes nothing.
use Rattle.std.specs.Prelude.{ℕ, ◌-◌, ◌^◌, ◌≤◌, ◌≡◌, List, ◌++◌, Bool, true, false, cond, not, ◌&&◌, ◌||◌, ◌⊎◌, ltb, Option, Some, None}
use Rattle.std.proofs.Math.Path.{refl, ap}
use Rattle.std.proofs.Common.{sym, ◌∙◌, true≢false, inl, inr, arith, ltb-false, le-leb, leb-true}
use Rattle.std.proofs.lemmas.Bool.{not-false}
use Rattle.tsar.specs.Rows.{Refusal, refusal, either, or_else, refusal_append, refusal_none}
use Rattle.tsar.specs.Kinds.{prohibited}
use Rattle.response.specs.Responses.{response_rows}
use Rattle.sender.specs.declared.LowerLayerFailure.{LowerLayerFailure}
use Rattle.sender.specs.declared.SenderFailure.TheVariants.{LowerLayer, SegmentInterval}
use Rattle.sender.specs.declared.SenderState.TheVariants.{Failed, Complete}
use Rattle.sender.specs.declared.Completion.TheVariants.{ExceptionIntervalElapsed}
use Rattle.sender.specs.declared.Progress.{Progress}
use Rattle.sender.specs.declared.Outline.{Outline}
use Rattle.sender.specs.declared.Arrival.{Arrival}
use Rattle.sender.specs.declared.Sender.{Sender}
use Rattle.sender.specs.Record.{is_closed, awaits_response, is_exceptions, has_pending, late, due, outline}
use Rattle.sender.specs.Steps.{finish, advanced, read, until, marking, again, prepare, fire, sets_deadline, counted, accepted_next, cancelled}
use Rattle.sender.specs.Calls.{refused, Step, Turn, refuses, left, or_tickets, on_refusal, placed, advanced_to, clock_rows, advance_in, advance_of, cancel_in, cancel_of, offer_rows, submitted_rows, count_rows, counting, submitting, submitted_in, submitted_of, prepared_at, awaits_word, awaited_rows, word_rows, after_advance, accepted_in, accepted_of, lower_failed_in, lower_failed_of, arrival_rows, entry_rows, response_rows_of, reacted, late_first, receive_response_in, receive_response_of}
use Rattle.sender.specs.CallList.{advance, cancel, submitted, accepted, lower_failed, receive_response, step_of}
use Rattle.sender.specs.Pending.{and_both}
use Rattle.sender.specs.Leaves.{LateStale, LateQueued, LateClosed, RefusedLeaves}

-- the ticket of a progress is past 2^64 - 1
abbrev spent : Progress → Bool
spent p = ltb (2 ^ 64 - 1) p.last_ticket

-- rows behind rows: none of the first holds where none of all does
first_none : (a b : Option Refusal) → or_else a b ≡ None → a ≡ None
first_none None b e = refl
first_none (Some n) b e = let z : ◌≡◌ {A = ℕ} 0 1 = cc in absurd (omega arith)

front_none : (cs ds : List (Bool × Refusal)) → refusal (cs ++ ds) ≡ None → refusal cs ≡ None
front_none cs ds e = first_none (refusal cs) (refusal ds) (sym (refusal_append cs ds) ∙ e)

-- an answer is no refusal
no_refusal : {A : Type 0} (p : Progress) (n : Refusal) → (left p).answer ≡ refused n → A
no_refusal p n e = let z : ◌≡◌ {A = ℕ} 0 1 = cc in absurd (omega arith)

module _ (P : Turn → Type 0) (p : Progress) (same : (n : Refusal) → P (refuses n p)) where
  -- by 63, and by the rows
  by_rows' : (v : Option Refusal) (t : Turn) → (v ≡ None → spent t.progress ≡ false → P t) → P (or_tickets p (on_refusal v p t))
  by_rows' (Some n) t h = either P (spent p) (refuses (63, 0) p) (refuses n p) (λ e. same (63, 0)) (λ e. same n)
  by_rows' None t h = either P (spent t.progress) (refuses (63, 0) p) t (λ e. same (63, 0)) (λ e. h refl e)

-- advance that is not refused
acts : (o : Outline) (p : Progress) (k : ℕ) → refusal (clock_rows o p k) ≡ None → spent (advanced_to o p k) ≡ false → advance_in o p k ≡ left (advanced_to o p k)
unfolding advance_in
acts o p k e f =
    ap (λ (v : Option Refusal). or_tickets p (on_refusal v p (left (advanced_to o p k)))) e
    ∙ ap (λ (b : Bool). cond b (refuses (63, 0) p) (left (advanced_to o p k))) f

-- before the deadline advance takes the reading alone
pub idle : (o : Outline) (p : Progress) (k : ℕ) → due p.deadline_monotonic_ms k ≡ false → advanced_to o p k ≡ read p k
unfolding advanced
idle o p k e = ap (λ (b : Bool). read (cond b (fire o.count o.acknowledgment_window p k) p) k) (ap (λ (b : Bool). not (is_closed p.state) && b) e ∙ neither (not (is_closed p.state)))
  where
    neither : (b : Bool) → (b && false) ≡ false
    neither true = refl
    neither false = refl

-- at a due deadline under Prohibited advance fails an open sender
fails_then : (o : Outline) (p : Progress) (k : ℕ) → is_closed p.state ≡ false → due p.deadline_monotonic_ms k ≡ true → prohibited o.acknowledgment_window ≡ true
    → (advanced_to o p k).state ≡ Failed SegmentInterval
unfolding advanced
fails_then o p k c d w =
    ap (λ (b : Bool). (read (cond (not b && due p.deadline_monotonic_ms k) (fire o.count o.acknowledgment_window p k) p) k).state) c
    ∙ ap (λ (b : Bool). (read (cond b (fire o.count o.acknowledgment_window p k) p) k).state) d
    ∙ ap (λ (b : Bool). (cond b (finish p (Failed SegmentInterval)) (cond (is_exceptions o.acknowledgment_window && awaits_response p.state && not (has_pending o.count p.submitted p.retry)) (finish p (Complete ExceptionIntervalElapsed)) (prepare o.count (until (marking p (again o.count p p.current) p.received) None) k))).state) w

-- what is due is due later
due_later : (d : Option ℕ) (m n : ℕ) → due d m ≡ true → m ≤ n → due d n ≡ true
due_later None m n e h = e
due_later (Some d) m n e h = le-leb d n (omega (arith, leb-true d m e, h))

or_right : (a b : Bool) → (a || b) ≡ false → b ≡ false
or_right true b e = absurd (true≢false e)
or_right false b e = e

module _ (s : Sender) where
  -- what a turn that is refused leaves, with cases of its own excepted
  abbrev Left : (Refusal → Step → Type 0) → Turn → Type 0
  Left E t = (n : Refusal) → (placed s t).answer ≡ refused n → ((placed s t).sender ≡ s) ⊎ E n (placed s t)

  same : (E : Refusal → Step → Type 0) (n : Refusal) → Left E (refuses n s.progress)
  same E n m e = inl refl

  -- where advance has acted
  acted : (n : Refusal) (k : ℕ) → refusal (clock_rows (outline s) s.progress k) ≡ None → spent (advanced_to (outline s) s.progress k) ≡ false
      → (placed s (refuses n (advanced_to (outline s) s.progress k))).sender ≡ (advance_of s k).sender
  unfolding advance_of
  acted n k e f = ap (λ (t : Turn). (placed s t).sender) (sym (acts (outline s) s.progress k e f))

  advance_left : (k : ℕ) → Left (λ n st. ⊥) (advance_in (outline s) s.progress k)
  unfolding advance_in
  advance_left k =
      by_rows' (Left (λ n st. ⊥)) s.progress (same (λ n st. ⊥)) (refusal (clock_rows (outline s) s.progress k)) (left (advanced_to (outline s) s.progress k))
      (λ e f n q. no_refusal (advanced_to (outline s) s.progress k) n q)

  cancel_left : (k : ℕ) → Left (λ n st. ⊥) (cancel_in (outline s) s.progress k)
  unfolding cancel_in
  cancel_left k =
      by_rows' (Left (λ n st. ⊥)) s.progress (same (λ n st. ⊥)) (refusal (clock_rows (outline s) s.progress k)) (left (cancelled (advanced_to (outline s) s.progress k)))
      (λ e f n q. no_refusal (cancelled (advanced_to (outline s) s.progress k)) n q)

  -- the lower layer's word
  module _ (number ticket k : ℕ) where
    abbrev Stale : Refusal → Step → Type 0
    Stale = LateStale s number ticket k

    abbrev q : Progress
    q = advanced_to (outline s) s.progress k

    word_left : refusal (word_rows s.terms.number (outline s) s.progress number ticket k) ≡ None → (next : Progress)
        → (b : Bool) → awaits_word s.terms.number q number ticket ≡ b → spent (cond b (left next) (refuses (42, 0) q)).progress ≡ false → Left Stale (cond b (left next) (refuses (42, 0) q))
    word_left e next true w f n r = no_refusal next n r
    word_left e next false w f n r =
        let rows = word_rows s.terms.number (outline s) s.progress number ticket k in
        let a : awaits_word s.terms.number s.progress number ticket ≡ true = not-false _ (refusal_none rows e 3) in
        inr (record {
          is_42 = cc;
          was_awaited = a;
          was_due = was (due s.progress.deadline_monotonic_ms k) refl a;
          awaited_no_more = w;
          advanced_sender = acted (42, 0) k (front_none (clock_rows (outline s) s.progress k) (awaited_rows s.terms.number s.progress number ticket) e) f;
        })
      where
        was : (d : Bool) → due s.progress.deadline_monotonic_ms k ≡ d → awaits_word s.terms.number s.progress number ticket ≡ true → due s.progress.deadline_monotonic_ms k ≡ true
        was true d a = d
        was false d a = absurd (true≢false (sym a ∙ ap (λ (x : Progress). awaits_word s.terms.number x number ticket) (sym (idle (outline s) s.progress k d)) ∙ w))

    after_left : refusal (word_rows s.terms.number (outline s) s.progress number ticket k) ≡ None → (next : Progress)
        → spent (after_advance s.terms.number number ticket q next).progress ≡ false → Left Stale (after_advance s.terms.number number ticket q next)
    after_left e next f = word_left e next (awaits_word s.terms.number q number ticket) refl f

    accepted_left : Left Stale (accepted_in s.terms.number (outline s) s.progress number ticket k)
    unfolding accepted_in
    accepted_left =
        by_rows' (Left Stale) s.progress (same Stale) (refusal (word_rows s.terms.number (outline s) s.progress number ticket k))
        (after_advance s.terms.number number ticket q (accepted_next (outline s).count (outline s).acknowledgment_window q k)) (λ e f. after_left e (accepted_next (outline s).count (outline s).acknowledgment_window q k) f)

    failed_left : (failure : LowerLayerFailure) → Left Stale (lower_failed_in s.terms.number (outline s) s.progress number ticket failure k)
    unfolding lower_failed_in
    failed_left failure =
        by_rows' (Left Stale) s.progress (same Stale) (refusal (word_rows s.terms.number (outline s) s.progress number ticket k))
        (after_advance s.terms.number number ticket q (finish q (Failed (LowerLayer failure)))) (λ e f. after_left e (finish q (Failed (LowerLayer failure))) f)

  -- a submission
  module _ (interval number ticket queued observed : ℕ) where
    abbrev Queued : Refusal → Step → Type 0
    Queued = LateQueued s queued observed

    abbrev window' : Bool
    window' = prohibited (outline s).acknowledgment_window

    count_left : (v : Option Refusal) (next : Progress) → Left Queued (on_refusal v s.progress (left next))
    count_left (Some m) next n e = inl refl
    count_left None next n e = no_refusal next n e

    queued_left : refusal (submitted_rows s.terms.number (outline s) s.progress number ticket queued observed) ≡ None
        → (b : Bool) → (window' && due s.progress.deadline_monotonic_ms queued) ≡ b
        → spent (cond b (refuses (44, 0) (advanced_to (outline s) s.progress observed)) (counting interval (outline s).count (outline s).acknowledgment_window s.progress queued observed)).progress ≡ false
        → Left Queued (cond b (refuses (44, 0) (advanced_to (outline s) s.progress observed)) (counting interval (outline s).count (outline s).acknowledgment_window s.progress queued observed))
    queued_left e true d f n r =
        let x = and_both window' (due s.progress.deadline_monotonic_ms queued) d in
        let rows = submitted_rows s.terms.number (outline s) s.progress number ticket queued observed in
        inr (record {
          is_44 = cc;
          under_prohibited = x.0;
          was_due = x.1;
          failed = fails_then (outline s) s.progress observed (refusal_none rows e 2) (due_later s.progress.deadline_monotonic_ms queued observed x.1 (ltb-false observed queued (or_right (ltb queued (prepared_at s.progress.current)) (ltb observed queued) (refusal_none rows e 4)))) x.0;
          advanced_sender = acted (44, 0) observed (front_none (clock_rows (outline s) s.progress observed) (offer_rows s.terms.number s.progress number ticket queued observed) e) f;
        })
    queued_left e false d f n r =
        count_left (refusal (count_rows interval (sets_deadline (outline s).count (outline s).acknowledgment_window s.progress) s.progress queued)) (advanced (outline s).count (outline s).acknowledgment_window (counted interval (outline s).count (outline s).acknowledgment_window s.progress queued) observed) n r

    submitted_left : Left Queued (submitted_in interval s.terms.number (outline s) s.progress number ticket queued observed)
    unfolding submitted_in
    submitted_left =
        by_rows' (Left Queued) s.progress (same Queued) (refusal (submitted_rows s.terms.number (outline s) s.progress number ticket queued observed)) (submitting interval (outline s) s.progress queued observed)
        (λ e f. queued_left e (window' && due s.progress.deadline_monotonic_ms queued) refl f)

  -- a response
  module _ (a : Arrival) where
    abbrev Closed : Refusal → Step → Type 0
    Closed = LateClosed s a.reading

    abbrev q' : Progress
    q' = advanced_to (outline s) s.progress a.reading

    late_left : refusal (response_rows_of s.terms (outline s) s.progress a) ≡ None → (l c : Bool) → late s.progress.deadline_monotonic_ms a.reading ≡ l → is_closed q'.state ≡ c
        → spent (cond l (cond c (refuses (38, 0) q') (left (reacted (outline s) q' a))) (left (reacted (outline s) s.progress a))).progress ≡ false
        → Left Closed (cond l (cond c (refuses (38, 0) q') (left (reacted (outline s) q' a))) (left (reacted (outline s) s.progress a)))
    late_left e true true l c f n r =
        inr (record {
          is_38 = cc;
          was_late = l;
          is_closed_lem = c;
          advanced_sender = acted (38, 0) a.reading (front_none (clock_rows (outline s) s.progress a.reading) (arrival_rows s.terms s.progress a ++ (response_rows s.terms.version a.response ++ entry_rows (outline s) s.progress a.response)) e) f;
        })
    late_left e true false l c f n r = no_refusal (reacted (outline s) q' a) n r
    late_left e false c l d f n r = no_refusal (reacted (outline s) s.progress a) n r

    response_left : Left Closed (receive_response_in s.terms (outline s) s.progress a)
    unfolding receive_response_in
    response_left =
        by_rows' (Left Closed) s.progress (same Closed) (refusal (response_rows_of s.terms (outline s) s.progress a)) (late_first (outline s) s.progress a)
        (λ e f. late_left e (late s.progress.deadline_monotonic_ms a.reading) (is_closed q'.state) refl refl f)

pub refused_leaves : (interval : ℕ) → RefusedLeaves (step_of interval)
unfolding advance_of cancel_of submitted_of accepted_of lower_failed_of receive_response_of
refused_leaves interval s (advance k) n e = advance_left s k n e
refused_leaves interval s (cancel k) n e = cancel_left s k n e
refused_leaves interval s (submitted number ticket queued observed) n e = submitted_left s interval number ticket queued observed n e
refused_leaves interval s (accepted number ticket k) n e = accepted_left s number ticket k n e
refused_leaves interval s (lower_failed number ticket failure k) n e = failed_left s number ticket k failure n e
refused_leaves interval s (receive_response a) n e = response_left s a n e
