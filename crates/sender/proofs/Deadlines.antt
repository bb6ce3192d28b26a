-- Which calls move a sender's deadline: a submitted that is not refused alone. Any other call leaves it as it was; or off, where the sender is closed or
-- the deadline was due. So a sender waits as long as its submission said, whatever calls come. 34 by the interval. Over any record. Assumes nothing.
use Prim.Native.Nat.{ℕ, ◌-◌, ◌^◌, ◌≤◌, ◌<◌}
use mathlib.Core.Path.{◌≡◌, refl, sym, ap, ◌∙◌, subst}
use mathlib.Core.List.{List, [], ◌∷◌}
use mathlib.Core.Bool.{Bool, true, false, cond, not, ◌&&◌, ◌||◌, true≢false}
use mathlib.Core.Logic.{◌⊎◌, inl, inr}
use Rattle.std.specs.Prelude.{Option, Some, None}
use native.Mathlib.Omega.{arith}
use lib.Dec.{eqb, ltb}
use borrow.Author.Tests.{le-ltb, lt-ltb}
use Rattle.words.specs.Marks.{no_marks}
use Rattle.tsar.specs.Rows.{Refusal, refusal, refusal_none, either}
use Rattle.tsar.specs.Kinds.{prohibited}
use Rattle.tsar.specs.declared.AcknowledgmentWindow.{AcknowledgmentWindow}
use Rattle.response.specs.declared.Response.{Response}
use Rattle.sender.specs.declared.Reaction.{Reaction}
use Rattle.sender.specs.declared.Reaction.TheVariants.{Completes, Marks, Resends, Fails}
use Rattle.sender.specs.declared.Completion.TheVariants.{LowerLayerAccepted}
use Rattle.sender.specs.declared.SenderFailure.TheVariants.{LowerLayer}
use Rattle.sender.specs.declared.SenderState.{SenderState}
use Rattle.sender.specs.declared.SenderState.TheVariants.{Complete, Failed, Cancelled}
use Rattle.sender.specs.declared.Progress.{Progress}
use Rattle.sender.specs.declared.Outline.{Outline}
use Rattle.sender.specs.declared.Arrival.{Arrival}
use Rattle.sender.specs.declared.Sender.{Sender}
use Rattle.sender.specs.Record.{awaits_accept, awaits_response, is_closed, running, late, due, interval_of, outline}
use Rattle.sender.specs.Steps.{offering, marking, prepare, finish, fire, advanced, sets_deadline, counted, accepted_next, cancelled, is_timeout, last_if, marked_retry, marked_received, resent, reaction, reprepare, react_by, react}
use Rattle.sender.specs.Calls.{Answer, refused, answered, Step, Turn, refuses, left, or_tickets, on_refusal, advanced_to, clock_rows, advance_in, advance_of, cancel_in, cancel_of, submitted_rows, count_rows, counting, submitting, submitted_in, submitted_of, awaits_word, word_rows, after_advance, accepted_in, accepted_of, lower_failed_in, lower_failed_of, response_rows_of, reacted, late_first, receive_response_in, receive_response_of}
use Rattle.sender.specs.CallList.{Call, advance, cancel, submitted, accepted, lower_failed, receive_response, step_of}
use Rattle.sender.specs.Keeps.{prepare_same}
use Rattle.sender.specs.Own.{ours}
use Rattle.sender.proofs.Waiting.{SetsDeadline, fire_off}

-- ---- the statement

-- a call's reading; of a submission that at which it is observed
abbrev pub reading_of : Call → ℕ
reading_of (advance k) = k
reading_of (cancel k) = k
reading_of (submitted number ticket queued observed) = observed
reading_of (accepted number ticket k) = k
reading_of (lower_failed number ticket failure k) = k
reading_of (receive_response a) = a.reading

-- a submission that is not refused: it is counted
abbrev pub is_counted : Call → Answer → Bool
is_counted (submitted number ticket queued observed) (answered a) = true
is_counted (submitted number ticket queued observed) (refused n) = false
is_counted (advance k) a = false
is_counted (cancel k) a = false
is_counted (accepted number ticket k) a = false
is_counted (lower_failed number ticket failure k) a = false
is_counted (receive_response r) a = false

-- the deadline d is left as it was; or off, where the sender is closed or d was due
abbrev pub DeadlineLeft : Option ℕ → ℕ → Progress → Type 0
DeadlineLeft d k q = (q.deadline_monotonic_ms ≡ d) ⊎ ((q.deadline_monotonic_ms ≡ None) × ((is_closed q.state ≡ true) ⊎ (due d k ≡ true)))

-- of a sender that is given by its step
abbrev pub MovesNoDeadline : (Sender → Call → Step) → Type 0
MovesNoDeadline step = (s : Sender) (c : Call) → is_counted c (step s c).answer ≡ false → DeadlineLeft s.progress.deadline_monotonic_ms (reading_of c) (step s c).sender.progress

-- ---- advancing

module _ (o : Outline) (p : Progress) (k : ℕ) where
  abbrev d : Option ℕ
  d = p.deadline_monotonic_ms

  advanced_left : ((advanced_to o p k).deadline_monotonic_ms ≡ d) ⊎ (((advanced_to o p k).deadline_monotonic_ms ≡ None) × (due d k ≡ true))
  unfolding advanced
  advanced_left = go (is_closed p.state) (due d k) refl
    where
      go : (c b : Bool) → due d k ≡ b
          → ((cond (not c && b) (fire o.count o.acknowledgment_window p k) p).deadline_monotonic_ms ≡ d) ⊎ (((cond (not c && b) (fire o.count o.acknowledgment_window p k) p).deadline_monotonic_ms ≡ None) × (due d k ≡ true))
      go true b e = inl refl
      go false true e = inr (fire_off o.count o.acknowledgment_window p k, e)
      go false false e = inl refl

  -- what is left of it from there
  from_advanced : (q : Progress) → DeadlineLeft (advanced_to o p k).deadline_monotonic_ms k q → DeadlineLeft d k q
  from_advanced q = go advanced_left
    where
      go : ((advanced_to o p k).deadline_monotonic_ms ≡ d) ⊎ (((advanced_to o p k).deadline_monotonic_ms ≡ None) × (due d k ≡ true)) → DeadlineLeft (advanced_to o p k).deadline_monotonic_ms k q → DeadlineLeft d k q
      go (inl e) l = subst (λ (x : Option ℕ). DeadlineLeft x k q) e l
      go (inr f) (inl e) = inr (e ∙ f.0, inr f.1)
      go (inr f) (inr g) = inr (g.0, inr f.1)

  advances : DeadlineLeft d k (advanced_to o p k)
  advances = from_advanced (advanced_to o p k) (inl refl)

-- ---- what the calls do behind their tests

accepted_left : (n : ℕ) (w : AcknowledgmentWindow) (p : Progress) (k : ℕ) → DeadlineLeft p.deadline_monotonic_ms k (accepted_next n w p k)
accepted_left n w p k =
    let q = prepare n (offering p p.state None p.last_ticket) k in
    either (DeadlineLeft p.deadline_monotonic_ms k) (awaits_response q.state && prohibited w) (finish q (Complete LowerLayerAccepted)) q (λ e. inr (refl, inl refl))
    (λ e. inl (prepare_same (λ (r : Progress). r.deadline_monotonic_ms) n (offering p p.state None p.last_ticket) k (λ s c t. refl)))

reprepared : (n : ℕ) (p : Progress) (k : ℕ) → (reprepare n p k).deadline_monotonic_ms ≡ p.deadline_monotonic_ms
reprepared n p k =
    either (λ (q : Progress). q.deadline_monotonic_ms ≡ p.deadline_monotonic_ms) (awaits_accept p.state) p (prepare n p k) (λ e. refl)
    (λ e. prepare_same (λ (r : Progress). r.deadline_monotonic_ms) n p k (λ s c t. refl))

react_left : (x : Reaction) (n : ℕ) (p : Progress) (r : Response) (k : ℕ) → DeadlineLeft p.deadline_monotonic_ms k (react_by x n p r k)
react_left Completes n p r k = inr (refl, inl refl)
react_left Marks n p r k =
    inl (reprepared n (marking p (last_if (is_timeout r.status || not (running p.deadline_monotonic_ms)) n p.submitted (marked_retry n p.submitted p.retry r.acknowledgments (is_timeout r.status))) (marked_received n r.acknowledgments)) k)
react_left Resends n p r k = inl (reprepared n (marking p (resent n p.submitted p.retry) no_marks) k)
react_left Fails n p r k = inr (refl, inl refl)

-- a closed sender's is not due
closed_advanced : (o : Outline) (p : Progress) (k : ℕ) → is_closed p.state ≡ true → ((advanced_to o p k).deadline_monotonic_ms ≡ p.deadline_monotonic_ms) × ((advanced_to o p k).state ≡ p.state)
unfolding advanced
closed_advanced o p k c = (
  ap (λ (b : Bool). (cond (not b && due p.deadline_monotonic_ms k) (fire o.count o.acknowledgment_window p k) p).deadline_monotonic_ms) c,
  ap (λ (b : Bool). (cond (not b && due p.deadline_monotonic_ms k) (fire o.count o.acknowledgment_window p k) p).state) c,
)

reacted_left : (o : Outline) (p : Progress) (a : Arrival) → DeadlineLeft p.deadline_monotonic_ms a.reading (reacted o p a)
reacted_left o p a = go (react_left (reaction a.response.status) o.count p a.response a.reading)
  where
    go : DeadlineLeft p.deadline_monotonic_ms a.reading (react o.count p a.response a.reading) → DeadlineLeft p.deadline_monotonic_ms a.reading (advanced_to o (react o.count p a.response a.reading) a.reading)
    go (inl e) = subst (λ (x : Option ℕ). DeadlineLeft x a.reading (advanced_to o (react o.count p a.response a.reading) a.reading)) e (advances o (react o.count p a.response a.reading) a.reading)
    go (inr (e, inr f)) = off (advanced_left o (react o.count p a.response a.reading) a.reading)
      where
        off : ((advanced_to o (react o.count p a.response a.reading) a.reading).deadline_monotonic_ms ≡ (react o.count p a.response a.reading).deadline_monotonic_ms) ⊎ (((advanced_to o (react o.count p a.response a.reading) a.reading).deadline_monotonic_ms ≡ None) × (due (react o.count p a.response a.reading).deadline_monotonic_ms a.reading ≡ true)) → DeadlineLeft p.deadline_monotonic_ms a.reading (advanced_to o (react o.count p a.response a.reading) a.reading)
        off (inl g) = inr (g ∙ e, inr f)
        off (inr g) = inr (g.0, inr f)
    go (inr (e, inl c)) =
        let z = closed_advanced o (react o.count p a.response a.reading) a.reading c in
        inr (z.0 ∙ e, inl (ap is_closed z.1 ∙ c))

-- ---- the calls

module _ (P : Progress → Type 0) (p : Progress) (same : P p) where
  past : (v : Option Refusal) (t : Turn) → P t.progress → P (or_tickets p (on_refusal v p t)).progress
  past (Some n) t h = either (λ (u : Turn). P u.progress) (ltb (2 ^ 64 - 1) p.last_ticket) (refuses (63, 0) p) (refuses n p) (λ e. same) (λ e. same)
  past None t h = either (λ (u : Turn). P u.progress) (ltb (2 ^ 64 - 1) t.progress.last_ticket) (refuses (63, 0) p) t (λ e. same) (λ e. h)

submission_left : (interval : ℕ) (s : Sender) (number ticket queued observed : ℕ) → is_counted (submitted number ticket queued observed) (submitted_of interval s number ticket queued observed).answer ≡ false
    → DeadlineLeft s.progress.deadline_monotonic_ms observed (submitted_of interval s number ticket queued observed).sender.progress
unfolding submitted_of submitted_in
submission_left interval s number ticket queued observed f = by_refusal (refusal (submitted_rows s.terms.number (outline s) s.progress number ticket queued observed)) f
  where
    P : Turn → Type 0
    P t = is_counted (submitted number ticket queued observed) t.answer ≡ false → DeadlineLeft s.progress.deadline_monotonic_ms observed t.progress

    counts : (v : Option Refusal) (q : Progress) → P (on_refusal v s.progress (left q))
    counts (Some n) q f = inl refl
    counts None q f = absurd (true≢false f)

    submits : P (submitting interval (outline s) s.progress queued observed)
    submits =
        either P (prohibited (outline s).acknowledgment_window && due s.progress.deadline_monotonic_ms queued) (refuses (44, 0) (advanced_to (outline s) s.progress observed)) (counting interval (outline s).count (outline s).acknowledgment_window s.progress queued observed)
        (λ e f. advances (outline s) s.progress observed)
        (λ e. counts (refusal (count_rows interval (sets_deadline (outline s).count (outline s).acknowledgment_window s.progress) s.progress queued)) (advanced (outline s).count (outline s).acknowledgment_window (counted interval (outline s).count (outline s).acknowledgment_window s.progress queued) observed))

    by_refusal : (v : Option Refusal) → P (or_tickets s.progress (on_refusal v s.progress (submitting interval (outline s) s.progress queued observed)))
    by_refusal (Some n) = either P (ltb (2 ^ 64 - 1) s.progress.last_ticket) (refuses (63, 0) s.progress) (refuses n s.progress) (λ e f. inl refl) (λ e f. inl refl)
    by_refusal None = either P (ltb (2 ^ 64 - 1) (submitting interval (outline s) s.progress queued observed).progress.last_ticket) (refuses (63, 0) s.progress) (submitting interval (outline s) s.progress queued observed) (λ e f. inl refl) (λ e. submits)

pub moves_none : (interval : ℕ) → MovesNoDeadline (step_of interval)
unfolding advance_of advance_in cancel_of cancel_in accepted_of accepted_in lower_failed_of lower_failed_in receive_response_of receive_response_in
moves_none interval s (advance k) f =
    past (DeadlineLeft s.progress.deadline_monotonic_ms k) s.progress (inl refl) (refusal (clock_rows (outline s) s.progress k)) (left (advanced_to (outline s) s.progress k)) (advances (outline s) s.progress k)
moves_none interval s (cancel k) f =
    past (DeadlineLeft s.progress.deadline_monotonic_ms k) s.progress (inl refl) (refusal (clock_rows (outline s) s.progress k)) (left (cancelled q))
    (from_advanced (outline s) s.progress k (cancelled q)
    (either (DeadlineLeft q.deadline_monotonic_ms k) (is_closed q.state) q (finish q Cancelled) (λ e. inl refl) (λ e. inr (refl, inl refl))))
  where
    q : Progress
    q = advanced_to (outline s) s.progress k
moves_none interval s (submitted number ticket queued observed) f = submission_left interval s number ticket queued observed f
moves_none interval s (accepted number ticket k) f =
    past (DeadlineLeft s.progress.deadline_monotonic_ms k) s.progress (inl refl) (refusal (word_rows s.terms.number (outline s) s.progress number ticket k)) (after_advance s.terms.number number ticket q (accepted_next (outline s).count (outline s).acknowledgment_window q k))
    (from_advanced (outline s) s.progress k (after_advance s.terms.number number ticket q (accepted_next (outline s).count (outline s).acknowledgment_window q k)).progress
    (either (λ (t : Turn). DeadlineLeft q.deadline_monotonic_ms k t.progress) (awaits_word s.terms.number q number ticket) (left (accepted_next (outline s).count (outline s).acknowledgment_window q k)) (refuses (42, 0) q)
    (λ e. accepted_left (outline s).count (outline s).acknowledgment_window q k) (λ e. inl refl)))
  where
    q : Progress
    q = advanced_to (outline s) s.progress k
moves_none interval s (lower_failed number ticket failure k) f =
    past (DeadlineLeft s.progress.deadline_monotonic_ms k) s.progress (inl refl) (refusal (word_rows s.terms.number (outline s) s.progress number ticket k)) (after_advance s.terms.number number ticket q (finish q (Failed (LowerLayer failure))))
    (from_advanced (outline s) s.progress k (after_advance s.terms.number number ticket q (finish q (Failed (LowerLayer failure)))).progress
    (either (λ (t : Turn). DeadlineLeft q.deadline_monotonic_ms k t.progress) (awaits_word s.terms.number q number ticket) (left (finish q (Failed (LowerLayer failure)))) (refuses (42, 0) q)
    (λ e. inr (refl, inl refl)) (λ e. inl refl)))
  where
    q : Progress
    q = advanced_to (outline s) s.progress k
moves_none interval s (receive_response a) f =
    past (DeadlineLeft s.progress.deadline_monotonic_ms a.reading) s.progress (inl refl) (refusal (response_rows_of s.terms (outline s) s.progress a)) (late_first (outline s) s.progress a)
    (either (λ (t : Turn). DeadlineLeft s.progress.deadline_monotonic_ms a.reading t.progress) (late s.progress.deadline_monotonic_ms a.reading) _ (left (reacted (outline s) s.progress a))
    (λ l. from_advanced (outline s) s.progress a.reading (cond (is_closed q.state) (refuses (38, 0) q) (left (reacted (outline s) q a))).progress
    (either (λ (t : Turn). DeadlineLeft q.deadline_monotonic_ms a.reading t.progress) (is_closed q.state) (refuses (38, 0) q) (left (reacted (outline s) q a)) (λ e. inl refl) (λ e. reacted_left (outline s) q a)))
    (λ l. reacted_left (outline s) s.progress a))
  where
    q : Progress
    q = advanced_to (outline s) s.progress a.reading

pub own_moves_none : MovesNoDeadline ours
own_moves_none s = moves_none (interval_of s) s

-- ---- 34

-- a submission whose deadline would be past the clock is refused, and one whose deadline is not is never refused with 34
module _ (interval : ℕ) (s : Sender) (number ticket queued observed : ℕ) where
  pub too_far : SetsDeadline s → 2 ^ 64 - 1 - interval < queued → (a : SenderState) → (step_of interval s (submitted number ticket queued observed)).answer ≡ answered a → ⊥
  unfolding submitted_of submitted_in
  too_far sets l a ok = go (refusal (submitted_rows s.terms.number (outline s) s.progress number ticket queued observed)) ok
    where
      No : Turn → Type 0
      No t = t.answer ≡ answered a → ⊥

      no : (n : Refusal) (p : Progress) → No (refuses n p)
      no n p e = let z : ◌≡◌ {A = ℕ} 0 1 = cc in omega arith

      counts : (v : Option Refusal) → refusal (count_rows interval (sets_deadline (outline s).count (outline s).acknowledgment_window s.progress) s.progress queued) ≡ v → (q : Progress) → No (on_refusal v s.progress (left q))
      counts (Some n) e q = no n s.progress
      counts None e q = absurd (true≢false (sym (ap (λ (b : Bool). b && ltb (2 ^ 64 - 1 - interval) queued) sets ∙ lt-ltb (2 ^ 64 - 1 - interval) queued l) ∙ refusal_none (count_rows interval (sets_deadline (outline s).count (outline s).acknowledgment_window s.progress) s.progress queued) e 0))

      submits : No (submitting interval (outline s) s.progress queued observed)
      submits =
          either No (prohibited (outline s).acknowledgment_window && due s.progress.deadline_monotonic_ms queued) (refuses (44, 0) (advanced_to (outline s) s.progress observed)) (counting interval (outline s).count (outline s).acknowledgment_window s.progress queued observed)
          (λ e. no (44, 0) (advanced_to (outline s) s.progress observed))
          (λ e. counts (refusal (count_rows interval (sets_deadline (outline s).count (outline s).acknowledgment_window s.progress) s.progress queued)) refl (advanced (outline s).count (outline s).acknowledgment_window (counted interval (outline s).count (outline s).acknowledgment_window s.progress queued) observed))

      go : (v : Option Refusal) → No (or_tickets s.progress (on_refusal v s.progress (submitting interval (outline s) s.progress queued observed)))
      go (Some n) = either No (ltb (2 ^ 64 - 1) s.progress.last_ticket) (refuses (63, 0) s.progress) (refuses n s.progress) (λ e. no (63, 0) s.progress) (λ e. no n s.progress)
      go None = either No (ltb (2 ^ 64 - 1) (submitting interval (outline s) s.progress queued observed).progress.last_ticket) (refuses (63, 0) s.progress) (submitting interval (outline s) s.progress queued observed) (λ e. no (63, 0) s.progress) (λ e. submits)

  -- each row whose test holds has another number than 34
  abbrev No34 : List (Bool × Refusal) → Type 0
  No34 [] = Unit {0}
  No34 (c ∷ cs) = (c.0 ≡ true → eqb c.1.0 34 ≡ false) × No34 cs

  other_number : (cs : List (Bool × Refusal)) → No34 cs → (n : Refusal) → refusal cs ≡ Some n → eqb n.0 34 ≡ false
  other_number [] h n e = absurd (let z : ◌≡◌ {A = ℕ} 0 1 = cc in omega arith)
  other_number (c ∷ cs) h n e = go c.0 refl (other_number cs h.1 n) e
    where
      go : (b : Bool) → c.0 ≡ b → (refusal cs ≡ Some n → eqb n.0 34 ≡ false) → cond b (Some c.1) (refusal cs) ≡ Some n → eqb n.0 34 ≡ false
      go true q ih f = let z : c.1 ≡ n = cc in ap (λ (x : Refusal). eqb x.0 34) (sym z) ∙ h.0 q
      go false q ih f = ih f

  abbrev is34 : Answer → Bool
  is34 (refused n) = eqb n.0 34
  is34 (answered a) = false

  pub near : queued ≤ 2 ^ 64 - 1 - interval → (step_of interval s (submitted number ticket queued observed)).answer ≡ refused (34, 0) → ⊥
  unfolding submitted_of submitted_in
  near l e = true≢false (sym (ap is34 e) ∙ go (refusal rows) refl)
    where
      rows : List (Bool × Refusal)
      rows = submitted_rows s.terms.number (outline s) s.progress number ticket queued observed

      Other : Turn → Type 0
      Other t = is34 t.answer ≡ false

      sets : Bool
      sets = sets_deadline (outline s).count (outline s).acknowledgment_window s.progress

      fits : (b : Bool) → (b && ltb (2 ^ 64 - 1 - interval) queued) ≡ false
      fits true = le-ltb (2 ^ 64 - 1 - interval) queued l
      fits false = refl

      counts : (v : Option Refusal) → refusal (count_rows interval (sets_deadline (outline s).count (outline s).acknowledgment_window s.progress) s.progress queued) ≡ v → (q : Progress) → Other (on_refusal v s.progress (left q))
      counts (Some n) e q = other_number (count_rows interval (sets_deadline (outline s).count (outline s).acknowledgment_window s.progress) s.progress queued) ((λ t. absurd (true≢false (sym t ∙ fits (sets_deadline (outline s).count (outline s).acknowledgment_window s.progress)))), ((λ t. refl), tt)) n e
      counts None e q = refl

      submits : Other (submitting interval (outline s) s.progress queued observed)
      submits =
          either Other (prohibited (outline s).acknowledgment_window && due s.progress.deadline_monotonic_ms queued) (refuses (44, 0) (advanced_to (outline s) s.progress observed)) (counting interval (outline s).count (outline s).acknowledgment_window s.progress queued observed)
          (λ e. refl)
          (λ e. counts (refusal (count_rows interval (sets_deadline (outline s).count (outline s).acknowledgment_window s.progress) s.progress queued)) refl (advanced (outline s).count (outline s).acknowledgment_window (counted interval (outline s).count (outline s).acknowledgment_window s.progress queued) observed))

      go : (v : Option Refusal) → refusal (submitted_rows s.terms.number (outline s) s.progress number ticket queued observed) ≡ v → is34 (or_tickets s.progress (on_refusal v s.progress (submitting interval (outline s) s.progress queued observed))).answer ≡ false
      go (Some n) e =
          let k = other_number (submitted_rows s.terms.number (outline s) s.progress number ticket queued observed) ((λ t. refl), ((λ t. refl), ((λ t. refl), ((λ t. refl), ((λ t. refl), tt))))) n e in
          either Other (ltb (2 ^ 64 - 1) s.progress.last_ticket) (refuses (63, 0) s.progress) (refuses n s.progress) (λ e. refl) (λ e. k)
      go None e = either Other (ltb (2 ^ 64 - 1) (submitting interval (outline s) s.progress queued observed).progress.last_ticket) (refuses (63, 0) s.progress) (submitting interval (outline s) s.progress queued observed) (λ e. refl) (λ e. submits)
