-- A list of calls on one sender: what each answers, and what they leave. Every sender that calls reach from a try_new that was not refused has
-- the facts of reached senders, for any interval, and no call of such a list is refused with 62. Assumes nothing.
use Rattle.std.specs.Prelude.{ℕ, ◌-◌, ◌^◌, ◌≤◌, ◌≡◌, Bool, true, false, cond, not, ◌&&◌, ◌||◌, eqb, ltb, Option, Some, None}
use Rattle.std.proofs.Math.Path.{refl}
use Rattle.std.proofs.Common.{sym, ap, ◌∙◌, subst, true≢false, arith}
use mathlib.Core.List.{List, [], ◌∷◌, ◌++◌}
use borrow.Author.Tests.{ltb-false, not-true, not-false}
use Rattle.words.specs.Marks.{marked, no_marks, all_below}
use Rattle.words.specs.Search.{lowest_at}
use Rattle.words.specs.Laws.{marked_none}
use Rattle.words.specs.declared.Words.{Words}
use Rattle.link.specs.Profile.{known_profile}
use Rattle.tsar.specs.Rows.{Refusal, refusal, either, refusal_none}
use Rattle.tsar.specs.Kinds.{prohibited}
use Rattle.response.specs.Responses.{response_rows}
use Rattle.sender.specs.declared.LowerLayerFailure.{LowerLayerFailure}
use Rattle.sender.specs.declared.SenderFailure.TheVariants.{LowerLayer}
use Rattle.sender.specs.declared.SenderState.TheVariants.{Failed}
use Rattle.sender.specs.declared.Plan.{Plan}
use Rattle.sender.specs.declared.Terms.{Terms}
use Rattle.sender.specs.declared.Progress.{Progress}
use Rattle.sender.specs.declared.Outline.{Outline}
use Rattle.sender.specs.declared.Arrival.{Arrival}
use Rattle.sender.specs.declared.Sender.{Sender}
use Rattle.sender.specs.Record.{is_prepared, awaits_accept, is_closed, late, due, plan_count, outline, needs, impossible_in}
use Rattle.sender.specs.Steps.{finish, advanced, sets_deadline, counted, accepted_next, cancelled, react}
use Rattle.sender.specs.Calls.{Answer, refused, answered, Step, Turn, refuses, left, or_tickets, on_refusal, advanced_to, clock_rows, advance_in, advance_of, cancel_in, cancel_of, owns, prepared_at, offer_rows, submitted_rows, count_rows, counting, submitting, submitted_in, submitted_of, awaits_word, awaited_rows, word_rows, after_advance, accepted_in, accepted_of, lower_failed_in, lower_failed_of, acknowledges_unsubmitted, arrival_rows, entry_rows, response_rows_of, reacted, late_first, receive_response_in, receive_response_of}
use Rattle.sender.specs.TryNew.{first_sender}
use Rattle.sender.specs.Pending.{and_both, or_none, below_none}
use Rattle.sender.specs.Reached.{Standing, Reached, reached_later, not_impossible}
use Rattle.sender.specs.Keeps.{finish_reached, advanced_submitted, advanced_reached, counted_reached, accepted_reached, accepted_last, cancelled_reached, cancelled_last, react_reached}

-- ---- the calls

pub data Call : Type 0 where
  advance : ℕ → Call
  cancel : ℕ → Call
  submitted : ℕ → ℕ → ℕ → ℕ → Call
  accepted : ℕ → ℕ → ℕ → Call
  lower_failed : ℕ → ℕ → LowerLayerFailure → ℕ → Call
  receive_response : Arrival → Call

-- what a call answers and leaves: the definitions that the contracts cite
abbrev pub step_of : ℕ → Sender → Call → Step
step_of interval s (advance k) = advance_of s k
step_of interval s (cancel k) = cancel_of s k
step_of interval s (submitted number ticket queued observed) = submitted_of interval s number ticket queued observed
step_of interval s (accepted number ticket k) = accepted_of s number ticket k
step_of interval s (lower_failed number ticket failure k) = lower_failed_of s number ticket failure k
step_of interval s (receive_response a) = receive_response_of s a

-- what a list of calls leaves and answers, by any such step: each call gets the sender as the last one left it
abbrev pub afterwards : (Sender → Call → Step) → Sender → List Call → Sender
afterwards step s [] = s
afterwards step s (c ∷ cs) = afterwards step (step s c).sender cs

abbrev pub answers : (Sender → Call → Step) → Sender → List Call → List Answer
answers step s [] = []
answers step s (c ∷ cs) = (step s c).answer ∷ answers step (step s c).sender cs

-- none of a list of answers is a refusal with 62
abbrev pub NoneImpossible : List Answer → Type 0
NoneImpossible [] = Unit {0}
NoneImpossible (a ∷ rest) = (a ≡ refused (62, 0) → ⊥) × NoneImpossible rest

-- ---- the facts at the last reading

abbrev pub Now : ℕ → Outline → Progress → Type 0
Now interval o p = Reached interval o.count o.acknowledgment_window p p.last_monotonic_ms

abbrev pub ReachedSender : ℕ → Sender → Type 0
ReachedSender interval s = Now interval (outline s) s.progress

advanced_last : (o : Outline) (p : Progress) (k : ℕ) → (advanced_to o p k).last_monotonic_ms ≡ k
unfolding advanced
advanced_last o p k = refl

-- ---- refusals and 63 keep what the call was given

turn_keeps : (P : Progress → Type 0) (p : Progress) (t : Turn) → P p → P t.progress → P (or_tickets p t).progress
turn_keeps P p t a b = either (λ (u : Turn). P u.progress) (ltb (2 ^ 64 - 1) t.progress.last_ticket) (refuses (63, 0) p) t (λ e. a) (λ e. b)

refusal_keeps : (P : Progress → Type 0) (rows : List (Bool × Refusal)) (p : Progress) (t : Turn) → P p → (refusal rows ≡ None → P t.progress) → P (on_refusal (refusal rows) p t).progress
refusal_keeps P rows p t a b = go (refusal rows) refl
  where
    go : (r : Option Refusal) → refusal rows ≡ r → P (on_refusal r p t).progress
    go (Some n) e = a
    go None e = b e

rows_keep : (P : Progress → Type 0) (rows : List (Bool × Refusal)) (p : Progress) (t : Turn) → P p → (refusal rows ≡ None → P t.progress) → P (or_tickets p (on_refusal (refusal rows) p t)).progress
rows_keep P rows p t a b = turn_keeps P p (on_refusal (refusal rows) p t) a (refusal_keeps P rows p t a b)

module _ (interval : ℕ) (o : Outline) (p : Progress) (h : Now interval o p) where
  -- the facts at a reading that is not below the last one
  at : (k : ℕ) → ltb k p.last_monotonic_ms ≡ false → Reached interval o.count o.acknowledgment_window p k
  at k e = reached_later interval o.count o.acknowledgment_window p p.last_monotonic_ms k (ltb-false k p.last_monotonic_ms e) h

  -- after an advance
  later : (k : ℕ) → ltb k p.last_monotonic_ms ≡ false → Reached interval o.count o.acknowledgment_window (advanced_to o p k) k
  later k e = advanced_reached interval o.count o.acknowledgment_window p k (at k e)

  now_at : (q : Progress) (k : ℕ) → q.last_monotonic_ms ≡ k → Reached interval o.count o.acknowledgment_window q k → Now interval o q
  now_at q k e r = subst (λ (j : ℕ). Reached interval o.count o.acknowledgment_window q j) (sym e) r

  later_now : (k : ℕ) → ltb k p.last_monotonic_ms ≡ false → Now interval o (advanced_to o p k)
  later_now k e = now_at (advanced_to o p k) k (advanced_last o p k) (later k e)

  advance_keeps : (k : ℕ) → Now interval o (advance_in o p k).progress
  unfolding advance_in
  advance_keeps k = rows_keep (Now interval o) (clock_rows o p k) p (left (advanced_to o p k)) h (λ e. later_now k (refusal_none (clock_rows o p k) e 1))

  cancel_keeps : (k : ℕ) → Now interval o (cancel_in o p k).progress
  unfolding cancel_in
  cancel_keeps k =
      rows_keep (Now interval o) (clock_rows o p k) p (left (cancelled (advanced_to o p k))) h
      (λ e.
      let r = later k (refusal_none (clock_rows o p k) e 1) in
      now_at (cancelled (advanced_to o p k)) k
      (cancelled_last interval o.count o.acknowledgment_window (advanced_to o p k) k r ∙ advanced_last o p k)
      (cancelled_reached interval o.count o.acknowledgment_window (advanced_to o p k) k r))

  submitted_keeps : (own number ticket queued observed : ℕ) → Now interval o (submitted_in interval own o p number ticket queued observed).progress
  unfolding submitted_in
  submitted_keeps own number ticket queued observed =
      rows_keep (Now interval o) rows p (submitting interval o p queued observed) h
      (λ e.
      let clock = refusal_none rows e 1 in
      let mine = (and_both (is_prepared p.state) (owns own p.current number ticket) (not-false (is_prepared p.state && owns own p.current number ticket) (refusal_none rows e 3))).0 in
      let order = ltb-false observed queued (or_none (ltb queued (prepared_at p.current)) (ltb observed queued) (refusal_none rows e 4)).1 in
      either (λ (t : Turn). Now interval o t.progress) (prohibited o.acknowledgment_window && due p.deadline_monotonic_ms queued) (refuses (44, 0) (advanced_to o p observed)) (counting interval o.count o.acknowledgment_window p queued observed)
      (λ d. later_now observed clock)
      (λ d. refusal_keeps (Now interval o) (count_rows interval (sets_deadline o.count o.acknowledgment_window p) p queued) p (left (advanced_to o q observed)) h
      (λ f. now_at (advanced_to o q observed) observed (advanced_last o q observed)
      (advanced_reached interval o.count o.acknowledgment_window q observed (counted_reached interval o.count o.acknowledgment_window p queued observed h.standing mine order)))))
    where
      rows : List (Bool × Refusal)
      rows = submitted_rows own o p number ticket queued observed

      q : Progress
      q = counted interval o.count o.acknowledgment_window p queued

  -- a word of the lower layer, with what comes next where it is awaited
  word_keeps : (own number ticket k : ℕ) (next : Progress) → (awaits_accept (advanced_to o p k).state ≡ true → Reached interval o.count o.acknowledgment_window (advanced_to o p k) k → Now interval o next) → Now interval o (or_tickets p (on_refusal (refusal (word_rows own o p number ticket k)) p (after_advance own number ticket (advanced_to o p k) next))).progress
  word_keeps own number ticket k next f =
      rows_keep (Now interval o) (word_rows own o p number ticket k) p (after_advance own number ticket (advanced_to o p k) next) h
      (λ e.
      let clock = refusal_none (word_rows own o p number ticket k) e 1 in
      either (λ (t : Turn). Now interval o t.progress) (awaits_word own (advanced_to o p k) number ticket) (left next) (refuses (42, 0) (advanced_to o p k))
      (λ a. f (and_both (awaits_accept (advanced_to o p k).state) (owns own (advanced_to o p k).current number ticket) a).0 (later k clock)) (λ a. later_now k clock))

  accepted_keeps : (own number ticket k : ℕ) → Now interval o (accepted_in own o p number ticket k).progress
  unfolding accepted_in
  accepted_keeps own number ticket k =
      word_keeps own number ticket k (accepted_next o.count o.acknowledgment_window (advanced_to o p k) k)
      (λ a r. now_at (accepted_next o.count o.acknowledgment_window (advanced_to o p k) k) k
      (accepted_last interval o.count o.acknowledgment_window (advanced_to o p k) k r ∙ advanced_last o p k)
      (accepted_reached interval o.count o.acknowledgment_window (advanced_to o p k) k r a))

  failed_keeps : (own number ticket : ℕ) (failure : LowerLayerFailure) (k : ℕ) → Now interval o (lower_failed_in own o p number ticket failure k).progress
  unfolding lower_failed_in
  failed_keeps own number ticket failure k =
      word_keeps own number ticket k (finish (advanced_to o p k) (Failed (LowerLayer failure)))
      (λ a r. now_at (finish (advanced_to o p k) (Failed (LowerLayer failure))) k (advanced_last o p k)
      (finish_reached interval o.count o.acknowledgment_window (advanced_to o p k) k r.standing.least r.standing.most r.standing.marks (Failed (LowerLayer failure)) refl))

-- the reaction and the closing advance
reacted_now : (interval : ℕ) (o : Outline) (p : Progress) (a : Arrival) → Reached interval o.count o.acknowledgment_window p a.reading → acknowledges_unsubmitted o.count p.submitted a.response.acknowledgments ≡ false → all_below o.count (λ i. not (marked p.submitted i)) ≡ false → Now interval o (reacted o p a)
reacted_now interval o p a r x y =
    let q = react o.count p a.response a.reading in
    subst (λ (j : ℕ). Reached interval o.count o.acknowledgment_window (advanced_to o q a.reading) j) (sym (advanced_last o q a.reading))
    (advanced_reached interval o.count o.acknowledgment_window q a.reading (react_reached interval o.count o.acknowledgment_window p a.reading r a.response x y))

response_keeps : (interval : ℕ) (t : Terms) (o : Outline) (p : Progress) (a : Arrival) → Now interval o p → Now interval o (receive_response_in t o p a).progress
unfolding receive_response_in
response_keeps interval t o p a h =
    rows_keep (Now interval o) rows p (late_first o p a) h
    (λ e.
    let clock = refusal_none rows e 1 in
    let Some = refusal_none rows e 13 in
    let own = refusal_none rows e 14 in
    either (λ (u : Turn). Now interval o u.progress) (late p.deadline_monotonic_ms a.reading) _ (left (reacted o p a))
    (λ l. either (λ (u : Turn). Now interval o u.progress) (is_closed q.state) (refuses (38, 0) q) (left (reacted o q a))
    (λ c. later_now interval o p h a.reading clock)
    (λ c. reacted_now interval o q a (later interval o p h a.reading clock)
    (ap (λ (w : Words). acknowledges_unsubmitted o.count w a.response.acknowledgments) same ∙ own)
    (ap (λ (w : Words). all_below o.count (λ i. not (marked w i))) same ∙ Some)))
    (λ l. reacted_now interval o p a (at interval o p h a.reading clock) own Some))
  where
    rows : List (Bool × Refusal)
    rows = response_rows_of t o p a

    q : Progress
    q = advanced_to o p a.reading

    same : (advanced_to o p a.reading).submitted ≡ p.submitted
    same = advanced_submitted o.count o.acknowledgment_window p a.reading

-- ---- every call leaves the terms, the profile among them, whatever sender it is made on

pub terms_kept : (interval : ℕ) (s : Sender) (c : Call) → (step_of interval s c).sender.terms ≡ s.terms
unfolding advance_of cancel_of submitted_of accepted_of lower_failed_of receive_response_of
terms_kept interval s (advance k) = refl
terms_kept interval s (cancel k) = refl
terms_kept interval s (submitted number ticket queued observed) = refl
terms_kept interval s (accepted number ticket k) = refl
terms_kept interval s (lower_failed number ticket failure k) = refl
terms_kept interval s (receive_response a) = refl

-- ---- every call keeps the facts

pub step_keeps : (interval : ℕ) (s : Sender) (c : Call) → ReachedSender interval s → ReachedSender interval (step_of interval s c).sender
unfolding advance_of cancel_of submitted_of accepted_of lower_failed_of receive_response_of
step_keeps interval s (advance k) h = advance_keeps interval (outline s) s.progress h k
step_keeps interval s (cancel k) h = cancel_keeps interval (outline s) s.progress h k
step_keeps interval s (submitted number ticket queued observed) h = submitted_keeps interval (outline s) s.progress h s.terms.number number ticket queued observed
step_keeps interval s (accepted number ticket k) h = accepted_keeps interval (outline s) s.progress h s.terms.number number ticket k
step_keeps interval s (lower_failed number ticket failure k) h = failed_keeps interval (outline s) s.progress h s.terms.number number ticket failure k
step_keeps interval s (receive_response a) h = response_keeps interval s.terms (outline s) s.progress a h

-- what try_new makes has them
pub first_reached : (interval : ℕ) (t : Terms) (p : Plan) (k : ℕ) → 2 ≤ plan_count p → plan_count p ≤ 256 → ReachedSender interval (first_sender t p k)
first_reached interval t p k l m =
    record {
      standing = record {
        least = l;
        most = m;
        marks = record {
          submitted_below = below_none (plan_count p);
          retry_below = below_none (plan_count p);
          received_below = below_none (plan_count p);
          received_submitted = λ i j e. absurd (true≢false (sym e ∙ marked_none i));
        };
        stands = (_, refl, lowest_at (needs no_marks no_marks) (plan_count p) 0 (record { within = omega arith; holds = rw (marked_none 0); below = λ j b. absurd (omega arith) }), omega arith);
      };
      in_time = tt;
    }

-- ---- no call is refused with 62

abbrev is_impossible : Answer → Bool
is_impossible (refused r) = eqb r.0 62
is_impossible (answered s) = false

-- rows that refuse with another number
abbrev none_says : List (Bool × Refusal) → Bool
none_says [] = true
none_says (c ∷ cs) = not (eqb c.1.0 62) && none_says cs

says_other : (cs : List (Bool × Refusal)) → none_says cs ≡ true → (r : Refusal) → refusal cs ≡ Some r → eqb r.0 62 ≡ false
says_other [] e r f = absurd (let z : ◌≡◌ {A = ℕ} 0 1 = cc in omega arith)
says_other (c ∷ cs) e r f =
    let b = and_both (not (eqb c.1.0 62)) (none_says cs) e in
    go c.0 b.0 (says_other cs b.1 r) f
  where
    go : (t : Bool) → not (eqb c.1.0 62) ≡ true → (refusal cs ≡ Some r → eqb r.0 62 ≡ false) → cond t (Some c.1) (refusal cs) ≡ Some r → eqb r.0 62 ≡ false
    go true n rest f =
        let z : c.1 ≡ r = cc in
        ap (λ (v : Refusal). eqb v.0 62) (sym z) ∙ not-true (eqb c.1.0 62) n
    go false n rest f = rest f

-- rows of which only the first, which does not hold, has that number
says_not : (b : Bool) (v : Refusal) (cs : List (Bool × Refusal)) (p : Progress) (t : Turn) → b ≡ false → none_says cs ≡ true → is_impossible t.answer ≡ false → is_impossible (or_tickets p (on_refusal (refusal ((b, v) ∷ cs)) p t)).answer ≡ false
says_not b v cs p t e n a =
    either (λ (u : Turn). is_impossible u.answer ≡ false) (ltb (2 ^ 64 - 1) (on_refusal (refusal ((b, v) ∷ cs)) p t).progress.last_ticket) (refuses (63, 0) p) (on_refusal (refusal ((b, v) ∷ cs)) p t) (λ f. refl)
    (λ f. go (refusal cs) refl)
  where
    go : (r : Option Refusal) → refusal cs ≡ r → is_impossible (on_refusal (refusal ((b, v) ∷ cs)) p t).answer ≡ false
    go (Some r) f = rw (e, f) (says_other cs n r f)
    go None f = rw (e, f) a

-- a sender of a known profile that stands as the reached ones do is not impossible
pub standing_possible : (o : Outline) (p : Progress) → Standing o.count o.acknowledgment_window p → known_profile o.profile ≡ true → impossible_in o p ≡ false
standing_possible o p h k = ap (λ (b : Bool). b || not (known_profile o.profile)) (not_impossible o.count o.acknowledgment_window p h) ∙ ap not k

module _ (interval : ℕ) (o : Outline) (p : Progress) (h : Now interval o p) (k : known_profile o.profile ≡ true) where
  possible : impossible_in o p ≡ false
  possible = standing_possible o p h.standing k

  counting_says : (queued observed : ℕ) → is_impossible (counting interval o.count o.acknowledgment_window p queued observed).answer ≡ false
  counting_says queued observed = go (refusal rows) refl
    where
      rows : List (Bool × Refusal)
      rows = count_rows interval (sets_deadline o.count o.acknowledgment_window p) p queued

      go : (r : Option Refusal) → refusal (count_rows interval (sets_deadline o.count o.acknowledgment_window p) p queued) ≡ r → is_impossible (on_refusal r p (left (advanced_to o (counted interval o.count o.acknowledgment_window p queued) observed))).answer ≡ false
      go (Some r) f = says_other (count_rows interval (sets_deadline o.count o.acknowledgment_window p) p queued) refl r f
      go None f = refl

  advance_says : (k : ℕ) → is_impossible (advance_in o p k).answer ≡ false
  unfolding advance_in
  advance_says k = says_not (impossible_in o p) (62, 0) ((ltb k p.last_monotonic_ms, (33, 0)) ∷ []) p (left (advanced_to o p k)) possible refl refl

  cancel_says : (k : ℕ) → is_impossible (cancel_in o p k).answer ≡ false
  unfolding cancel_in
  cancel_says k = says_not (impossible_in o p) (62, 0) ((ltb k p.last_monotonic_ms, (33, 0)) ∷ []) p (left (cancelled (advanced_to o p k))) possible refl refl

  submitted_says : (own number ticket queued observed : ℕ) → is_impossible (submitted_in interval own o p number ticket queued observed).answer ≡ false
  unfolding submitted_in
  submitted_says own number ticket queued observed =
      says_not (impossible_in o p) (62, 0) ((ltb observed p.last_monotonic_ms, (33, 0)) ∷ offer_rows own p number ticket queued observed) p (submitting interval o p queued observed) possible refl
      (either (λ (t : Turn). is_impossible t.answer ≡ false) (prohibited o.acknowledgment_window && due p.deadline_monotonic_ms queued) (refuses (44, 0) (advanced_to o p observed)) (counting interval o.count o.acknowledgment_window p queued observed)
      (λ e. refl) (λ e. counting_says queued observed))

  word_says : (own number ticket k : ℕ) (next : Progress) → is_impossible (or_tickets p (on_refusal (refusal (word_rows own o p number ticket k)) p (after_advance own number ticket (advanced_to o p k) next))).answer ≡ false
  word_says own number ticket k next =
      says_not (impossible_in o p) (62, 0) ((ltb k p.last_monotonic_ms, (33, 0)) ∷ awaited_rows own p number ticket) p (after_advance own number ticket (advanced_to o p k) next) possible refl
      (either (λ (t : Turn). is_impossible t.answer ≡ false) (awaits_word own (advanced_to o p k) number ticket) (left next) (refuses (42, 0) (advanced_to o p k)) (λ e. refl) (λ e. refl))

  accepted_says : (own number ticket k : ℕ) → is_impossible (accepted_in own o p number ticket k).answer ≡ false
  unfolding accepted_in
  accepted_says own number ticket k = word_says own number ticket k (accepted_next o.count o.acknowledgment_window (advanced_to o p k) k)

  failed_says : (own number ticket : ℕ) (failure : LowerLayerFailure) (k : ℕ) → is_impossible (lower_failed_in own o p number ticket failure k).answer ≡ false
  unfolding lower_failed_in
  failed_says own number ticket failure k = word_says own number ticket k (finish (advanced_to o p k) (Failed (LowerLayer failure)))

  response_says : (t : Terms) (a : Arrival) → is_impossible (receive_response_in t o p a).answer ≡ false
  unfolding receive_response_in
  response_says t a =
      says_not (impossible_in o p) (62, 0) ((ltb a.reading p.last_monotonic_ms, (33, 0)) ∷ (arrival_rows t p a ++ (response_rows t.version a.response ++ entry_rows o p a.response))) p (late_first o p a) possible refl
      (either (λ (u : Turn). is_impossible u.answer ≡ false) (late p.deadline_monotonic_ms a.reading) _ (left (reacted o p a))
      (λ l. either (λ (u : Turn). is_impossible u.answer ≡ false) (is_closed (advanced_to o p a.reading).state) (refuses (38, 0) (advanced_to o p a.reading)) (left (reacted o (advanced_to o p a.reading) a)) (λ c. refl) (λ c. refl)) (λ l. refl))

step_says : (interval : ℕ) (s : Sender) (c : Call) → ReachedSender interval s → known_profile s.terms.profile ≡ true → is_impossible (step_of interval s c).answer ≡ false
unfolding advance_of cancel_of submitted_of accepted_of lower_failed_of receive_response_of
step_says interval s (advance k) h known = advance_says interval (outline s) s.progress h known k
step_says interval s (cancel k) h known = cancel_says interval (outline s) s.progress h known k
step_says interval s (submitted number ticket queued observed) h known = submitted_says interval (outline s) s.progress h known s.terms.number number ticket queued observed
step_says interval s (accepted number ticket k) h known = accepted_says interval (outline s) s.progress h known s.terms.number number ticket k
step_says interval s (lower_failed number ticket failure k) h known = failed_says interval (outline s) s.progress h known s.terms.number number ticket failure k
step_says interval s (receive_response a) h known = response_says interval (outline s) s.progress h known s.terms a

-- ---- of every list of calls

pub list_keeps : (interval : ℕ) (s : Sender) (cs : List Call) → ReachedSender interval s → ReachedSender interval (afterwards (step_of interval) s cs)
list_keeps interval s [] h = h
list_keeps interval s (c ∷ cs) h = list_keeps interval (step_of interval s c).sender cs (step_keeps interval s c h)

pub list_says : (interval : ℕ) (s : Sender) (cs : List Call) → ReachedSender interval s → known_profile s.terms.profile ≡ true → NoneImpossible (answers (step_of interval) s cs)
list_says interval s [] h k = tt
list_says interval s (c ∷ cs) h k =
    (λ e. true≢false (sym (ap is_impossible e) ∙ step_says interval s c h k), list_says interval (step_of interval s c).sender cs (step_keeps interval s c h) (ap (λ (t : Terms). known_profile t.profile) (terms_kept interval s c) ∙ k))
