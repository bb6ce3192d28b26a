-- How long a sender waits: document 02, 2026-11, '150,000 ms for the sender; profile 1 keeps .. 330,000'. A submission that sets a deadline sets it to
-- its queued reading and the interval, neither less nor more, and an advance waits until then (that no other call moves it is in Deadlines); for any
-- interval, then of ours at its own, then in the numbers of both profiles. Over any record: none need be reached. At the end two senders of one plan, computed. Assumes nothing.
use Prim.Native.Nat.{ℕ, ◌+◌, ◌-◌, ◌^◌, ◌≤◌, ◌<◌}
use mathlib.Core.Path.{◌≡◌, refl, ap, ◌∙◌, subst}
use mathlib.Core.List.{List, [], ◌∷◌}
use mathlib.Core.Bool.{Bool, true, false, cond, not, ◌&&◌}
use Rattle.std.specs.Prelude.{Option, Some, None}
use native.Mathlib.Omega.{arith}
use lib.Dec.{eqb, ltb}
use borrow.Author.Tests.{le-leb, lt-leb}
use Rattle.words.specs.Marks.{marked, sum_below, words_of, all_below, lowest_of}
use Rattle.link.specs.Profile.{known_profile, sender_interval}
use Rattle.link.specs.Laws.{sender_1, sender_2}
use Rattle.link.specs.declared.HigherLayerProtocol.TheVariants.{Segmented}
use Rattle.tsar.specs.Rows.{Refusal, refusal, either}
use Rattle.tsar.specs.Kinds.{prohibited}
use Rattle.tsar.specs.declared.AcknowledgmentWindow.{AcknowledgmentWindow}
use Rattle.tsar.specs.declared.AcknowledgmentWindow.TheVariants as window
use Rattle.segmentation.specs.Plan.{plan_message, plan_of, segment_count}
use Rattle.segmentation.specs.Frozen.{kept_heads, no_plan}
use Rattle.segmentation.specs.declared.SegmentedMessage.{SegmentedMessage}
use Rattle.sender.specs.declared.PlanForm.TheVariants as form
use Rattle.sender.specs.declared.Plan.{Plan}
use Rattle.sender.specs.declared.Terms.{Terms}
use Rattle.sender.specs.declared.Completion.TheVariants.{ExceptionIntervalElapsed}
use Rattle.sender.specs.declared.SenderFailure.TheVariants.{SegmentInterval}
use Rattle.sender.specs.declared.SenderState.{SenderState}
use Rattle.sender.specs.declared.SenderState.TheVariants.{Prepared, AwaitingAccept, Complete, Failed}
use Rattle.sender.specs.declared.Progress.{Progress}
use Rattle.sender.specs.declared.Outline.{Outline}
use Rattle.sender.specs.declared.Sender.{Sender}
use Rattle.sender.specs.Record.{awaits_response, is_closed, due, is_exceptions, has_pending, interval_of, outline, impossible}
use Rattle.sender.specs.Steps.{until, marking, read, prepare, finish, again, fire, advanced, is_last, sets_deadline, counted}
use Rattle.sender.specs.Calls.{answered, Step, Turn, refuses, left, on_refusal, advanced_to, clock_rows, advance_in, advance_of, submitted_rows, count_rows, counting, submitting, submitted_in, submitted_of}
use Rattle.sender.specs.TryNew.{is_given, same_heads, try_new_of}
use Rattle.sender.specs.CallList.{Call, advance, submitted, step_of, afterwards, ReachedSender}
use Rattle.sender.specs.Keeps.{prepare_same}
use Rattle.sender.specs.Left.{idle}
use Rattle.sender.specs.Own.{ours, own_calls_reach}

-- of whatever profile, a sender waits for some time
pub waits_some : (p : ℕ) → 0 < sender_interval p
unfolding sender_interval
waits_some p = either (λ (n : ℕ). 0 < n) (eqb p 2) 150000 330000 (λ e. omega arith) (λ e. omega arith)

-- ---- what a turn that is not refused leaves

module _ (q : Progress) (a : SenderState) where
  abbrev Gives : Turn → Type 0
  Gives t = t.answer ≡ answered a → t.progress ≡ q

  not_refused : (n : Refusal) (p : Progress) → Gives (refuses n p)
  not_refused n p e = absurd (let z : ◌≡◌ {A = ℕ} 0 1 = cc in omega arith)

  past_refusal : (v : Option Refusal) (p : Progress) (t : Turn) → Gives t → Gives (on_refusal v p t)
  past_refusal (Some n) p t h = not_refused n p
  past_refusal None p t h = h

  -- behind the rows and 63
  past_rows : (v : Option Refusal) (p : Progress) (t : Turn) → Gives t → Gives (cond (ltb (2 ^ 64 - 1) (on_refusal v p t).progress.last_ticket) (refuses (63, 0) p) (on_refusal v p t))
  past_rows v p t h = either Gives (ltb (2 ^ 64 - 1) (on_refusal v p t).progress.last_ticket) (refuses (63, 0) p) (on_refusal v p t) (λ e. not_refused (63, 0) p) (λ e. past_refusal v p t h)

-- ---- advancing: before the deadline, and at it or past it

module _ (s : Sender) (k : ℕ) (a : SenderState) (ok : (advance_of s k).answer ≡ answered a) where
  advance_gives : (advance_of s k).sender.progress ≡ advanced_to (outline s) s.progress k
  unfolding advance_of advance_in
  advance_gives =
      past_rows (advanced_to (outline s) s.progress k) a (refusal (clock_rows (outline s) s.progress k)) s.progress (left (advanced_to (outline s) s.progress k)) (λ e. refl) ok

-- what fires takes the deadline away
pub fire_off : (n : ℕ) (w : AcknowledgmentWindow) (p : Progress) (k : ℕ) → (fire n w p k).deadline_monotonic_ms ≡ None
fire_off n w p k = go (prohibited w) (is_exceptions w && awaits_response p.state && not (has_pending n p.submitted p.retry))
  where
    sent_again : Progress
    sent_again = until (marking p (again n p p.current) p.received) None

    go : (b c : Bool) → (cond b (finish p (Failed SegmentInterval)) (cond c (finish p (Complete ExceptionIntervalElapsed)) (prepare n sent_again k))).deadline_monotonic_ms ≡ None
    go true c = refl
    go false true = refl
    go false false = prepare_same (λ (q : Progress). q.deadline_monotonic_ms) n sent_again k (λ s c t. refl)

-- an open sender whose deadline is due
due_off : (o : Outline) (p : Progress) (k : ℕ) → is_closed p.state ≡ false → due p.deadline_monotonic_ms k ≡ true → (advanced_to o p k).deadline_monotonic_ms ≡ None
unfolding advanced
due_off o p k c d =
    ap (λ (b : Bool). (cond (not b && due p.deadline_monotonic_ms k) (fire o.count o.acknowledgment_window p k) p).deadline_monotonic_ms) c
    ∙ ap (λ (b : Bool). (cond b (fire o.count o.acknowledgment_window p k) p).deadline_monotonic_ms) d
    ∙ fire_off o.count o.acknowledgment_window p k

-- a sender that has submitted a segment and waits until d: that is its deadline; an advance before d, unless it is refused, leaves all but the last
-- reading as it was; and one at d or past it leaves no deadline
pub record WaitsUntil (d : ℕ) (s : Sender) : Type 0 where
  pub awaits : s.progress.state ≡ AwaitingAccept
  pub runs : s.progress.deadline_monotonic_ms ≡ Some d
  pub before : (k : ℕ) (a : SenderState) → k < d → (advance_of s k).answer ≡ answered a → (advance_of s k).sender.progress ≡ read s.progress k
  pub at : (k : ℕ) (a : SenderState) → d ≤ k → (advance_of s k).answer ≡ answered a → (advance_of s k).sender.progress.deadline_monotonic_ms ≡ None

waits_until : (d : ℕ) (s : Sender) → s.progress.state ≡ AwaitingAccept → s.progress.deadline_monotonic_ms ≡ Some d → WaitsUntil d s
waits_until d s w r =
    record {
      awaits = w;
      runs = r;
      before = λ k a l ok. advance_gives s k a ok ∙ idle (outline s) s.progress k (ap (λ (x : Option ℕ). due x k) r ∙ lt-leb d k l);
      at = λ k a l ok. ap (λ (q : Progress). q.deadline_monotonic_ms) (advance_gives s k a ok) ∙ due_off (outline s) s.progress k (ap is_closed w) (ap (λ (x : Option ℕ). due x k) r ∙ le-leb d k l);
    }

-- ---- a submission, for any interval

-- the present submission sets a deadline
abbrev pub SetsDeadline : Sender → Type 0
SetsDeadline s = sets_deadline (outline s).count (outline s).acknowledgment_window s.progress ≡ true

-- each does where the window is not Prohibited
pub asked_sets : (n : ℕ) (w : AcknowledgmentWindow) (p : Progress) → prohibited w ≡ false → sets_deadline n w p ≡ true
asked_sets n w p e = ap (λ (b : Bool). not (is_last n p && b)) e ∙ go (is_last n p)
  where
    go : (b : Bool) → not (b && false) ≡ true
    go true = refl
    go false = refl

-- the progress once it is counted, before time goes on to the observed reading
abbrev pub counted_in : ℕ → Sender → ℕ → Progress
counted_in interval s queued = counted interval (outline s).count (outline s).acknowledgment_window s.progress queued

-- its deadline is then exactly an interval past the queued reading
pub counted_deadline : (interval : ℕ) (s : Sender) (queued : ℕ) → SetsDeadline s → (counted_in interval s queued).deadline_monotonic_ms ≡ Some (queued + interval)
counted_deadline interval s queued e = ap (λ (b : Bool). cond b (Some (queued + interval)) None) e

module _ (interval : ℕ) (s : Sender) (number ticket queued observed : ℕ) (a : SenderState) (ok : (step_of interval s (submitted number ticket queued observed)).answer ≡ answered a) where
  -- a submitted that is not refused leaves that, advanced to the observed reading
  pub submitted_counts : (step_of interval s (submitted number ticket queued observed)).sender.progress ≡ advanced_to (outline s) (counted_in interval s queued) observed
  unfolding submitted_of submitted_in
  submitted_counts =
      let p = s.progress in
      let q = advanced_to (outline s) (counted_in interval s queued) observed in
      past_rows q a (refusal (submitted_rows s.terms.number (outline s) p number ticket queued observed)) p (submitting interval (outline s) p queued observed)
      (either (Gives q a) (prohibited (outline s).acknowledgment_window && due p.deadline_monotonic_ms queued) (refuses (44, 0) (advanced_to (outline s) p observed)) (counting interval (outline s).count (outline s).acknowledgment_window p queued observed)
      (λ d. not_refused q a (44, 0) (advanced_to (outline s) p observed))
      (λ d. past_refusal q a (refusal (count_rows interval (sets_deadline (outline s).count (outline s).acknowledgment_window p) p queued)) p (left q) (λ e. refl)))
      ok

  -- and waits, where that reading is before the deadline
  pub submitted_waits : SetsDeadline s → observed < queued + interval → WaitsUntil (queued + interval) (step_of interval s (submitted number ticket queued observed)).sender
  submitted_waits e l =
      let c = counted_deadline interval s queued e in
      let same = submitted_counts ∙ idle (outline s) (counted_in interval s queued) observed (ap (λ (x : Option ℕ). due x observed) c ∙ lt-leb (queued + interval) observed l) in
      waits_until (queued + interval) (step_of interval s (submitted number ticket queued observed)).sender
      (ap (λ (q : Progress). q.state) same)
      (ap (λ (q : Progress). q.deadline_monotonic_ms) same ∙ c)

  -- where it is at the deadline or past it, none is left
  pub submitted_late : SetsDeadline s → queued + interval ≤ observed → (step_of interval s (submitted number ticket queued observed)).sender.progress.deadline_monotonic_ms ≡ None
  submitted_late e l =
      ap (λ (q : Progress). q.deadline_monotonic_ms) submitted_counts
      ∙ due_off (outline s) (counted_in interval s queued) observed refl (ap (λ (x : Option ℕ). due x observed) (counted_deadline interval s queued e) ∙ le-leb (queued + interval) observed l)

-- ---- of ours, at its own interval

module _ (s : Sender) (number ticket queued observed : ℕ) (a : SenderState) (ok : (ours s (submitted number ticket queued observed)).answer ≡ answered a) (sets : SetsDeadline s) where
  pub own_waits : observed < queued + interval_of s → WaitsUntil (queued + interval_of s) (ours s (submitted number ticket queued observed)).sender
  own_waits l = submitted_waits (interval_of s) s number ticket queued observed a ok sets l

  pub own_late : queued + interval_of s ≤ observed → (ours s (submitted number ticket queued observed)).sender.progress.deadline_monotonic_ms ≡ None
  own_late l = submitted_late (interval_of s) s number ticket queued observed a ok sets l

  -- where that is n
  waits_by : (n : ℕ) → interval_of s ≡ n → observed < queued + n → WaitsUntil (queued + n) (ours s (submitted number ticket queued observed)).sender
  waits_by n e l = subst (λ (m : ℕ). WaitsUntil (queued + m) (ours s (submitted number ticket queued observed)).sender) e (own_waits (omega arith))

  -- in numbers: of profile 1
  pub profile_1_waits : s.terms.profile ≡ 1 → observed < queued + 330000 → WaitsUntil (queued + 330000) (ours s (submitted number ticket queued observed)).sender
  profile_1_waits e l = waits_by 330000 (ap sender_interval e ∙ sender_1) l

  -- and of profile 2
  pub profile_2_waits : s.terms.profile ≡ 2 → observed < queued + 150000 → WaitsUntil (queued + 150000) (ours s (submitted number ticket queued observed)).sender
  profile_2_waits e l = waits_by 150000 (ap sender_interval e ∙ sender_2) l

-- ---- the facts of reached senders, in numbers

module _ (t : Terms) (p : Plan) (message : List ℕ) (k : ℕ) (s : SenderState) (ok : (try_new_of t p message k).answer ≡ answered s) where
  -- of profile 1: a deadline is at most 330,000 ms past the last reading
  pub profile_1 : t.profile ≡ 1 → (cs : List Call) → ReachedSender 330000 (afterwards ours (try_new_of t p message k).sender cs)
  profile_1 e cs = subst (λ (n : ℕ). ReachedSender n (afterwards ours (try_new_of t p message k).sender cs)) (ap sender_interval e ∙ sender_1) (own_calls_reach t p message k s ok cs)

  -- and of profile 2: at most 150,000 ms
  pub profile_2 : t.profile ≡ 2 → (cs : List Call) → ReachedSender 150000 (afterwards ours (try_new_of t p message k).sender cs)
  profile_2 e cs = subst (λ (n : ℕ). ReachedSender n (afterwards ours (try_new_of t p message k).sender cs)) (ap sender_interval e ∙ sender_2) (own_calls_reach t p message k s ok cs)

-- ---- examples: a message of 10 octets, cut in two for a budget of 9 under Prohibited; made, and its first segment submitted, at reading 0

abbrev example_plan : SegmentedMessage
example_plan =
    record {
      message_octets = 10;
      payload_budget_octets = 9;
      transaction_id = 0;
      acknowledgment_window = window.Prohibited;
      begin_octets = 4;
      later_capacity = 6;
      count = 2;
      states_length = true;
    }

abbrev example_made : ℕ → Step
example_made profile =
    try_new_of (record { peer = record { kind = 1; width = 34; value = 5 }; protocol = Segmented 0; version = 1; profile = profile; number = 0 })
    (record { form = form.Planned example_plan; frozen = no_plan }) (10 ∷ 11 ∷ 12 ∷ 13 ∷ 14 ∷ 15 ∷ 16 ∷ 17 ∷ 18 ∷ 19 ∷ []) 0

-- the state and the deadline, behind the submission and some calls
abbrev stands : ℕ → List Call → SenderState × Option ℕ
stands profile cs =
    let p = (afterwards ours (example_made profile).sender (submitted 0 0 0 0 ∷ cs)).progress in
    (p.state, p.deadline_monotonic_ms)

-- behind it, after an advance to one reading, and after an advance to another
abbrev course : ℕ → ℕ → ℕ → List (SenderState × Option ℕ)
course profile early late = stands profile [] ∷ stands profile (advance early ∷ []) ∷ stands profile (advance late ∷ []) ∷ []

-- try_new makes both
pub both_made : ((example_made 1).answer ≡ answered Prepared) × ((example_made 2).answer ≡ answered Prepared)
unfolding try_new_of is_given same_heads kept_heads plan_message plan_of segment_count known_profile
both_made = (refl, refl)

-- profile 1: 330,000 ms, a millisecond less leaves it waiting
pub waits_1 : course 1 329999 330000 ≡ (AwaitingAccept, Some 330000) ∷ (AwaitingAccept, Some 330000) ∷ (Failed SegmentInterval, None) ∷ []
unfolding try_new_of is_given same_heads kept_heads plan_message plan_of segment_count known_profile sender_interval submitted_of submitted_in advance_of advance_in advanced impossible all_below lowest_of marked words_of sum_below
waits_1 = refl

-- profile 2: 150,000 ms
pub waits_2 : course 2 149999 150000 ≡ (AwaitingAccept, Some 150000) ∷ (AwaitingAccept, Some 150000) ∷ (Failed SegmentInterval, None) ∷ []
unfolding try_new_of is_given same_heads kept_heads plan_message plan_of segment_count known_profile sender_interval submitted_of submitted_in advance_of advance_in advanced impossible all_below lowest_of marked words_of sum_below
waits_2 = refl
