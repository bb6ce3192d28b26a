-- The facts of reached senders: what holds in each state of the submission, of what is pending and of the deadline; where the marks lie; and how
-- far ahead a deadline is. Such a sender is not impossible (62). Assumes nothing.
use Rattle.std.specs.Prelude.{ℕ, ◌+◌, ◌≤◌, ◌<◌, ◌≡◌, Bool, ◌&&◌, ◌||◌, Option, Some, None}
use Rattle.std.proofs.Math.Path.{refl, ap}
use Rattle.std.proofs.Common.{sym, ◌∙◌, true≢false, arith}
use Rattle.std.proofs.Math.Bool.{true, false, not}
use borrow.Author.Tests.{le-ltb, lt-ltb}
use Rattle.words.specs.Marks.{marked}
use Rattle.words.specs.declared.Words.{Words}
use Rattle.tsar.specs.Rows.{any_pass}
use Rattle.tsar.specs.Kinds.{prohibited}
use Rattle.tsar.specs.declared.AcknowledgmentWindow.{AcknowledgmentWindow}
use Rattle.sender.specs.declared.Submission.{Submission}
use Rattle.sender.specs.declared.SenderState.{SenderState}
use Rattle.sender.specs.declared.SenderState.TheVariants.{Prepared, AwaitingAccept, AwaitingResponse, Complete, Failed, Cancelled}
use Rattle.sender.specs.declared.Progress.{Progress}
use Rattle.sender.specs.Record.{is_prepared, awaits_accept, awaits_response, is_closed, running, next_pending, submission_present, submission_below, same_bool, faults, impossible}
use Rattle.sender.specs.Pending.{Below, past_none}

-- ---- the facts

-- in each state, of the submission c, the lowest pending segment f and the deadline d of a sender of n segments; b: the window is Prohibited
abbrev pub Stands : SenderState → Option Submission → Option ℕ → Option ℕ → Bool → ℕ → Type 0
Stands Prepared c f d b n = (x : Submission) × (c ≡ Some x) × (f ≡ Some x.index) × (x.index < n)
Stands AwaitingAccept c f d b n = (x : Submission) × (c ≡ Some x) × (x.index < n) × ((running d || b) ≡ true)
Stands AwaitingResponse c f d b n = (c ≡ None) × (f ≡ None) × (running d ≡ true)
Stands (Complete k) c f d b n = (c ≡ None) × (d ≡ None)
Stands (Failed k) c f d b n = (c ≡ None) × (d ≡ None)
Stands Cancelled c f d b n = (c ≡ None) × (d ≡ None)

-- no mark at or past n, and what was received was submitted
pub record MarksLie (n : ℕ) (submitted retry received : Words) : Type 0 where
  pub submitted_below : Below n submitted
  pub retry_below : Below n retry
  pub received_below : Below n received
  pub received_submitted : (i : ℕ) → i < 256 → marked received i ≡ true → marked submitted i ≡ true

-- a deadline is at most an interval past the reading
abbrev pub InTime : ℕ → Option ℕ → ℕ → Type 0
InTime interval None now' = Unit {0}
InTime interval (Some d) now' = d ≤ now' + interval

pub record Standing (n : ℕ) (w : AcknowledgmentWindow) (p : Progress) : Type 0 where
  pub least : 2 ≤ n
  pub most : n ≤ 256
  pub marks : MarksLie n p.submitted p.retry p.received
  pub stands : Stands p.state p.current (next_pending n p.submitted p.retry) p.deadline_monotonic_ms (prohibited w) n

-- at a reading
pub record Reached (interval n : ℕ) (w : AcknowledgmentWindow) (p : Progress) (now' : ℕ) : Type 0 where
  pub standing : Standing n w p
  pub in_time : InTime interval p.deadline_monotonic_ms now'

-- ---- each fact by itself

-- a deadline is at most an interval past the reading
pub in_time_by : (interval : ℕ) (d : Option ℕ) (now' k : ℕ) → InTime interval d now' → d ≡ Some k → k ≤ now' + interval
in_time_by interval None now' k h e = absurd (let z : ◌≡◌ {A = ℕ} 0 1 = cc in omega arith)
in_time_by interval (Some d) now' k h e =
    let z : d ≡ k = cc in
    omega arith

-- and so past a later one
in_time_later : (interval : ℕ) (d : Option ℕ) (a b : ℕ) → a ≤ b → InTime interval d a → InTime interval d b
in_time_later interval None a b l h = tt
in_time_later interval (Some d) a b l h = omega arith

pub reached_later : (interval n : ℕ) (w : AcknowledgmentWindow) (p : Progress) (a b : ℕ) → a ≤ b → Reached interval n w p a → Reached interval n w p b
reached_later interval n w p a b l h = record { standing = h.standing; in_time = in_time_later interval p.deadline_monotonic_ms a b l h.in_time }

module _ (c : Option Submission) (f : Option ℕ) (d : Option ℕ) (b : Bool) (n : ℕ) where
  prepared_by : (s : SenderState) → is_prepared s ≡ true → Stands s c f d b n → Stands Prepared c f d b n
  prepared_by Prepared e h = h
  prepared_by AwaitingAccept e h = absurd (true≢false (sym e))
  prepared_by AwaitingResponse e h = absurd (true≢false (sym e))
  prepared_by (Complete k) e h = absurd (true≢false (sym e))
  prepared_by (Failed k) e h = absurd (true≢false (sym e))
  prepared_by Cancelled e h = absurd (true≢false (sym e))

  accept_by : (s : SenderState) → awaits_accept s ≡ true → Stands s c f d b n → Stands AwaitingAccept c f d b n
  accept_by Prepared e h = absurd (true≢false (sym e))
  accept_by AwaitingAccept e h = h
  accept_by AwaitingResponse e h = absurd (true≢false (sym e))
  accept_by (Complete k) e h = absurd (true≢false (sym e))
  accept_by (Failed k) e h = absurd (true≢false (sym e))
  accept_by Cancelled e h = absurd (true≢false (sym e))

  response_by : (s : SenderState) → awaits_response s ≡ true → Stands s c f d b n → Stands AwaitingResponse c f d b n
  response_by Prepared e h = absurd (true≢false (sym e))
  response_by AwaitingAccept e h = absurd (true≢false (sym e))
  response_by AwaitingResponse e h = h
  response_by (Complete k) e h = absurd (true≢false (sym e))
  response_by (Failed k) e h = absurd (true≢false (sym e))
  response_by Cancelled e h = absurd (true≢false (sym e))

  -- a submission is present exactly in Prepared and AwaitingAccept
  present_by : (s : SenderState) → Stands s c f d b n → submission_present c ≡ (is_prepared s || awaits_accept s)
  present_by Prepared h = ap submission_present h.1
  present_by AwaitingAccept h = ap submission_present h.1
  present_by AwaitingResponse h = ap submission_present h.0
  present_by (Complete k) h = ap submission_present h.0
  present_by (Failed k) h = ap submission_present h.0
  present_by Cancelled h = ap submission_present h.0

  -- below the count
  pub below_by : (s : SenderState) → Stands s c f d b n → submission_below c n ≡ true
  below_by Prepared h = ap (λ (c' : Option Submission). submission_below c' n) h.1 ∙ lt-ltb h.0.index n h.3
  below_by AwaitingAccept h = ap (λ (c' : Option Submission). submission_below c' n) h.1 ∙ lt-ltb h.0.index n h.2
  below_by AwaitingResponse h = ap (λ (c' : Option Submission). submission_below c' n) h.0
  below_by (Complete k) h = ap (λ (c' : Option Submission). submission_below c' n) h.0
  below_by (Failed k) h = ap (λ (c' : Option Submission). submission_below c' n) h.0
  below_by Cancelled h = ap (λ (c' : Option Submission). submission_below c' n) h.0

  -- no deadline when closed
  closed_by : (s : SenderState) → Stands s c f d b n → (is_closed s && running d) ≡ false
  closed_by Prepared h = refl
  closed_by AwaitingAccept h = refl
  closed_by AwaitingResponse h = refl
  closed_by (Complete k) h = ap running h.1
  closed_by (Failed k) h = ap running h.1
  closed_by Cancelled h = ap running h.1

module _ (n : ℕ) (w : AcknowledgmentWindow) (p : Progress) (h : Standing n w p) where
  -- Prepared offers the lowest pending segment
  pub prepared_offers : is_prepared p.state ≡ true → (x : Submission) × (p.current ≡ Some x) × (next_pending n p.submitted p.retry ≡ Some x.index) × (x.index < n)
  prepared_offers e = prepared_by p.current (next_pending n p.submitted p.retry) p.deadline_monotonic_ms (prohibited w) n p.state e h.stands

  -- AwaitingAccept has a submission, and a deadline but under Prohibited
  pub accept_awaited : awaits_accept p.state ≡ true → (x : Submission) × (p.current ≡ Some x) × (x.index < n) × ((running p.deadline_monotonic_ms || prohibited w) ≡ true)
  accept_awaited e = accept_by p.current (next_pending n p.submitted p.retry) p.deadline_monotonic_ms (prohibited w) n p.state e h.stands

  -- AwaitingResponse has nothing pending, and always a deadline
  pub response_awaited : awaits_response p.state ≡ true → (p.current ≡ None) × (next_pending n p.submitted p.retry ≡ None) × (running p.deadline_monotonic_ms ≡ true)
  response_awaited e = response_by p.current (next_pending n p.submitted p.retry) p.deadline_monotonic_ms (prohibited w) n p.state e h.stands

  -- a submission is present exactly in Prepared and AwaitingAccept, and is below the count
  pub submission_present_lem : submission_present p.current ≡ (is_prepared p.state || awaits_accept p.state)
  submission_present_lem = present_by p.current (next_pending n p.submitted p.retry) p.deadline_monotonic_ms (prohibited w) n p.state h.stands

  pub submission_below_lem : submission_below p.current n ≡ true
  submission_below_lem = below_by p.current (next_pending n p.submitted p.retry) p.deadline_monotonic_ms (prohibited w) n p.state h.stands

  -- no deadline when closed
  pub closed_off : (is_closed p.state && running p.deadline_monotonic_ms) ≡ false
  closed_off = closed_by p.current (next_pending n p.submitted p.retry) p.deadline_monotonic_ms (prohibited w) n p.state h.stands

  -- it is not impossible
  pub not_impossible : impossible n p ≡ false
  unfolding impossible
  not_impossible =
      any_pass (faults n p) (
        rw (le-ltb n 2 h.least, le-ltb 256 n h.most),
        (
          ap (λ (b : Bool). not (same_bool b (is_prepared p.state || awaits_accept p.state))) submission_present_lem ∙ same (is_prepared p.state || awaits_accept p.state),
          (
            ap not submission_below_lem,
            (
              past_none n p.submitted h.marks.submitted_below,
              (
                past_none n p.retry h.marks.retry_below,
                (
                  past_none n p.received h.marks.received_below,
                  (closed_off, tt),
                ),
              ),
            ),
          ),
        ),
      )
    where
      same : (b : Bool) → not (same_bool b b) ≡ false
      same true = refl
      same false = refl
