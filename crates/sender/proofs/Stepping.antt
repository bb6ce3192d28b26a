-- The ticket that each step leaves only grows, so that 63 at a step is 63 of the call (specs/Tickets). Assumes nothing.
use Prim.Native.Nat.{ℕ, ◌≤◌}
use mathlib.Core.Path.{◌≡◌, refl}
use mathlib.Core.Bool.{not, ◌&&◌}
use native.Mathlib.Omega.{arith}
use Rattle.words.specs.declared.Words.{Words}
use Rattle.std.specs.Prelude.{Option, Some, None}
use Rattle.tsar.specs.Rows.{either}
use Rattle.tsar.specs.Kinds.{prohibited}
use Rattle.tsar.specs.declared.AcknowledgmentWindow.{AcknowledgmentWindow}
use Rattle.response.specs.declared.Response.{Response}
use Rattle.sender.specs.declared.Completion.TheVariants.{LowerLayerAccepted, ExceptionIntervalElapsed}
use Rattle.sender.specs.declared.SenderFailure.TheVariants.{SegmentInterval}
use Rattle.sender.specs.declared.SenderState.TheVariants.{Complete, Failed, Cancelled}
use Rattle.sender.specs.declared.Progress.{Progress}
use Rattle.sender.specs.declared.Outline.{Outline}
use Rattle.sender.specs.declared.Arrival.{Arrival}
use Rattle.sender.specs.declared.Reaction.{Reaction}
use Rattle.sender.specs.declared.Reaction.TheVariants as reaction'
use Rattle.sender.specs.Record.{is_prepared, awaits_accept, awaits_response, is_closed, due, is_exceptions, has_pending, next_pending}
use Rattle.sender.specs.Steps.{offering, marking, until, is_at, prepare_for, prepare, finish, again, fire, advanced, accepted_next, cancelled, reaction, reprepare, react_by, react}
use Rattle.sender.specs.Calls.{left, refuses, awaits_word, after_advance, reacted}

-- cancelling changes no ticket
pub cancelled_ticket : (p : Progress) → (cancelled p).last_ticket ≡ p.last_ticket
cancelled_ticket p = either (λ q. q.last_ticket ≡ p.last_ticket) (is_closed p.state) p (finish p Cancelled) (λ e. refl) (λ e. refl)

pub prepare_grows : (n : ℕ) (p : Progress) (now' : ℕ) → p.last_ticket ≤ (prepare n p now').last_ticket
prepare_grows n p now' = go (next_pending n p.submitted p.retry)
  where
    go : (f : Option ℕ) → p.last_ticket ≤ (prepare_for f p now').last_ticket
    go None = omega arith
    go (Some i) = either (λ q. p.last_ticket ≤ q.last_ticket) (is_prepared p.state && is_at p.current i) p _ (λ e. omega arith) (λ e. omega arith)

pub advanced_grows : (n : ℕ) (w : AcknowledgmentWindow) (p : Progress) (now' : ℕ) → p.last_ticket ≤ (advanced n w p now').last_ticket
unfolding advanced
advanced_grows n w p now' =
    either (λ q. p.last_ticket ≤ q.last_ticket) (not (is_closed p.state) && due p.deadline_monotonic_ms now') (fire n w p now') p
    (λ e. either (λ q. p.last_ticket ≤ q.last_ticket) (prohibited w) (finish p (Failed SegmentInterval)) _ (λ f. omega arith)
    (λ f. either (λ q. p.last_ticket ≤ q.last_ticket) (is_exceptions w && awaits_response p.state && not (has_pending n p.submitted p.retry)) (finish p (Complete ExceptionIntervalElapsed)) _ (λ g. omega arith)
    (λ g. prepare_grows n (until (marking p (again n p p.current) p.received) None) now')))
    (λ e. omega arith)

-- what is prepared once the submission is taken
abbrev taken : ℕ → Progress → ℕ → Progress
taken n p now' = prepare n (offering p p.state None p.last_ticket) now'

pub accepted_grows : (n : ℕ) (w : AcknowledgmentWindow) (p : Progress) (now' : ℕ) → p.last_ticket ≤ (accepted_next n w p now').last_ticket
accepted_grows n w p now' =
    either (λ q. p.last_ticket ≤ q.last_ticket) (awaits_response (taken n p now').state && prohibited w) (finish (taken n p now') (Complete LowerLayerAccepted)) (taken n p now')
    (λ e. prepare_grows n (offering p p.state None p.last_ticket) now') (λ e. prepare_grows n (offering p p.state None p.last_ticket) now')

-- reacting to a response
pub react_grows : (n : ℕ) (p : Progress) (r : Response) (now' : ℕ) → p.last_ticket ≤ (react n p r now').last_ticket
react_grows n p r now' = go (reaction r.status)
  where
    reprepared : (retry received : Words) → p.last_ticket ≤ (reprepare n (marking p retry received) now').last_ticket
    reprepared retry received =
        either (λ q. p.last_ticket ≤ q.last_ticket) (awaits_accept p.state) (marking p retry received) (prepare n (marking p retry received) now')
        (λ e. omega arith) (λ e. prepare_grows n (marking p retry received) now')

    go : (k : Reaction) → p.last_ticket ≤ (react_by k n p r now').last_ticket
    go reaction'.Completes = omega arith
    go reaction'.Marks = reprepared _ _
    go reaction'.Resends = reprepared _ _
    go reaction'.Fails = omega arith

-- reacting, and the closing advance
pub reacted_grows : (o : Outline) (p : Progress) (a : Arrival) → p.last_ticket ≤ (reacted o p a).last_ticket
reacted_grows o p a =
    let r = react_grows o.count p a.response a.reading in
    let s = advanced_grows o.count o.acknowledgment_window (react o.count p a.response a.reading) a.reading in
    omega arith

-- the lower layer's word, after an advance
pub word_grows : (own number ticket n : ℕ) (w : AcknowledgmentWindow) (q : Progress) (now' : ℕ) → q.last_ticket ≤ (after_advance own number ticket q (accepted_next n w q now')).progress.last_ticket
word_grows own number ticket n w q now' = either (λ t. q.last_ticket ≤ t.progress.last_ticket) (awaits_word own q number ticket) (left (accepted_next n w q now')) (refuses (42, 0) q) (λ e. accepted_grows n w q now') (λ e. omega arith)
