-- The definitions that the laws of proofs/OccasionsRefuted speak of.
use Rattle.std.specs.Prelude.{ℕ, ◌≡◌, List, [], ◌∷◌, true, cond, not, ◌&&◌, get_or, Some, None}
use Rattle.tsar.specs.declared.AcknowledgmentWindow.TheVariants as window
use Rattle.receiver.specs.declared.ReceiverState.{ReceiverState}
use Rattle.receiver.specs.declared.ReceiverState.TheVariants.{AwaitingBegin, Expired, Canceled}
use Rattle.receiver.specs.declared.Receiver.{Receiver}
use Rattle.receiver.specs.Record.{complete, wiped, closed}
use Rattle.receiver.specs.Answers.{Step, answered}
use Rattle.receiver.specs.Advance.{try_new_of}
use Rattle.delivery.specs.Calls.{Call, receive, advance, cancel, release, StepFunction, ours, Left, start, after}
use Rattle.delivery.specs.Demand.{step_after}
use Rattle.delivery.specs.Occasions.{Occasion, occasion}
use Rattle.delivery.specs.Witness.{terms₀, store₀, bring}

-- ---- each of the four occurs: a call that has the occasion, over a store that holds an octet which is not 0

pub record Occurs (w : Left) (c : Call) (o : Occasion) : Type 0 where
  pub occasion_is : occasion c w.receiver (step_after ours w c).receiver.progress.state ≡ Some o
  pub stored : get_or w.store 0 0 ≡ 10

-- with the Begin held
abbrev pub begun₀ : Left
begun₀ = after ours (start (try_new_of terms₀ 0).receiver store₀) (bring window.Prohibited true 0 5 ∷ [])

-- with the End too
abbrev pub almost₀ : Left
almost₀ = after ours begun₀ (bring window.Prohibited true 2 7 ∷ [])

-- with the message handed over
abbrev pub complete₀ : Left
complete₀ = after ours almost₀ (bring window.Prohibited true 1 9 ∷ [])

-- ours, but a release leaves the store
abbrev pub release_keeps : StepFunction
release_keeps r store (receive a out) = ours r store (receive a out)
release_keeps r store (advance n) = ours r store (advance n)
release_keeps r store (cancel n) = ours r store (cancel n)
release_keeps r store (release n) = let st = ours r store (release n) in record { answer = st.answer; receiver = st.receiver; store = store; output = st.output }

-- closed in a state, as cancelling closes
abbrev pub shut_as : ReceiverState → Receiver → List ℕ → ℕ → Step
shut_as s r store n = record { answer = answered None None; receiver = closed r s n; store = wiped store; output = [] }

-- an advance that releases a Complete receiver by itself, as if it had expired
abbrev pub advance_releases : StepFunction
advance_releases r store (receive a out) = ours r store (receive a out)
advance_releases r store (advance n) = cond (complete r.progress.state) (shut_as Expired r store n) (ours r store (advance n))
advance_releases r store (cancel n) = ours r store (cancel n)
advance_releases r store (release n) = ours r store (release n)

-- a cancel that also releases
abbrev pub cancel_releases : StepFunction
cancel_releases r store (receive a out) = ours r store (receive a out)
cancel_releases r store (advance n) = ours r store (advance n)
cancel_releases r store (cancel n) = cond (complete r.progress.state) (shut_as Canceled r store n) (ours r store (cancel n))
cancel_releases r store (release n) = ours r store (release n)

-- a cancel and a release that answer as if they had closed, and do nothing
abbrev pub idle : StepFunction
idle r store (receive a out) = ours r store (receive a out)
idle r store (advance n) = ours r store (advance n)
idle r store (cancel n) = record { answer = answered None None; receiver = r; store = store; output = [] }
idle r store (release n) = record { answer = answered None None; receiver = r; store = store; output = [] }

-- an advance that empties a Complete receiver and leaves it AwaitingBegin, over the old store
abbrev pub reopens : StepFunction
reopens r store (receive a out) = ours r store (receive a out)
reopens r store (advance n) = cond (complete r.progress.state) (record { answer = answered None None; receiver = closed r AwaitingBegin n; store = store; output = [] }) (ours r store (advance n))
reopens r store (cancel n) = ours r store (cancel n)
reopens r store (release n) = ours r store (release n)

-- hands over and wipes in one call, as if it had expired
abbrev pub hands_and_closes : StepFunction
hands_and_closes r store (receive a out) =
    let st = ours r store (receive a out) in
    cond (complete st.receiver.progress.state && not (complete r.progress.state))
    (record { answer = st.answer; receiver = closed r Expired a.reading; store = wiped store; output = st.output }) st
hands_and_closes r store (advance n) = ours r store (advance n)
hands_and_closes r store (cancel n) = ours r store (cancel n)
hands_and_closes r store (release n) = ours r store (release n)
