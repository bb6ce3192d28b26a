-- What the sender's calls are made of, each on the progress of a sender of n segments: preparing, finishing, advancing, counting a submission
-- and reacting to a response.
use Rattle.std.specs.Prelude.{ℕ, suc, ◌+◌, Bool, true, false, cond, not, ◌&&◌, ◌||◌, eqb, ltb, Option, Some, None}
use Rattle.words.specs.Marks.{marked, words_of, no_marks, all_below}
use Rattle.words.specs.declared.Words.{Words}
use Rattle.sender.specs.declared.Submission.{Submission}
use Rattle.tsar.specs.Kinds.{prohibited}
use Rattle.tsar.specs.declared.AcknowledgmentWindow.{AcknowledgmentWindow}
use Rattle.response.specs.Responses.{status_number, entry_at, is_received}
use Rattle.response.specs.declared.AcknowledgmentMap.{AcknowledgmentMap}
use Rattle.response.specs.declared.Response.{Response}
use Rattle.response.specs.declared.Status.{Status}
use Rattle.response.specs.declared.Status.TheVariants as status
use Rattle.sender.specs.declared.Completion.TheVariants.{LowerLayerAccepted, PeerReceived, ExceptionIntervalElapsed}
use Rattle.sender.specs.declared.SenderFailure.TheVariants.{SegmentInterval, Peer}
use Rattle.sender.specs.declared.SenderState.{SenderState}
use Rattle.sender.specs.declared.SenderState.TheVariants.{Prepared, AwaitingAccept, AwaitingResponse, Complete, Failed, Cancelled}
use Rattle.sender.specs.declared.Progress.{Progress}
use Rattle.sender.specs.declared.Reaction.{Reaction}
use Rattle.sender.specs.declared.Reaction.TheVariants.{Completes, Marks, Resends, Fails}
use Rattle.sender.specs.Record.{is_prepared, awaits_accept, awaits_response, is_closed, due, running, is_exceptions, needs, has_pending, next_pending}

-- ---- progress with some of it changed

-- the state, the submission and the ticket last given
abbrev pub offering : Progress → SenderState → Option Submission → ℕ → Progress
offering p s c t =
    record {
      state = s;
      current = c;
      last_ticket = t;
      submitted = p.submitted;
      retry = p.retry;
      received = p.received;
      deadline_monotonic_ms = p.deadline_monotonic_ms;
      last_monotonic_ms = p.last_monotonic_ms;
      layer3_submissions = p.layer3_submissions;
    }

-- the marks of what is to be sent again and of what was received
abbrev pub marking : Progress → Words → Words → Progress
marking p retry received =
    record {
      state = p.state;
      current = p.current;
      last_ticket = p.last_ticket;
      submitted = p.submitted;
      retry = retry;
      received = received;
      deadline_monotonic_ms = p.deadline_monotonic_ms;
      last_monotonic_ms = p.last_monotonic_ms;
      layer3_submissions = p.layer3_submissions;
    }

-- the deadline
abbrev pub until : Progress → Option ℕ → Progress
until p d =
    record {
      state = p.state;
      current = p.current;
      last_ticket = p.last_ticket;
      submitted = p.submitted;
      retry = p.retry;
      received = p.received;
      deadline_monotonic_ms = d;
      last_monotonic_ms = p.last_monotonic_ms;
      layer3_submissions = p.layer3_submissions;
    }

-- the last reading
abbrev pub read : Progress → ℕ → Progress
read p now' =
    record {
      state = p.state;
      current = p.current;
      last_ticket = p.last_ticket;
      submitted = p.submitted;
      retry = p.retry;
      received = p.received;
      deadline_monotonic_ms = p.deadline_monotonic_ms;
      last_monotonic_ms = now';
      layer3_submissions = p.layer3_submissions;
    }

-- ---- preparing: the lowest pending segment is offered; an offer of it that stands keeps its ticket and its reading

abbrev pub is_at : Option Submission → ℕ → Bool
is_at None i = false
is_at (Some x) i = eqb x.index i

abbrev pub prepare_for : Option ℕ → Progress → ℕ → Progress
prepare_for None p now' = offering p AwaitingResponse None p.last_ticket
prepare_for (Some i) p now' =
    cond (is_prepared p.state && is_at p.current i) p
    (offering p Prepared (Some (record { ticket = suc p.last_ticket; index = i; prepared_monotonic_ms = now' })) (suc p.last_ticket))

abbrev pub prepare : ℕ → Progress → ℕ → Progress
prepare n p now' = prepare_for (next_pending n p.submitted p.retry) p now'

-- closed: no submission, no deadline
abbrev pub finish : Progress → SenderState → Progress
finish p s = until (offering p s None p.last_ticket) None

-- ---- advancing to a reading

-- the last segment is asked for again where nothing is pending
abbrev pub with_last : ℕ → Words → Words
with_last n retry = words_of (λ i. eqb (suc i) n || marked retry i)

abbrev pub or_last : ℕ → Words → Words → Words
or_last n submitted retry = cond (has_pending n submitted retry) retry (with_last n retry)

-- all that isn't received is asked for again
abbrev pub unreceived : ℕ → Words → Words → Words
unreceived n received retry = words_of (λ i. (ltb i n && not (marked received i)) || marked retry i)

-- what is sent again at a due deadline: the present submission; or all that isn't received, or the last
abbrev pub again : ℕ → Progress → Option Submission → Words
again n p (Some x) = words_of (λ i. eqb i x.index || marked p.retry i)
again n p None = or_last n p.submitted (unreceived n p.received p.retry)

abbrev pub fire : ℕ → AcknowledgmentWindow → Progress → ℕ → Progress
fire n w p now' =
    cond (prohibited w) (finish p (Failed SegmentInterval))
    (cond (is_exceptions w && awaits_response p.state && not (has_pending n p.submitted p.retry)) (finish p (Complete ExceptionIntervalElapsed))
    (prepare n (until (marking p (again n p p.current) p.received) None) now'))

unfoldable pub advanced : ℕ → AcknowledgmentWindow → Progress → ℕ → Progress
advanced n w p now' = read (cond (not (is_closed p.state) && due p.deadline_monotonic_ms now') (fire n w p now') p) now'

-- ---- a submission that the lower layer has queued

abbrev pub index_of : Option Submission → ℕ
index_of None = 0
index_of (Some x) = x.index

-- no other segment is pending
abbrev pub is_last : ℕ → Progress → Bool
is_last n p = all_below n (λ i. eqb i (index_of p.current) || not (needs p.submitted p.retry i))

-- a deadline is set, but for the last segment under Prohibited
abbrev pub sets_deadline : ℕ → AcknowledgmentWindow → Progress → Bool
sets_deadline n w p = not (is_last n p && prohibited w)

-- the submission is counted, and its deadline set or not
abbrev pub counted_as : ℕ → Bool → Progress → ℕ → Progress
counted_as interval sets p queued =
    let i = index_of p.current in
    record {
      state = AwaitingAccept;
      current = p.current;
      last_ticket = p.last_ticket;
      submitted = words_of (λ j. eqb j i || marked p.submitted j);
      retry = words_of (λ j. not (eqb j i) && marked p.retry j);
      received = p.received;
      deadline_monotonic_ms = cond sets (Some (queued + interval)) None;
      last_monotonic_ms = p.last_monotonic_ms;
      layer3_submissions = p.layer3_submissions + 1;
    }

abbrev pub counted : ℕ → ℕ → AcknowledgmentWindow → Progress → ℕ → Progress
counted interval n w p queued = counted_as interval (sets_deadline n w p) p queued

-- accepted: the next segment is offered; after the last one under Prohibited the sender is complete
abbrev pub accepted_next : ℕ → AcknowledgmentWindow → Progress → ℕ → Progress
accepted_next n w p now' =
    let q = prepare n (offering p p.state None p.last_ticket) now' in
    cond (awaits_response q.state && prohibited w) (finish q (Complete LowerLayerAccepted)) q

-- cancelled: closed where it is still open
abbrev pub cancelled : Progress → Progress
cancelled p = cond (is_closed p.state) p (finish p Cancelled)

-- ---- reacting to a response

-- the reaction to each of the 14 statuses
abbrev pub reaction : Status → Reaction
reaction status.Continuing = Marks
reaction status.InterSegmentTimeout = Marks
reaction status.Aborted = Fails
reaction status.CrcSelectionUnsupported = Fails
reaction status.CompressionUnsupported = Fails
reaction status.EncryptionUnsupported = Fails
reaction status.AcknowledgmentWindowUnsupported = Fails
reaction status.ProtocolUnsupported = Fails
reaction status.MessageLengthError = Fails
reaction status.MessageTooLong = Fails
reaction status.Received = Completes
reaction status.DuplicateSizeMismatch = Fails
reaction status.CrcError = Resends
reaction status.MultipleServicesUnsupported = Fails

abbrev pub is_timeout : Status → Bool
is_timeout s = eqb (status_number s) 1

-- of a submitted segment: received, no more to be sent; missing, again; unreported, again at a timeout and else as before
abbrev pub retry_by : Option Bool → Bool → Bool → Bool
retry_by (Some true) timeout old = false
retry_by (Some false) timeout old = true
retry_by None timeout old = timeout || old

abbrev pub marked_retry : ℕ → Words → Words → AcknowledgmentMap → Bool → Words
marked_retry n submitted retry m timeout =
    words_of (λ i. cond (ltb i n && marked submitted i) (retry_by (entry_at m i) timeout (marked retry i)) (marked retry i))

abbrev pub marked_received : ℕ → AcknowledgmentMap → Words
marked_received n m = words_of (λ i. ltb i n && is_received (entry_at m i))

-- all that was submitted is sent again
abbrev pub resent : ℕ → Words → Words → Words
resent n submitted retry = words_of (λ i. (ltb i n && marked submitted i) || marked retry i)

-- a new offer, unless the lower layer's word is awaited
abbrev pub reprepare : ℕ → Progress → ℕ → Progress
reprepare n p now' = cond (awaits_accept p.state) p (prepare n p now')

-- the last segment is asked for again where nothing is pending and the status is a timeout or no deadline runs
abbrev pub last_if : Bool → ℕ → Words → Words → Words
last_if true n submitted retry = or_last n submitted retry
last_if false n submitted retry = retry

abbrev pub react_by : Reaction → ℕ → Progress → Response → ℕ → Progress
react_by Completes n p r now' = finish p (Complete PeerReceived)
react_by Marks n p r now' =
    let timeout = is_timeout r.status in
    let retry = last_if (timeout || not (running p.deadline_monotonic_ms)) n p.submitted (marked_retry n p.submitted p.retry r.acknowledgments timeout) in
    reprepare n (marking p retry (marked_received n r.acknowledgments)) now'
react_by Resends n p r now' =
    reprepare n (marking p (resent n p.submitted p.retry) no_marks) now'
react_by Fails n p r now' = finish p (Failed (Peer r.status))

abbrev pub react : ℕ → Progress → Response → ℕ → Progress
react n p r now' = react_by (reaction r.status) n p r now'
