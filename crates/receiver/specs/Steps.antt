-- The definitions of Record, Answers, Receive and Advance over what the steps of the code read; and what comparing a segment with its slot finds
-- (document 02, 2026-03).
use Rattle.std.specs.Prelude.{ℕ, suc, ◌+◌, ◌-◌, ◌*◌, ◌^◌, ◌≤◌, ◌<◌, min, ◌≡◌, List, [], ◌∷◌, ◌++◌, Bool, true, false, cond, not, ◌&&◌, ◌||◌, eqb, leb, ltb, get_or, Option, Result, Some, None, Ok, Err, length}
use Rattle.receiver.specs.declared.ReceiveError.{ReceiveError}
use Rattle.octets.specs.Compare.{compared_of}
use Rattle.octets.specs.declared.Compared.{Compared}
use Rattle.words.specs.Marks.{bit, marked, no_marks, words_of, all_below}
use Rattle.words.specs.declared.Words.{Words}
use Rattle.link.specs.Peer.{same_identity, same_protocol}
use Rattle.link.specs.declared.HigherLayerProtocol.TheVariants.{Segmented}
use Rattle.tsar.specs.Rows.{Refusal, first_of, refusal}
use Rattle.tsar.specs.Kinds.{is_begin, is_continue, is_end, compresses, selects_crc, has_crc, prohibited, states_other}
use Rattle.tsar.specs.Writing.{codec_rows, length_in, crc_in}
use Rattle.tsar.specs.declared.AcknowledgmentWindow.{AcknowledgmentWindow}
use Rattle.tsar.specs.declared.SegmentKind.{SegmentKind}
use Rattle.tsar.specs.declared.Segment.{Segment}
use Rattle.response.specs.Responses.{status_number, map_of}
use Rattle.response.specs.declared.Status.{Status}
use Rattle.response.specs.declared.Status.TheVariants as status
use Rattle.receiver.specs.declared.ReceiverState.{ReceiverState}
use Rattle.receiver.specs.declared.ReceiverState.TheVariants as state
use Rattle.receiver.specs.declared.Terms.{Terms}
use Rattle.receiver.specs.declared.Progress.{Progress}
use Rattle.receiver.specs.declared.Receiver.{Receiver}
use Rattle.receiver.specs.declared.Reported.{Reported}
use Rattle.receiver.specs.declared.replies.Standing.{Standing}
use Rattle.receiver.specs.declared.faults.HeldLengths.{HeldLengths}
use Rattle.receiver.specs.declared.checks.Brought.{Brought}
use Rattle.receiver.specs.declared.rules.Stage.{Stage}
use Rattle.receiver.specs.declared.rules.Stage.TheVariants as stage
use Rattle.receiver.specs.declared.rules.Decision.{Decision}
use Rattle.receiver.specs.declared.rules.Decision.TheVariants as decision
use Rattle.receiver.specs.declared.rules.Place.{Place}
use Rattle.receiver.specs.declared.rules.Amounts.{Amounts}
use Rattle.receiver.specs.Numbers.{receive_number}
use Rattle.receiver.specs.Record.{interval_of, taking, awaiting, receiving, complete, receiving_or_complete, states_below, states_above, clash, past_end, other_end, running, store_octets, held_length, sum_to, is_held, kind_at, length_at, part, empty_slots, empty_lengths, gap, clear_past, full_with, wiped, impossible}
use Rattle.receiver.specs.Answers.{Step, refused, answered, refuses, last_entry, acknowledges, periodic, reported, listed_in}
use Rattle.receiver.specs.Advance.{clock_rows, cancel_after}
use Rattle.receiver.specs.Receive as receive
use Rattle.receiver.specs.Receive.{Arrival, Outcome, fails, repeats, closes, keeps, finishes, before, begun, noted, keeping, services_of, stated_of, end_of, same_kind, slot_rules, settle, late_or}

-- ---- responses and closing

abbrev pub standing_of : Progress → Words → Standing
standing_of p held =
    record { services = p.services; end_sequence = p.end_sequence; message_length = p.message_length; held = held }

abbrev pub reply_of : ℕ → Standing → Status → Bool → Option Reported
reply_of transaction x s next =
    cond (prohibited x.services.acknowledgment_window) None
    (Some (reported (record {
      transaction_id = transaction;
      status = s;
      acknowledgments = map_of (marked x.held) (suc (last_entry next x.held x.end_sequence));
      optional_services_support = None;
    })))

abbrev pub required_for : AcknowledgmentWindow → SegmentKind → ℕ → Status → Bool
required_for w k n s = acknowledges w && (eqb (status_number s) 10 || is_end k || periodic w n)

abbrev pub required_reply : ℕ → Standing → Segment → Status → Option Reported
required_reply transaction x g s =
    cond (required_for x.services.acknowledgment_window g.kind g.sequence_number s) (reply_of transaction x s false) None

abbrev pub fail_reply : Terms → Standing → Status → Option Reported
fail_reply t x s = listed_in (eqb (status_number s) 13 && leb 5 t.version) (reply_of t.transaction_id x s false)

abbrev pub closed_progress : Standing → ReceiverState → ℕ → Progress
closed_progress x s reading =
    record {
      state = s;
      services = x.services;
      end_sequence = x.end_sequence;
      message_length = x.message_length;
      stored_octets = 0;
      deadline_monotonic_ms = None;
      last_monotonic_ms = reading;
    }

abbrev pub closed_as : Terms → Standing → ReceiverState → ℕ → Receiver
closed_as t x s reading =
    record { terms = t; progress = closed_progress x s reading; held = no_marks; lengths = empty_lengths; slots = empty_slots }

-- ---- 62

-- the held lengths of the first n slots: their sum, and whether one passes 255
pub record Upto (held : Words) (lengths : List ℕ) (n : ℕ) (x : HeldLengths) : Type 0 where
  pub sum_is : x.sum ≡ sum_to n (held_length held lengths)
  pub over_is : x.over ≡ not (all_below n (λ t. leb (held_length held lengths t) 255))
  pub small : x.sum ≤ 65535 * n

-- with one length more
abbrev pub more : HeldLengths → ℕ → HeldLengths
more x n = record { sum = x.sum + n; over = x.over || ltb 255 n }

-- the lengths that a word marks from a slot on
abbrev pub word_length : ℕ → List ℕ → ℕ → ℕ → ℕ
word_length word lengths from j = cond (bit word j) (get_or lengths (from + j) 0) 0

-- n numbers more than x
pub record Added (f : ℕ → ℕ) (n : ℕ) (x y : HeldLengths) : Type 0 where
  pub sum_is : y.sum ≡ x.sum + sum_to n f
  pub over_is : y.over ≡ (x.over || not (all_below n (λ t. leb (f t) 255)))
  pub small : y.sum ≤ x.sum + 65535 * n

abbrev pub length_faults : Words → List ℕ → ℕ → ℕ → List Bool
length_faults held lengths stored maximum =
    not (all_below 256 (λ t. leb (held_length held lengths t) 255))
    ∷ not (eqb stored (sum_to 256 (held_length held lengths)))
    ∷ ltb maximum stored
    ∷ []

abbrev pub state_faults : Progress → Words → SegmentKind → List Bool
state_faults p held first =
    (not (receiving_or_complete p.state) && not (all_below 256 (λ t. not (marked held t))))
    ∷ (receiving_or_complete p.state && not (marked held 0 && is_begin first))
    ∷ not (all_below 256 (λ t. not (past_end p.end_sequence t && marked held t)))
    ∷ (not (receiving p.state) && running p.deadline_monotonic_ms)
    ∷ (complete p.state && gap held p.end_sequence)
    ∷ []

-- ---- refusals

abbrev pub check_says : Result Unit ReceiveError → Option Refusal
check_says (Ok tt) = None
check_says (Err e) = Some (receive_number e)

-- and 38, unless the state allows cancel or release
abbrev pub allowed_row : Bool → List (Bool × Refusal)
allowed_row allowed = (not allowed, (38, 0)) ∷ []

-- 60, 61, 62, 33, 30, 31, 32
abbrev pub address_rows : Receiver → Brought → List ℕ → List ℕ → List (Bool × Refusal)
address_rows r b store out =
    (ltb (length store) store_octets, (60, 0))
    ∷ (ltb (length out) (min r.terms.maximum_message_octets store_octets), (61, 0))
    ∷ (impossible r, (62, 0))
    ∷ (ltb b.reading r.progress.last_monotonic_ms, (33, 0))
    ∷ (not (same_identity b.peer r.terms.peer), (30, 0))
    ∷ (not (same_protocol b.protocol r.terms.protocol), (31, 0))
    ∷ (not (eqb b.segment.transaction_id r.terms.transaction_id), (32, 0))
    ∷ []

-- 35, 38, 36, 34
abbrev pub taken_rows : Receiver → Brought → List (Bool × Refusal)
taken_rows r b =
    (not (eqb b.unparsed 0), (35, 0))
    ∷ (not (taking r.progress.state), (38, 0))
    ∷ (awaiting r.progress.state && not (is_begin b.segment.kind), (36, 0))
    ∷ (ltb (2 ^ 64 - 1 - interval_of r) b.reading, (34, 0))
    ∷ []

-- the codec's, then these
abbrev pub segment_rows : Receiver → Brought → List (Bool × Refusal)
segment_rows r b = codec_rows r.terms.version b.segment b.octets ++ taken_rows r b

-- all of receive's
abbrev pub arrival_rows : Receiver → Brought → List ℕ → List ℕ → List (Bool × Refusal)
arrival_rows r b store out = address_rows r b store out ++ segment_rows r b

-- ---- what the slots decide

abbrev pub stage_says : Stage → receive.Stage
stage_says stage.Before = before
stage_says stage.Begun = begun
stage_says stage.Noted = noted
stage_says stage.Keeping = keeping

abbrev pub decided : Decision → Outcome
decided (decision.Fails st s) = fails (stage_says st) s
decided decision.Repeats = repeats
decided decision.Closes = closes
decided decision.Keeps = keeps
decided decision.Finishes = finishes

abbrev pub unserved_as : Bool → Bool → Status
unserved_as compression crc =
    cond (compression && crc) status.MultipleServicesUnsupported (cond compression status.CompressionUnsupported status.CrcSelectionUnsupported)

abbrev pub length_rules : Option ℕ → Option ℕ → ℕ → Amounts → Bool → List (Bool × Outcome)
length_rules old told stored m full =
    let stated = stated_of old told in
    (clash old told, fails begun status.MessageLengthError)
    ∷ (states_above stated m.maximum || ltb (m.maximum - stored) m.octets, fails noted status.MessageTooLong)
    ∷ (states_below stated m.total, fails noted status.MessageLengthError)
    ∷ (full && states_other stated m.total, fails keeping status.MessageLengthError)
    ∷ (full, finishes)
    ∷ []

abbrev pub kind_rules : Progress → Segment → Bool → Bool → Amounts → List (Bool × Outcome)
kind_rules p g clear full m =
    let k = g.kind in
    let n = g.sequence_number in
    let s = services_of p.services k in
    (is_continue k && eqb n 255, fails before status.Aborted)
    ∷ (is_begin k && (compresses s.compression || selects_crc s.crc_status), fails begun (unserved_as (compresses s.compression) (selects_crc s.crc_status)))
    ∷ (has_crc (crc_in k), fails before status.CrcSelectionUnsupported)
    ∷ (is_end k && (eqb n 0 || other_end p.end_sequence n || not clear), fails before status.Aborted)
    ∷ (past_end p.end_sequence n, fails begun status.Aborted)
    ∷ length_rules p.message_length (length_in k) p.stored_octets m full

abbrev pub rules : Progress → Segment → Place → Amounts → List (Bool × Outcome)
rules p g x m =
    (x.held && not (eqb x.octets m.octets), fails before status.DuplicateSizeMismatch)
    ∷ (x.held && not x.same, fails before status.Aborted)
    ∷ (x.held, repeats)
    ∷ (complete p.state, closes)
    ∷ kind_rules p g x.clear x.full m

-- what is found where no octet is looked at
abbrev pub not_compared : Compared
not_compared = record { same = false; looked = 0 }

-- what comparing a segment of sequence s and kind k with its own slot finds: nothing is looked at where the slot isn't held or holds another
-- kind; else the slot's own octets are compared with the segment's, which begins only where there are as many
abbrev pub repeat_found : Receiver → ℕ → SegmentKind → List ℕ → List ℕ → Compared
repeat_found r s k octets store =
    cond (is_held r s && same_kind (kind_at r s) k) (compared_of (part store s (length_at r s)) octets) not_compared

-- what the code finds out about a segment's place
abbrev pub place_of : Receiver → Arrival → List ℕ → Place
place_of r a store =
    record {
      held = is_held r a.segment.sequence_number;
      octets = length_at r a.segment.sequence_number;
      same = (repeat_found r a.segment.sequence_number a.segment.kind a.octets store).same;
      clear = clear_past r.held a.segment.sequence_number;
      full = full_with r.held a.segment.sequence_number (end_of r.progress.end_sequence a.segment.kind a.segment.sequence_number);
    }

-- the standing at the stage at which a reception fails
abbrev pub staged_at : Stage → Progress → Words → Segment → Standing
staged_at stage.Before p held g = standing_of p held
staged_at stage.Begun p held g =
    record { services = services_of p.services g.kind; end_sequence = p.end_sequence; message_length = p.message_length; held = held }
staged_at stage.Noted p held g =
    record {
      services = services_of p.services g.kind;
      end_sequence = p.end_sequence;
      message_length = stated_of p.message_length (length_in g.kind);
      held = held;
    }
staged_at stage.Keeping p held g =
    record {
      services = services_of p.services g.kind;
      end_sequence = end_of p.end_sequence g.kind g.sequence_number;
      message_length = stated_of p.message_length (length_in g.kind);
      held = words_of (λ t. eqb t g.sequence_number || marked held t);
    }

-- ---- arrivals

-- what the slots read of an arrival; the rest is any
abbrev pub arrived : Segment → List ℕ → ℕ → Arrival
arrived g octets reading =
    record { peer = record { kind = 0; width = 0; value = 0 }; protocol = Segmented 0; segment = g; octets = octets; unparsed = 0; reading = reading }

-- what a receive brings, with its octets
abbrev pub arrival_of : Brought → List ℕ → Arrival
arrival_of b octets =
    record { peer = b.peer; protocol = b.protocol; segment = b.segment; octets = octets; unparsed = b.unparsed; reading = b.reading }

-- the terms of no receiver
abbrev pub no_terms : Terms
no_terms =
    record {
      peer = record { kind = 0; width = 0; value = 0 };
      protocol = Segmented 0;
      transaction_id = 0;
      version = 0;
      profile = 1;
      maximum_message_octets = 0;
    }

-- ---- what the steps of receive leave; those that are lent no output leave none

abbrev pub failed : Terms → Standing → Status → ℕ → List ℕ → Step
failed t x s reading store =
    record { answer = answered (fail_reply t x s) None; receiver = closed_as t x (state.Failed s) reading; store = wiped store; output = [] }

abbrev pub too_late : Bool → Receiver → ℕ → List ℕ → Step
too_late true r reading store =
    record { answer = refused (38, 0); receiver = closed_as r.terms (standing_of r.progress r.held) state.Expired reading; store = wiped store; output = [] }
too_late false r reading store = refuses (37, 0) r store []

abbrev pub kept_progress : Progress → Segment → ℕ → ReceiverState → Option ℕ → ℕ → Progress
kept_progress p g n s d reading =
    record {
      state = s;
      services = services_of p.services g.kind;
      end_sequence = end_of p.end_sequence g.kind g.sequence_number;
      message_length = stated_of p.message_length (length_in g.kind);
      stored_octets = p.stored_octets + n;
      deadline_monotonic_ms = d;
      last_monotonic_ms = reading;
    }

-- the octets stored fit sixteen bits, and a deadline can be set
pub record Fits (r : Receiver) (n reading : ℕ) : Type 0 where
  pub few : r.progress.stored_octets + n < 65536
  pub early : reading + interval_of r < 18446744073709551616

unfoldable pub settled_of : Receiver → Arrival → List ℕ → List ℕ → Step
settled_of r a store out = settle (interval_of r) (first_of (slot_rules r a store) keeps) r a store out

-- cancel and release, by whether the state allows them
unfoldable pub closing_of : Bool → Receiver → List ℕ → ℕ → Step
closing_of allowed r store reading = cancel_after (refusal (clock_rows r store reading ++ allowed_row allowed)) r store reading
