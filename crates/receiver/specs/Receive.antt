-- What receive answers and leaves: its refusals in document 01's order, then the rules of the slots in the source's order.
use Rattle.std.specs.Prelude.{ℕ, suc, ◌+◌, ◌-◌, ◌*◌, ◌^◌, min, List, [], ◌∷◌, ◌++◌, Bool, true, false, cond, not, ◌&&◌, ◌||◌, length, set, eqb, ltb, Option, Some, None}
use Rattle.std.proofs.lemmas.List.Edits.{sets}
use Rattle.octets.specs.Octets.{same_octets}
use Rattle.words.specs.Marks.{marked, words_of}
use Rattle.link.specs.Peer.{same_identity, same_protocol}
use Rattle.link.specs.declared.MobileIdentity.{MobileIdentity}
use Rattle.link.specs.declared.HigherLayerProtocol.{HigherLayerProtocol}
use Rattle.tsar.specs.Rows.{Refusal, first_of, refusal}
pub use Rattle.tsar.specs.Kinds.{same_lengths, same_optional, same_services, same_crc, same_kind}
use Rattle.tsar.specs.Kinds.{is_begin, is_continue, is_end, services_or_default, compresses, selects_crc, has_crc, prohibited, states_other}
use Rattle.tsar.specs.Writing.{codec_rows, length_in, crc_in}
use Rattle.tsar.specs.declared.OptionalServices.{OptionalServices}
use Rattle.tsar.specs.declared.SegmentKind.{SegmentKind}
use Rattle.tsar.specs.declared.SegmentKind.TheVariants.{Begin, Continue, End}
use Rattle.tsar.specs.declared.Segment.{Segment}
use Rattle.response.specs.declared.Status.{Status}
use Rattle.response.specs.declared.Status.TheVariants as status
use Rattle.receiver.specs.declared.ReceiverState.{ReceiverState}
use Rattle.receiver.specs.declared.ReceiverState.TheVariants.{Receiving, Complete, Failed, Expired}
use Rattle.receiver.specs.declared.Receiver.{Receiver}
use Rattle.receiver.specs.Record.{taking, awaiting, receiving, complete, states_below, states_above, clash, past_end, other_end, late, slot_octets, store_octets, is_held, kind_at, length_at, part, wiped, clear_past, full_with, joined, impossible, with, timed, read, closed}
use Rattle.receiver.specs.Answers.{Step, refuses, last_entry, required_response, fail_response, refused, answered}

-- ---- receive

-- what one receive brings
pub record Arrival : Type 0 where
  pub peer : MobileIdentity
  pub protocol : HigherLayerProtocol
  pub segment : Segment
  pub octets : List ℕ
  pub unparsed : ℕ
  pub reading : ℕ

abbrev pub sequence : Arrival → ℕ
sequence a = a.segment.sequence_number

abbrev pub kind : Arrival → SegmentKind
kind a = a.segment.kind

-- 60, 61, 62, 33, 30, 31, 32, codec, 35, 38, 36, 34
abbrev pub receive_rows : ℕ → Receiver → Arrival → List ℕ → List ℕ → List (Bool × Refusal)
receive_rows interval r a store out =
    (ltb (length store) store_octets, (60, 0))
    ∷ (ltb (length out) (min r.terms.maximum_message_octets store_octets), (61, 0))
    ∷ (impossible r, (62, 0))
    ∷ (ltb a.reading r.progress.last_monotonic_ms, (33, 0))
    ∷ (not (same_identity a.peer r.terms.peer), (30, 0))
    ∷ (not (same_protocol a.protocol r.terms.protocol), (31, 0))
    ∷ (not (eqb a.segment.transaction_id r.terms.transaction_id), (32, 0))
    ∷ (codec_rows r.terms.version a.segment (length a.octets)
    ++ ((not (eqb a.unparsed 0), (35, 0))
    ∷ (not (taking r.progress.state), (38, 0))
    ∷ (awaiting r.progress.state && not (is_begin (kind a)), (36, 0))
    ∷ (ltb (2 ^ 64 - 1 - interval) a.reading, (34, 0))
    ∷ []))

-- ---- the slots decide on a segment that is neither refused nor late

-- how far it was taken before the reception failed: not at all; its services; its length too; or held
pub data Stage : Type 0 where
  before : Stage
  begun : Stage
  noted : Stage
  keeping : Stage

pub data Outcome : Type 0 where
  fails : Stage → Status → Outcome
  repeats : Outcome
  closes : Outcome
  keeps : Outcome
  finishes : Outcome

-- the services: a Begin's, or those there are
abbrev pub services_of : OptionalServices → SegmentKind → OptionalServices
services_of old (Begin n s) = services_or_default s
services_of old (Continue n) = old
services_of old (End n c) = old

-- the stated length: the segment's, or the one there is
abbrev pub stated_of : Option ℕ → Option ℕ → Option ℕ
stated_of old None = old
stated_of old (Some n) = Some n

-- the end: an End's sequence, or the one there is
abbrev pub end_of : Option ℕ → SegmentKind → ℕ → Option ℕ
end_of old (Begin n s) q = old
end_of old (Continue n) q = old
end_of old (End n c) q = Some q

-- the status of services that are not served: both 13, compression 4, CRC 3
abbrev pub unserved : OptionalServices → Status
unserved s =
    cond (compresses s.compression && selects_crc s.crc_status) status.MultipleServicesUnsupported (cond (compresses s.compression) status.CompressionUnsupported status.CrcSelectionUnsupported)

abbrev pub slot_rules : Receiver → Arrival → List ℕ → List (Bool × Outcome)
slot_rules r a store =
    let s = sequence a in
    let k = kind a in
    let n = length a.octets in
    let p = r.progress in
    let stated = stated_of p.message_length (length_in k) in
    let full = full_with r.held s (end_of p.end_sequence k s) in
    -- a held slot is compared before any other test on the segment
    (is_held r s && not (eqb (length_at r s) n), fails before status.DuplicateSizeMismatch)
    ∷ (is_held r s && not (same_kind (kind_at r s) k && same_octets (part store s n) a.octets), fails before status.Aborted)
    ∷ (is_held r s, repeats)
    ∷ (complete p.state, closes)
    ∷ (is_continue k && eqb s 255, fails before status.Aborted)
    -- a Begin's services, an End's CRC
    ∷ (is_begin k && (compresses (services_of p.services k).compression || selects_crc (services_of p.services k).crc_status), fails begun (unserved (services_of p.services k)))
    ∷ (has_crc (crc_in k), fails before status.CrcSelectionUnsupported)
    -- an End's place
    ∷ (is_end k && (eqb s 0 || other_end p.end_sequence s || not (clear_past r.held s)), fails before status.Aborted)
    ∷ (past_end p.end_sequence s, fails begun status.Aborted)
    -- lengths
    ∷ (clash p.message_length (length_in k), fails begun status.MessageLengthError)
    ∷ (states_above stated r.terms.maximum_message_octets || ltb (r.terms.maximum_message_octets - p.stored_octets) n, fails noted status.MessageTooLong)
    ∷ (states_below stated (p.stored_octets + n), fails noted status.MessageLengthError)
    -- held, and complete
    ∷ (full && states_other stated (p.stored_octets + n), fails keeping status.MessageLengthError)
    ∷ (full, finishes)
    ∷ []

-- with the segment held
abbrev pub kept : Receiver → Arrival → ReceiverState → Option ℕ → Receiver
kept r a s d =
    record {
      terms = r.terms;
      progress = record {
        state = s;
        services = services_of r.progress.services (kind a);
        end_sequence = end_of r.progress.end_sequence (kind a) (sequence a);
        message_length = stated_of r.progress.message_length (length_in (kind a));
        stored_octets = r.progress.stored_octets + length a.octets;
        deadline_monotonic_ms = d;
        last_monotonic_ms = a.reading;
      };
      held = words_of (λ t. eqb t (sequence a) || marked r.held t);
      lengths = set r.lengths (sequence a) (length a.octets);
      slots = set r.slots (sequence a) (record { kind = kind a });
    }

abbrev pub noting : Receiver → OptionalServices → Option ℕ → Receiver
noting r s n =
    with r (record {
      state = r.progress.state;
      services = s;
      end_sequence = r.progress.end_sequence;
      message_length = n;
      stored_octets = r.progress.stored_octets;
      deadline_monotonic_ms = r.progress.deadline_monotonic_ms;
      last_monotonic_ms = r.progress.last_monotonic_ms;
    })

-- the record at the stage at which a reception fails
abbrev pub at_stage : Receiver → Arrival → Stage → Receiver
at_stage r a before = r
at_stage r a begun = noting r (services_of r.progress.services (kind a)) r.progress.message_length
at_stage r a noted = noting r (services_of r.progress.services (kind a)) (stated_of r.progress.message_length (length_in (kind a)))
at_stage r a keeping = kept r a Receiving None

abbrev pub settle : ℕ → Outcome → Receiver → Arrival → List ℕ → List ℕ → Step
settle interval (fails st s) r a store out =
    record { answer = answered (fail_response (at_stage r a st) s) None; receiver = closed (at_stage r a st) (Failed s) a.reading; store = wiped store; output = out }
settle interval repeats r a store out =
    let d = cond (receiving r.progress.state) (Some (a.reading + interval)) r.progress.deadline_monotonic_ms in
    record {
      answer = answered (required_response r a.segment (cond (complete r.progress.state) status.Received status.Continuing)) None;
      receiver = with r (timed r.progress d a.reading);
      store = store;
      output = out;
    }
settle interval closes r a store out = record { answer = refused (38, 0); receiver = read r a.reading; store = store; output = out }
settle interval keeps r a store out =
    let r' = kept r a Receiving (Some (a.reading + interval)) in
    record {
      answer = answered (required_response r' a.segment status.Continuing) None;
      receiver = r';
      store = sets store (slot_octets * sequence a) a.octets;
      output = out;
    }
settle interval finishes r a store out =
    let r' = kept r a Complete None in
    let store' = sets store (slot_octets * sequence a) a.octets in
    let message = joined r'.lengths store' (suc (last_entry false r'.held r'.progress.end_sequence)) in
    record {
      answer = answered (required_response r' a.segment status.Received) (Some (length message));
      receiver = r';
      store = store';
      output = sets out 0 message;
    }

-- late: under Prohibited it expires and gives 38, else 37
abbrev pub late_or : ℕ → Bool → Bool → Receiver → Arrival → List ℕ → List ℕ → Step
late_or interval true true r a store out = record { answer = refused (38, 0); receiver = closed r Expired a.reading; store = wiped store; output = out }
late_or interval true false r a store out = refuses (37, 0) r store out
late_or interval false p r a store out = settle interval (first_of (slot_rules r a store) keeps) r a store out

abbrev pub receive_after : ℕ → Option Refusal → Receiver → Arrival → List ℕ → List ℕ → Step
receive_after interval (Some n) r a store out = refuses n r store out
receive_after interval None r a store out =
    late_or interval (late r.progress.deadline_monotonic_ms a.reading) (prohibited r.progress.services.acknowledgment_window) r a store out

unfoldable pub receive_of : ℕ → Receiver → Arrival → List ℕ → List ℕ → Step
receive_of interval r a store out = receive_after interval (refusal (receive_rows interval r a store out)) r a store out
