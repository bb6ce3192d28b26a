-- What try_new, advance, cancel and release answer and leave.
use Rattle.std.specs.Prelude.{ℕ, List, [], ◌∷◌, ◌++◌, Bool, true, false, not, ◌||◌, length, ltb, Option, Some, None}
use Rattle.words.specs.Marks.{no_marks}
use Rattle.link.specs.Peer.{identity_refused, protocol_served}
use Rattle.link.specs.Profile.{known_profile}
use Rattle.link.specs.declared.HigherLayerProtocol.TheVariants.{Segmented}
use Rattle.tsar.specs.Rows.{Refusal, refusal}
use Rattle.tsar.specs.Kinds.{services_or_default, prohibited}
use Rattle.tsar.specs.Writing.{codec_rows}
use Rattle.tsar.specs.declared.OptionalServices.{OptionalServices}
use Rattle.tsar.specs.declared.SegmentKind.TheVariants.{Begin}
use Rattle.tsar.specs.declared.Segment.{Segment}
use Rattle.response.specs.declared.Status.TheVariants as status
use Rattle.receiver.specs.declared.ReceiverState.{ReceiverState}
use Rattle.receiver.specs.declared.ReceiverState.TheVariants.{AwaitingBegin, Expired, Canceled}
use Rattle.receiver.specs.declared.Terms.{Terms}
use Rattle.receiver.specs.declared.Receiver.{Receiver}
use Rattle.receiver.specs.Record.{awaiting, receiving, complete, due, store_octets, empty_slots, empty_lengths, wiped, impossible, with, timed, read, closed}
use Rattle.receiver.specs.Answers.{Step, refuses, respond, answered}

-- ---- try_new

abbrev pub no_services : OptionalServices
no_services = services_or_default None

-- a receiver with nothing held, in a state
abbrev pub empty : Terms → ReceiverState → ℕ → Receiver
empty t s now' =
    record {
      terms = t;
      progress = record {
        state = s;
        services = no_services;
        end_sequence = None;
        message_length = None;
        stored_octets = 0;
        deadline_monotonic_ms = None;
        last_monotonic_ms = now';
      };
      held = no_marks;
      lengths = empty_lengths;
      slots = empty_slots;
    }

-- the Begin that the codec is asked about
abbrev pub bare_begin : ℕ → Segment
bare_begin transaction = record { transaction_id = transaction; sequence_number = 0; kind = Begin None None }

-- 30, 31, 64 (document 02, 2026-11), codec
abbrev pub try_new_rows : Terms → List (Bool × Refusal)
try_new_rows t =
    (identity_refused t.peer, (30, 0))
    ∷ (not (protocol_served t.protocol), (31, 0))
    ∷ (not (known_profile t.profile), (64, 0))
    ∷ codec_rows t.version (bare_begin t.transaction_id) 0

-- beside a refusal: a canceled receiver of no peer, with nothing held, of profile 1
abbrev pub no_receiver : Receiver
no_receiver =
    empty (record { peer = record { kind = 0; width = 0; value = 0 }; protocol = Segmented 0; transaction_id = 0; version = 0; profile = 1; maximum_message_octets = 0 }) Canceled 0

pub record Made : Type 0 where
  pub refused : Option Refusal
  pub receiver : Receiver

abbrev pub made_after : Option Refusal → Terms → ℕ → Made
made_after (Some n) t now' = record { refused = Some n; receiver = no_receiver }
made_after None t now' = record { refused = None; receiver = empty t AwaitingBegin now' }

unfoldable pub try_new_of : Terms → ℕ → Made
try_new_of t now' = made_after (refusal (try_new_rows t)) t now'

-- ---- advance, cancel and release

-- 60, 62, 33
abbrev pub clock_rows : Receiver → List ℕ → ℕ → List (Bool × Refusal)
clock_rows r store now' =
    (ltb (length store) store_octets, (60, 0)) ∷ (impossible r, (62, 0)) ∷ (ltb now' r.progress.last_monotonic_ms, (33, 0)) ∷ []

-- at a due deadline: under Prohibited it expires, else it asks for what is missing
abbrev pub fires : Bool → Bool → Receiver → List ℕ → ℕ → Step
fires false p r store now' = record { answer = answered None None; receiver = read r now'; store = store; output = [] }
fires true true r store now' = record { answer = answered None None; receiver = closed r Expired now'; store = wiped store; output = [] }
fires true false r store now' =
    record {
      answer = answered (respond r status.InterSegmentTimeout true) None;
      receiver = with r (timed r.progress None now');
      store = store;
      output = [];
    }

abbrev pub advance_after : Option Refusal → Receiver → List ℕ → ℕ → Step
advance_after (Some n) r store now' = refuses n r store []
advance_after None r store now' =
    fires (due r.progress.deadline_monotonic_ms now') (prohibited r.progress.services.acknowledgment_window) r store now'

unfoldable pub advance_of : Receiver → List ℕ → ℕ → Step
advance_of r store now' = advance_after (refusal (clock_rows r store now')) r store now'

-- 60, 62, 33, 38
abbrev pub cancel_rows : Receiver → List ℕ → ℕ → List (Bool × Refusal)
cancel_rows r store now' = clock_rows r store now' ++ ((not (awaiting r.progress.state || receiving r.progress.state), (38, 0)) ∷ [])

abbrev pub cancel_after : Option Refusal → Receiver → List ℕ → ℕ → Step
cancel_after (Some n) r store now' = refuses n r store []
cancel_after None r store now' = record { answer = answered None None; receiver = closed r Canceled now'; store = wiped store; output = [] }

unfoldable pub cancel_of : Receiver → List ℕ → ℕ → Step
cancel_of r store now' = cancel_after (refusal (cancel_rows r store now')) r store now'

-- Document 02, 2026-07: 'Add a release call for a Complete receiver: it wipes the store, empties slots and count as cancelling does, takes the
-- reading, leaves the state Canceled and answers as cancel does. .. Release gives 60, 62 and 33 in that order, and 38 unless the receiver is
-- Complete.'
abbrev pub release_rows : Receiver → List ℕ → ℕ → List (Bool × Refusal)
release_rows r store now' = clock_rows r store now' ++ ((not (complete r.progress.state), (38, 0)) ∷ [])

-- where no row refuses it, it answers and leaves what a cancel does that is not refused
unfoldable pub release_of : Receiver → List ℕ → ℕ → Step
release_of r store now' = cancel_after (refusal (release_rows r store now')) r store now'
