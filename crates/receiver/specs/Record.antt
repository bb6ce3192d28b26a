-- A receiver's record: states, slots, the lent store, the impossible states (62), and the records that calls leave.
use Rattle.std.specs.Prelude.{ℕ, zero, suc, ◌+◌, ◌*◌, List, [], ◌∷◌, ◌++◌, Bool, true, false, cond, not, ◌&&◌, ◌||◌, get_or, take, drop, replicate, eqb, leb, ltb, Option, Some, None}
use Rattle.octets.specs.Octets.{wiped_to}
use Rattle.words.specs.Marks.{marked, no_marks, all_below}
use Rattle.words.specs.declared.Words.{Words}
use Rattle.link.specs.Profile.{known_profile, receiver_interval}
use Rattle.tsar.specs.Rows.{any_of}
pub use Rattle.tsar.specs.Kinds.{is_begin, is_continue, is_end, services_or_default, compresses, selects_crc, has_crc, prohibited, states_other}
use Rattle.tsar.specs.declared.SegmentKind.{SegmentKind}
use Rattle.tsar.specs.declared.SegmentKind.TheVariants.{Begin}
use Rattle.receiver.specs.declared.ReceiverState.{ReceiverState}
use Rattle.receiver.specs.declared.ReceiverState.TheVariants.{AwaitingBegin, Receiving, Complete, Failed, Expired, Canceled}
use Rattle.receiver.specs.declared.Progress.{Progress}
use Rattle.receiver.specs.declared.Slot.{Slot}
use Rattle.receiver.specs.declared.Receiver.{Receiver}

-- ---- questions about a segment, a state, a record

-- the states that take segments
abbrev pub taking : ReceiverState → Bool
taking AwaitingBegin = true
taking Receiving = true
taking Complete = true
taking (Failed s) = false
taking Expired = false
taking Canceled = false

abbrev pub awaiting : ReceiverState → Bool
awaiting AwaitingBegin = true
awaiting Receiving = false
awaiting Complete = false
awaiting (Failed s) = false
awaiting Expired = false
awaiting Canceled = false

abbrev pub receiving : ReceiverState → Bool
receiving AwaitingBegin = false
receiving Receiving = true
receiving Complete = false
receiving (Failed s) = false
receiving Expired = false
receiving Canceled = false

abbrev pub complete : ReceiverState → Bool
complete AwaitingBegin = false
complete Receiving = false
complete Complete = true
complete (Failed s) = false
complete Expired = false
complete Canceled = false

abbrev pub receiving_or_complete : ReceiverState → Bool
receiving_or_complete s = receiving s || complete s

-- a stated length that is below n, above n
abbrev pub states_below : Option ℕ → ℕ → Bool
states_below None n = false
states_below (Some m) n = ltb m n

abbrev pub states_above : Option ℕ → ℕ → Bool
states_above None n = false
states_above (Some m) n = ltb n m

-- two stated lengths that differ, where both are stated
abbrev pub clash : Option ℕ → Option ℕ → Bool
clash a None = false
clash a (Some n) = states_other a n

abbrev pub past_end : Option ℕ → ℕ → Bool
past_end None s = false
past_end (Some e) s = ltb e s

abbrev pub other_end : Option ℕ → ℕ → Bool
other_end None s = false
other_end (Some e) s = not (eqb e s)

-- late (document 01): the reading is past the deadline; due: at or past it
abbrev pub late : Option ℕ → ℕ → Bool
late None now' = false
late (Some d) now' = ltb d now'

abbrev pub due : Option ℕ → ℕ → Bool
due None now' = false
due (Some d) now' = leb d now'

abbrev pub running : Option ℕ → Bool
running None = false
running (Some d) = true

-- the receiver's own interval, in milliseconds: its profile's
abbrev pub interval_of : Receiver → ℕ
interval_of r = receiver_interval r.terms.profile

-- ---- slots and the store: 255 octets a slot, in sequence

abbrev pub slot_octets : ℕ
slot_octets = 255

abbrev pub store_octets : ℕ
store_octets = 65280

-- the empty slot: the zero value of its type
abbrev pub no_slot : Slot
no_slot = record { kind = Begin None None }

abbrev pub is_held : Receiver → ℕ → Bool
is_held r s = marked r.held s

abbrev pub kind_at : Receiver → ℕ → SegmentKind
kind_at r s = (get_or r.slots s no_slot).kind

abbrev pub length_at : Receiver → ℕ → ℕ
length_at r s = get_or r.lengths s 0

-- the octets of slot s in the store, n of them
abbrev pub part : List ℕ → ℕ → ℕ → List ℕ
part store s n = take n (drop (slot_octets * s) store)

-- the octets of a slot that count: none where it isn't held
abbrev pub held_length : Words → List ℕ → ℕ → ℕ
held_length held lengths s = cond (marked held s) (get_or lengths s 0) 0

unfoldable pub sum_to : ℕ → (ℕ → ℕ) → ℕ
sum_to zero f = 0
sum_to (suc n) f = sum_to n f + f n

unfoldable pub empty_slots : List Slot
empty_slots = replicate 256 no_slot

unfoldable pub empty_lengths : List ℕ
empty_lengths = replicate 256 0

abbrev pub wiped : List ℕ → List ℕ
wiped store = wiped_to store_octets store

-- no slot past s is held
abbrev pub clear_past : Words → ℕ → Bool
clear_past held s = all_below 256 (λ t. not (ltb s t && marked held t))

-- the slots up to the end are held, counting s as held
abbrev pub full_with : Words → ℕ → Option ℕ → Bool
full_with held s None = false
full_with held s (Some e) = all_below (suc e) (λ t. eqb t s || marked held t)

-- no end, or a gap before it
abbrev pub gap : Words → Option ℕ → Bool
gap held None = true
gap held (Some e) = not (all_below e (marked held))

-- the data of slots 0 to n - 1 in order
unfoldable pub joined : List ℕ → List ℕ → ℕ → List ℕ
joined lengths store zero = []
joined lengths store (suc n) = joined lengths store n ++ part store n (get_or lengths n 0)

-- ---- 62: the impossible states

abbrev pub faults : Receiver → List Bool
faults r =
    -- a held length passes 255
    not (all_below 256 (λ t. leb (held_length r.held r.lengths t) 255))
    -- the count isn't the sum of held lengths or passes the maximum
    ∷ not (eqb r.progress.stored_octets (sum_to 256 (held_length r.held r.lengths)))
    ∷ ltb r.terms.maximum_message_octets r.progress.stored_octets
    -- a slot is held outside Receiving and Complete
    ∷ (not (receiving_or_complete r.progress.state) && not (all_below 256 (λ t. not (marked r.held t))))
    -- in those two slot 0 isn't a held Begin
    ∷ (receiving_or_complete r.progress.state && not (marked r.held 0 && is_begin (kind_at r 0)))
    -- a slot is held past the end
    ∷ not (all_below 256 (λ t. not (past_end r.progress.end_sequence t && marked r.held t)))
    -- a deadline outside Receiving
    ∷ (not (receiving r.progress.state) && running r.progress.deadline_monotonic_ms)
    -- Complete with no end or a gap before it
    ∷ (complete r.progress.state && gap r.held r.progress.end_sequence)
    -- neither profile (document 02, 2026-11)
    ∷ not (known_profile r.terms.profile)
    ∷ []

unfoldable pub impossible : Receiver → Bool
impossible r = any_of (faults r)

-- ---- records that calls leave

-- with progress
abbrev pub with : Receiver → Progress → Receiver
with r p = record { terms = r.terms; progress = p; held = r.held; lengths = r.lengths; slots = r.slots }

-- the last reading, and the deadline
abbrev pub timed : Progress → Option ℕ → ℕ → Progress
timed p d now' =
    record {
      state = p.state;
      services = p.services;
      end_sequence = p.end_sequence;
      message_length = p.message_length;
      stored_octets = p.stored_octets;
      deadline_monotonic_ms = d;
      last_monotonic_ms = now';
    }

-- only the reading is taken
abbrev pub read : Receiver → ℕ → Receiver
read r now' = with r (timed r.progress r.progress.deadline_monotonic_ms now')

-- closed, with nothing held; services, end and stated length stay
abbrev pub closed : Receiver → ReceiverState → ℕ → Receiver
closed r s now' =
    record {
      terms = r.terms;
      progress = record {
        state = s;
        services = r.progress.services;
        end_sequence = r.progress.end_sequence;
        message_length = r.progress.message_length;
        stored_octets = 0;
        deadline_monotonic_ms = None;
        last_monotonic_ms = now';
      };
      held = no_marks;
      lengths = empty_lengths;
      slots = empty_slots;
    }
