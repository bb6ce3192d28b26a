-- Statuses, acknowledgment maps and responses: document 01, 'Port order' 3 and 4, and 'Refusals' 6/6, 6/7 and 1; the figures of a map's missing
-- entries: document 02, 2026-01.
use Rattle.std.specs.Prelude.{ℕ, ◌≡◌, refl, Bool, true, false, cond, not, ◌&&◌, ◌||◌, List, [], ◌∷◌, eqb, ltb, Option, Result, is_some, Some, None, Ok, Err}
use Rattle.tsar.specs.declared.Error.{Error}
use Rattle.words.specs.Marks.{marked, words_of, sum_below, count_below, lowest_of}
use Rattle.tsar.specs.Rows.{Refusal}
use Rattle.tsar.specs.Numbers.{number}
use Rattle.response.specs.declared.Status.{Status}
use Rattle.response.specs.declared.Status.TheVariants as status
use Rattle.response.specs.declared.AcknowledgmentMap.{AcknowledgmentMap}
use Rattle.response.specs.declared.Missing.{Missing}
use Rattle.response.specs.declared.BuiltMap.{BuiltMap}
use Rattle.response.specs.declared.Response.{Response}

-- the 14 statuses, 0 to 13
abbrev pub status_number : Status → ℕ
status_number status.Continuing = 0
status_number status.InterSegmentTimeout = 1
status_number status.Aborted = 2
status_number status.CrcSelectionUnsupported = 3
status_number status.CompressionUnsupported = 4
status_number status.EncryptionUnsupported = 5
status_number status.AcknowledgmentWindowUnsupported = 6
status_number status.ProtocolUnsupported = 7
status_number status.MessageLengthError = 8
status_number status.MessageTooLong = 9
status_number status.Received = 10
status_number status.DuplicateSizeMismatch = 11
status_number status.CrcError = 12
status_number status.MultipleServicesUnsupported = 13

-- ---- maps: 1 to 256 entries; bits past the length are 0 in answers and ignored when read

abbrev pub map_of : (ℕ → Bool) → ℕ → AcknowledgmentMap
map_of f n = record { received = words_of (λ i. ltb i n && f i); bit_count = n }

-- a map of 0 or above 256 entries
abbrev pub map_length_refused : ℕ → Bool
map_length_refused n = eqb n 0 || ltb 256 n

-- entry s of a map
abbrev pub entry_at : AcknowledgmentMap → ℕ → Option Bool
entry_at m s = cond (ltb s m.bit_count) (cond (marked m.received s) (Some true) (Some false)) None

-- ---- missing entries as numbers: how many entries of the map are missing, and the first of them, 256 where there is none

abbrev pub is_missing : Option Bool → Bool
is_missing None = false
is_missing (Some false) = true
is_missing (Some true) = false

abbrev pub is_received : Option Bool → Bool
is_received None = false
is_received (Some false) = false
is_received (Some true) = true

abbrev pub first_or256 : Option ℕ → ℕ
first_or256 None = 256
first_or256 (Some s) = s

unfoldable pub figures_of : AcknowledgmentMap → Missing
figures_of m =
    record {
      count = count_below m.bit_count (λ s. is_missing (entry_at m s));
      first = first_or256 (lowest_of (λ s. is_missing (entry_at m s)) m.bit_count);
    }

-- ---- what builds a map gives its figures too

abbrev pub built_of : (ℕ → Bool) → ℕ → BuiltMap
built_of f n = record { map = map_of f n; missing = figures_of (map_of f n) }

-- four entries of which 0 and 3 are received; two of which 0 is, the mark at 3 being past them; one that is received
pub example_gap : (built_of (λ i. eqb i 0 || eqb i 3) 4).missing ≡ record { count = 2; first = 1 }
unfolding figures_of count_below lowest_of marked words_of sum_below
example_gap = refl

pub example_past : (built_of (λ i. eqb i 0 || eqb i 3) 2).missing ≡ record { count = 1; first = 1 }
unfolding figures_of count_below lowest_of marked words_of sum_below
example_past = refl

pub example_none : (built_of (λ i. eqb i 0 || eqb i 3) 1).missing ≡ record { count = 0; first = 256 }
unfolding figures_of count_below lowest_of marked words_of sum_below
example_none = refl

-- what try_new's answer says, by number
abbrev pub map_by : Result BuiltMap Error → Option Refusal × Option BuiltMap
map_by (Ok m) = (None, Some m)
map_by (Err e) = (Some (number e), None)

-- 6/6, or the map
abbrev pub new_map : (ℕ → Bool) → ℕ → Option Refusal × Option BuiltMap
new_map f n = cond (map_length_refused n) (Some (6, 6), None) (None, Some (built_of f n))

-- ---- a response's codec check: 6/6 first, then 1, 6/1, 1 for a support list below version 5, 6/7 for one with another status

abbrev pub response_rows : ℕ → Response → List (Bool × Refusal)
response_rows version r =
    (map_length_refused r.acknowledgments.bit_count, (6, 6))
    ∷ (ltb version 1, (1, 0))
    ∷ (ltb 7 r.transaction_id, (6, 1))
    ∷ (is_some r.optional_services_support && ltb version 5, (1, 0))
    ∷ (is_some r.optional_services_support && not (eqb (status_number r.status) 13), (6, 7))
    ∷ []
