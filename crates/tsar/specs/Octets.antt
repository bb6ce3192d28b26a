-- The octets of each part of a segment, as code computes them: a step between the layout and the code, of which nothing is promised.
use Rattle.std.specs.Prelude.{ℕ, ◌+◌, ◌*◌, ◌/◌, ◌%◌, ◌≤◌, ◌<◌, List, [], ◌∷◌, ◌++◌, length}
use Rattle.tsar.specs.declared.OptionalServices.{OptionalServices}
use Rattle.tsar.specs.Layout.{Param, stated, services, crc16, crc24, WholeSegment, type_number, compression_number, window_number, status_number}

abbrev pub pair_octets : ℕ → List ℕ
pair_octets n = n / 256 ∷ n % 256 ∷ []

abbrev pub triple_octets : ℕ → List ℕ
triple_octets n = n / 65536 ∷ n / 256 % 256 ∷ n % 256 ∷ []

abbrev pub quad_octets : ℕ → List ℕ
quad_octets n = n / 16777216 ∷ n / 65536 % 256 ∷ n / 256 % 256 ∷ n % 256 ∷ []

abbrev pub services_field : OptionalServices → ℕ
services_field s = 8192 + compression_number s.compression * 512 + window_number s.acknowledgment_window * 8 + status_number s.crc_status * 2

abbrev pub param_octets : Param → List ℕ
param_octets (stated n) = pair_octets (4096 + n)
param_octets (services s) = pair_octets (services_field s)
param_octets (crc16 v) = triple_octets (2097152 + v * 16)
param_octets (crc24 v) = quad_octets (805306368 + v * 16)

abbrev pub params_octets : List Param → List ℕ
params_octets [] = []
params_octets (p ∷ ps) = param_octets p ++ params_octets ps

abbrev pub octets_with : List Param → WholeSegment → List ℕ
octets_with ps s =
    (type_number s.kind * 8 + s.transaction_id) ∷ s.sequence_number ∷ length s.segment_data ∷ (s.segment_data ++ params_octets ps)

-- the values that fit the fields of a parameter
abbrev pub ParamFits : Param → Type 0
ParamFits (stated n) = n ≤ 4095
ParamFits (services s) = Unit {0}
ParamFits (crc16 v) = v < 65536
ParamFits (crc24 v) = v < 16777216

abbrev pub ParamsFit : List Param → Type 0
ParamsFit [] = Unit {0}
ParamsFit (p ∷ ps) = ParamFits p × ParamsFit ps
