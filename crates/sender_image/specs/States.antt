-- The layout STATE of a sender's state, 4 octets: state; completion or kind of failure; kind of lower layer failure; cause or status. What
-- does not apply is 0. Assumes nothing.
use Rattle.std.specs.Prelude.{◌≡◌, refl, Bool, true, List, [], ◌∷◌, ◌++◌, ℕ, length, get_or}
use Rattle.std.proofs.Common.{ap}
use Rattle.response.specs.Responses.{status_number}
use Rattle.sender.specs.declared.Completion.{Completion}
use Rattle.sender.specs.declared.Completion.TheVariants.{LowerLayerAccepted, PeerReceived, ExceptionIntervalElapsed}
use Rattle.sender.specs.declared.LowerLayerFailure.{LowerLayerFailure}
use Rattle.sender.specs.declared.LowerLayerFailure.TheVariants as lower
use Rattle.sender.specs.declared.SenderFailure.{SenderFailure}
use Rattle.sender.specs.declared.SenderFailure.TheVariants.{SegmentInterval, LowerLayer, Peer}
use Rattle.sender.specs.declared.SenderState.{SenderState}
use Rattle.sender.specs.declared.SenderState.TheVariants.{Prepared, AwaitingAccept, AwaitingResponse, Complete, Failed, Cancelled}
use Rattle.image.specs.Spelling.{spells, Layout, spelled_ok}
use Rattle.image.specs.Cases.{status_of, status_back}

-- ---- a completion

abbrev pub completion_number : Completion → ℕ
completion_number LowerLayerAccepted = 0
completion_number PeerReceived = 1
completion_number ExceptionIntervalElapsed = 2

abbrev pub completions : List Completion
completions = LowerLayerAccepted ∷ PeerReceived ∷ ExceptionIntervalElapsed ∷ []

abbrev pub completion_of : ℕ → Completion
completion_of n = get_or completions n LowerLayerAccepted

completion_back : (c : Completion) → completion_of (completion_number c) ≡ c
completion_back LowerLayerAccepted = refl
completion_back PeerReceived = refl
completion_back ExceptionIntervalElapsed = refl

-- ---- a failure of the lower layer: number, cause of a rejection

abbrev pub lower_number : LowerLayerFailure → ℕ
lower_number (lower.Rejected cause) = 0
lower_number lower.TimedOut = 1
lower_number lower.Cancelled = 2

abbrev pub cause_or0 : LowerLayerFailure → ℕ
cause_or0 (lower.Rejected cause) = cause
cause_or0 lower.TimedOut = 0
cause_or0 lower.Cancelled = 0

abbrev pub lowers : ℕ → List LowerLayerFailure
lowers cause = lower.Rejected cause ∷ lower.TimedOut ∷ lower.Cancelled ∷ []

abbrev pub lower_of : ℕ → ℕ → LowerLayerFailure
lower_of n cause = get_or (lowers cause) n (lower.Rejected cause)

lower_back : (f : LowerLayerFailure) → lower_of (lower_number f) (cause_or0 f) ≡ f
lower_back (lower.Rejected cause) = refl
lower_back lower.TimedOut = refl
lower_back lower.Cancelled = refl

-- ---- a failure: number, number of the lower layer's, cause or status

abbrev pub failure_number : SenderFailure → ℕ
failure_number SegmentInterval = 0
failure_number (LowerLayer f) = 1
failure_number (Peer s) = 2

abbrev pub failure_lower : SenderFailure → ℕ
failure_lower SegmentInterval = 0
failure_lower (LowerLayer f) = lower_number f
failure_lower (Peer s) = 0

abbrev pub failure_value : SenderFailure → ℕ
failure_value SegmentInterval = 0
failure_value (LowerLayer f) = cause_or0 f
failure_value (Peer s) = status_number s

abbrev pub failures : ℕ → ℕ → List SenderFailure
failures n v = SegmentInterval ∷ LowerLayer (lower_of n v) ∷ Peer (status_of v) ∷ []

abbrev pub failure_of : ℕ → ℕ → ℕ → SenderFailure
failure_of k n v = get_or (failures n v) k SegmentInterval

failure_back : (f : SenderFailure) → failure_of (failure_number f) (failure_lower f) (failure_value f) ≡ f
failure_back SegmentInterval = refl
failure_back (LowerLayer f) = ap LowerLayer (lower_back f)
failure_back (Peer s) = ap Peer (status_back s)

-- ---- a state

abbrev pub state_number : SenderState → ℕ
state_number Prepared = 0
state_number AwaitingAccept = 1
state_number AwaitingResponse = 2
state_number (Complete c) = 3
state_number (Failed f) = 4
state_number Cancelled = 5

-- completion, or kind of failure
abbrev pub state_kind : SenderState → ℕ
state_kind Prepared = 0
state_kind AwaitingAccept = 0
state_kind AwaitingResponse = 0
state_kind (Complete c) = completion_number c
state_kind (Failed f) = failure_number f
state_kind Cancelled = 0

abbrev pub state_lower : SenderState → ℕ
state_lower Prepared = 0
state_lower AwaitingAccept = 0
state_lower AwaitingResponse = 0
state_lower (Complete c) = 0
state_lower (Failed f) = failure_lower f
state_lower Cancelled = 0

abbrev pub state_value : SenderState → ℕ
state_value Prepared = 0
state_value AwaitingAccept = 0
state_value AwaitingResponse = 0
state_value (Complete c) = 0
state_value (Failed f) = failure_value f
state_value Cancelled = 0

unfoldable pub state_image : SenderState → List ℕ
state_image s = state_number s ∷ state_kind s ∷ state_lower s ∷ state_value s ∷ []

abbrev pub states : ℕ → ℕ → ℕ → List SenderState
states k n v = Prepared ∷ AwaitingAccept ∷ AwaitingResponse ∷ Complete (completion_of k) ∷ Failed (failure_of k n v) ∷ Cancelled ∷ []

abbrev pub state_from : ℕ → ℕ → ℕ → ℕ → SenderState
state_from s k n v = get_or (states k n v) s Prepared

unfoldable pub state_of : List ℕ → SenderState
state_of l = state_from (get_or l 0 0) (get_or l 1 0) (get_or l 2 0) (get_or l 3 0)

-- whether 4 octets spell a state
abbrev pub state_ok : List ℕ → Bool
state_ok l = spells state_image state_of 4 l

-- every state fits
abbrev pub StateFits : SenderState → Type 0
StateFits s = Unit {0}

-- ---- laws

pub state_wide : (s : SenderState) → length (state_image s) ≡ 4
unfolding state_image
state_wide s = refl

state_reads : (s : SenderState) → StateFits s → (rest : List ℕ) → state_of (state_image s ++ rest) ≡ s
unfolding state_image state_of
state_reads Prepared f rest = refl
state_reads AwaitingAccept f rest = refl
state_reads AwaitingResponse f rest = refl
state_reads (Complete c) f rest = ap Complete (completion_back c)
state_reads (Failed x) f rest = ap Failed (failure_back x)
state_reads Cancelled f rest = refl

pub state_layout : Layout state_image state_of 4 StateFits
state_layout = record { wide = λ s f. state_wide s; reads_wide = λ l. state_wide (state_of l); back = state_reads }

-- every state's octets spell it, and pass the test
pub state_back : (s : SenderState) → (state_of (state_image s) ≡ s) × (state_ok (state_image s) ≡ true)
unfolding state_image
state_back s = (state_layout.back s tt [], spelled_ok state_layout s tt [])
