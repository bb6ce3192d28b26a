-- The layouts of a receiver's state (2 octets) and its end (2), and that of a deadline (9). What does not apply is 0. Assumes nothing.
use Rattle.std.specs.Prelude.{◌≡◌, refl, cond, List, [], ◌∷◌, ◌++◌, ℕ, eqb, length, get_or, Option, Some, None}
use Rattle.std.proofs.Common.{ap}
use Rattle.std.specs.Int.{from_bool}
use Rattle.std.specs.Option.{is_some, unwrap_or}
use Rattle.response.specs.Responses.{status_number}
use Rattle.receiver.specs.declared.ReceiverState.{ReceiverState}
use Rattle.receiver.specs.declared.ReceiverState.TheVariants.{AwaitingBegin, Receiving, Complete, Failed, Expired, Canceled}
use Rattle.image.specs.Spelling.{Layout}
use Rattle.image.specs.Cases.{status_of, status_back}
pub use Rattle.image_link.specs.Deadlines.{deadline_flag, deadline_or0, deadline_from, DeadlineFits, deadline_layout}
unfoldable pub use Rattle.image_link.specs.Deadlines.{deadline_image, deadline_of}

-- ---- a state: number, status of a failure

abbrev pub state_number : ReceiverState → ℕ
state_number AwaitingBegin = 0
state_number Receiving = 1
state_number Complete = 2
state_number (Failed s) = 3
state_number Expired = 4
state_number Canceled = 5

abbrev pub failure_number : ReceiverState → ℕ
failure_number AwaitingBegin = 0
failure_number Receiving = 0
failure_number Complete = 0
failure_number (Failed s) = status_number s
failure_number Expired = 0
failure_number Canceled = 0

unfoldable pub state_image : ReceiverState → List ℕ
state_image s = state_number s ∷ failure_number s ∷ []

abbrev pub states : ℕ → List ReceiverState
states n = AwaitingBegin ∷ Receiving ∷ Complete ∷ Failed (status_of n) ∷ Expired ∷ Canceled ∷ []

abbrev pub state_from : ℕ → ℕ → ReceiverState
state_from n s = get_or (states s) n AwaitingBegin

unfoldable pub state_of : List ℕ → ReceiverState
state_of l = state_from (get_or l 0 0) (get_or l 1 0)

abbrev pub AnyState : ReceiverState → Type 0
AnyState s = Unit {0}

state_wide : (s : ReceiverState) → length (state_image s) ≡ 2
unfolding state_image
state_wide s = refl

state_back : (s : ReceiverState) → AnyState s → (rest : List ℕ) → state_of (state_image s ++ rest) ≡ s
unfolding state_image state_of
state_back AwaitingBegin f rest = refl
state_back Receiving f rest = refl
state_back Complete f rest = refl
state_back (Failed s) f rest = ap Failed (status_back s)
state_back Expired f rest = refl
state_back Canceled f rest = refl

pub state_layout : Layout state_image state_of 2 AnyState
state_layout = record { wide = λ s f. state_wide s; reads_wide = λ l. state_wide (state_of l); back = state_back }

-- ---- an end: flag, sequence

abbrev pub end_flag : Option ℕ → ℕ
end_flag e = from_bool (is_some e)

abbrev pub end_or0 : Option ℕ → ℕ
end_or0 e = unwrap_or e 0

unfoldable pub end_image : Option ℕ → List ℕ
end_image e = end_flag e ∷ end_or0 e ∷ []

abbrev pub end_from : ℕ → ℕ → Option ℕ
end_from flag s = cond (eqb flag 0) None (Some s)

unfoldable pub end_of : List ℕ → Option ℕ
end_of l = end_from (get_or l 0 0) (get_or l 1 0)

abbrev pub AnyEnd : Option ℕ → Type 0
AnyEnd e = Unit {0}

end_wide : (e : Option ℕ) → length (end_image e) ≡ 2
unfolding end_image
end_wide e = refl

end_back : (e : Option ℕ) → AnyEnd e → (rest : List ℕ) → end_of (end_image e ++ rest) ≡ e
unfolding end_image end_of
end_back None f rest = refl
end_back (Some s) f rest = refl

pub end_layout : Layout end_image end_of 2 AnyEnd
end_layout = record { wide = λ e f. end_wide e; reads_wide = λ l. end_wide (end_of l); back = end_back }
