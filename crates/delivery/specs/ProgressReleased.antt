-- The definitions that the laws of proofs/ProgressReleased speak of.
use Rattle.std.specs.Prelude.{ℕ, ◌≡◌, false, None}
use mathlib.Core.List.{List, [], ◌∷◌, map}
use Rattle.receiver.specs.Record.{taking}
use Rattle.receiver.specs.Answers.{Step}
use Rattle.delivery.specs.Calls.{Call, Left, HandOver, carried}
use Rattle.delivery.specs.Delivery.{AllHaveCome}
use Rattle.delivery.specs.Train.{Train}

-- ---- a closed receiver, whatever its record is

-- a call leaves it closed, and hands nothing over
abbrev pub Stays : Step → Type 0
Stays st = (taking st.receiver.progress.state ≡ false) × (carried st.answer ≡ None)

-- ---- what was handed over while a train is delivered

-- the messages
abbrev pub messages_of : Left → List (List ℕ)
messages_of w = map (λ (h : HandOver). h.message) w.handed

-- ---- released

-- after the hand-over, and closed: every segment has come, and the message alone was handed over
pub record ReleasedTrain (T : Train) (w : Left) (calls : List Call) : Type 0 where
  pub shut : taking w.receiver.progress.state ≡ false
  pub message_is : messages_of w ≡ T.message ∷ []
  pub come : AllHaveCome T.count T.segment calls
