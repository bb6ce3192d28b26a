-- The definitions that the laws of proofs/ProgressPasses speak of.
use Rattle.std.specs.Prelude.{ℕ, ◌≡◌, List, ◌∷◌, false}
use Rattle.receiver.specs.Record.{impossible}
use Rattle.receiver.specs.Answers.{Step}
use Rattle.receiver.specs.Receive.{Arrival}
use Rattle.delivery.specs.Calls.{Call, receive, Left, taken, AfterTheList}
use Rattle.delivery.specs.Delivery.{DeliveryMeets}
use Rattle.delivery.specs.Train.{Train}
use Rattle.delivery.specs.Progress.{HoldingOf}

-- a delivery that meets the conditions, after calls that left w
pub record Arrived (T : Train) : Type 0 where
  pub w : Left
  pub calls : List Call
  pub listed : AfterTheList T.terms.maximum_message_octets w
  pub possible : impossible w.receiver ≡ false
  pub holding : HoldingOf T w calls
  pub a : Arrival
  pub out : List ℕ
  pub meets : DeliveryMeets T.interval T.terms T.made T.count T.segment calls a out

-- what holds once it is taken, its step being st
abbrev pub Next : (T : Train) → Arrived T → Step → Type 0
Next T C st = HoldingOf T (taken C.w (receive C.a C.out) st) (receive C.a C.out ∷ C.calls)
