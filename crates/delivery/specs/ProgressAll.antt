-- The definitions that the laws of proofs/ProgressAll speak of.
use Rattle.std.specs.Prelude.{◌≡◌}
use mathlib.Core.List.{List, [], ◌∷◌}
use Rattle.std.proofs.Math.Bool.{false}
use Rattle.receiver.specs.Record.{impossible}
use Rattle.delivery.specs.Calls.{Call, Left, HandOver, step_of, after, AllFitTypes, AfterTheList, AllOfAccepted}
use Rattle.delivery.specs.Delivery.{AllHaveCome}
use Rattle.delivery.specs.Train.{Train}
use Rattle.delivery.specs.ProgressReleased.{messages_of}

-- ---- the whole list

-- the calls cs after the calls before, the latest first
abbrev pub latest_first : List Call → List Call → List Call
latest_first before [] = before
latest_first before (c ∷ cs) = latest_first (c ∷ before) cs

-- what is known of every list of calls from a start: the first half, and that it leaves no impossible state
pub record Known (T : Train) (w₀ : Left) : Type 0 where
  pub listed : (cs : List Call) → AllFitTypes cs → AfterTheList T.terms.maximum_message_octets (after (step_of T.interval) w₀ cs)
  pub possible : (cs : List Call) → AllFitTypes cs → impossible (after (step_of T.interval) w₀ cs).receiver ≡ false

-- ---- what was handed over

-- the message, once every segment has come; nothing before
pub record Delivered (T : Train) (w : Left) (calls : List Call) : Type 0 where
  pub whole : AllHaveCome T.count T.segment calls → messages_of w ≡ T.message ∷ []
  pub only : (h : HandOver) (hs : List HandOver) → w.handed ≡ h ∷ hs → AllHaveCome T.count T.segment calls
  pub right : AllOfAccepted w.handed
