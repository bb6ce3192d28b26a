-- The definitions that the laws of proofs/Planned speak of.
use Prim.Native.Nat.{ℕ, ◌-◌, ◌/◌, ◌%◌, ◌≤◌, ◌<◌}
use Rattle.std.specs.Prelude.{◌≡◌, false}
use Rattle.tsar.specs.declared.AcknowledgmentWindow.{AcknowledgmentWindow}
use Rattle.segmentation.specs.declared.SegmentedMessage.{SegmentedMessage}
use Rattle.segmentation.specs.Plan.{Planning, plan_message, even_message, plan_of, evened, begin_data, prohibited, is_exceptions, bare_octets, segment_count}

-- ---- the two planners, for laws of both

pub data Spread : Type 0 where
  full : Spread
  even : Spread

abbrev pub planning : Spread → ℕ → ℕ → ℕ → AcknowledgmentWindow → ℕ → ℕ → Planning
planning full = plan_message
planning even = even_message

abbrev pub even_of : ℕ → ℕ → ℕ → AcknowledgmentWindow → SegmentedMessage
even_of n budget transaction w = evened (plan_of n budget transaction w)

abbrev pub plan_as : Spread → ℕ → ℕ → ℕ → AcknowledgmentWindow → SegmentedMessage
plan_as full = plan_of
plan_as even = even_of

-- what the arguments of a planned message have in common
pub record Plannable (n budget transaction : ℕ) (w : AcknowledgmentWindow) (version ceiling : ℕ) : Type 0 where
  pub within_ceiling : budget ≤ ceiling
  pub long : budget < n
  pub asks_none : is_exceptions w ≡ false
  pub served : 1 ≤ version
  pub small : transaction ≤ 7
  pub begin_room : bare_octets (prohibited w) ≤ budget
  pub later_room : 3 < budget
  pub not_many : segment_count n budget (prohibited w) ≤ 256

-- the octets behind Begin's, and over how many segments they go
abbrev pub rest : ℕ → ℕ → AcknowledgmentWindow → ℕ
rest n budget w = n - begin_data n budget (prohibited w)

abbrev pub later : ℕ → ℕ → AcknowledgmentWindow → ℕ
later n budget w = segment_count n budget (prohibited w) - 1

-- what each has at least where they are spread evenly, and how many octets are left over then
abbrev pub share : ℕ → ℕ → AcknowledgmentWindow → ℕ
share n budget w = rest n budget w / later n budget w

abbrev pub over : ℕ → ℕ → AcknowledgmentWindow → ℕ
over n budget w = rest n budget w % later n budget w
