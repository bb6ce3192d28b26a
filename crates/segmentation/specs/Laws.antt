-- The definitions that the laws of proofs/Laws speak of.
use Prim.Native.Nat.{ℕ, zero, suc, ◌-◌}
use Rattle.std.specs.Prelude.{List, [], ◌∷◌, ◌++◌, replicate}
use Rattle.tsar.specs.declared.SegmentHead.{SegmentHead}
use Rattle.segmentation.specs.declared.SegmentedMessage.{SegmentedMessage}
use Rattle.segmentation.specs.Plan.{planned_head}
use Rattle.segmentation.specs.Frozen.{Proposal, no_head}

-- the heads of segments 0 to n - 1
unfoldable pub heads_to : SegmentedMessage → ℕ → List SegmentHead
heads_to p zero = []
heads_to p (suc n) = heads_to p n ++ (planned_head p n ∷ [])

-- the 256 heads of a plan: those at and past the count empty
abbrev pub planned_heads : SegmentedMessage → List SegmentHead
planned_heads p = heads_to p p.count ++ replicate (256 - p.count) no_head

-- the plan as it is proposed to the frozen check
abbrev pub proposal_of : SegmentedMessage → List SegmentHead → List ℕ → ℕ → ℕ → ℕ → Proposal
proposal_of p heads message budget version ceiling =
    record { heads = heads; count = p.count; joined = message; message = message; budget = budget; version = version; ceiling = ceiling }
