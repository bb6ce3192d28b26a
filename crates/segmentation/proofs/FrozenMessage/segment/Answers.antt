-- `FrozenMessage::segment` meets its contract, by what `data_start` says of the heads in front. Assumes nothing.
use mathlib.Core.Path.{◌≡◌, sym, ◌∙◌}
use Rattle.std.specs.Prelude.{length, take}
use native.Mathlib.Omega.{arith}
use borrow.Author.Rules.{rules}
use Rattle.segmentation.specs.Frozen.{data_before}
use Rattle.segmentation.specs.Heads.{before_suc, before_all_front, start_at, start_none, segment_none, segment_some}
use Rattle.segmentation.proofs.FrozenMessage.segment.Goals as goal
use Rattle.segmentation.proofs.FrozenMessage.segment.Goals.{After-data_start}

-- the data of the heads in front
in_front : (c : After-data_start) → data_before (take c.args.index c.args.self.heads) (length (take c.args.index c.args.self.heads)) ≡ data_before c.args.self.heads c.args.index
in_front c = before_all_front c.args.self.heads c.args.index (search rules)

pub returns-then-self-index : goal.returns-then-self-index
returns-then-self-index c = sym (segment_none c.args.self c.args.index (λ h. omega (arith, c.then-self-index.either)))

pub returns-in_err-offset : goal.returns-in_err-offset
returns-in_err-offset c =
    let heads = c.args.self.heads in
    let f = in_front (goal.at.returns-in_err-offset c).After-data_start in
    let h = start_none (take c.args.index heads) (length (take c.args.index heads)) c.args.self.message_octets (sym c.data_start.ensures ∙ c.in_err-offset.was) in
    c.from_residual.ensures ∙ sym (segment_none c.args.self c.args.index (λ s. omega (arith, before_suc heads c.args.index)))

pub returns-then-self-offset : goal.returns-then-self-offset
returns-then-self-offset c =
    let heads = c.args.self.heads in
    let f = in_front (goal.at.returns-then-self-offset c).After-data_start in
    let h = start_at (take c.args.index heads) (length (take c.args.index heads)) c.args.self.message_octets c.in_ok-offset.offset (sym c.data_start.ensures ∙ c.in_ok-offset.was) in
    sym (segment_none c.args.self c.args.index (λ s. omega (arith, before_suc heads c.args.index)))

pub returns : goal.returns
returns c =
    let heads = c.args.self.heads in
    let f = in_front (goal.at.returns c).After-data_start in
    let h = start_at (take c.args.index heads) (length (take c.args.index heads)) c.args.self.message_octets c.in_ok-offset.offset (sym c.data_start.ensures ∙ c.in_ok-offset.was) in
    simp (h.0 ∙ f)
    (sym (segment_some c.args.self c.args.index c.if-self-index.false (omega arith) (omega (arith, before_suc heads c.args.index))))
