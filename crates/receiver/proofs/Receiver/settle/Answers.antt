-- What the code finds out about the place is what the rules ask, and each outcome has its step.
use Rattle.std.specs.Prelude.{◌≡◌}
use Rattle.std.proofs.Common.{◌∙◌, sym, ap}
use Rattle.tsar.specs.Rows.{first_of}
use Rattle.receiver.specs.Receive.{closes, finishes, keeps, slot_rules}
use Rattle.receiver.specs.Steps.{arrived, decided}
use Rattle.receiver.proofs.Settling.{outcome_is, settled, settled_fails, settled_keeps, settled_repeats}
use Rattle.receiver.proofs.Receiver.settle.Goals as goal
use Rattle.receiver.proofs.Receiver.settle.Goals.{After-decide}

outcome_said : (c : After-decide) → let x = c.args in decided c.decide.result ≡ first_of (slot_rules x.self.now (arrived x.segment x.«data».now x.reading) x.store.now) keeps
outcome_said c = let x = c.args in outcome_is x.self.now (arrived x.segment x.«data».now x.reading) x.store.now c.place-place.result c.decide.result c.place-place.ensures c.decide.ensures

pub repeat-requires : goal.repeat-requires
repeat-requires c = c.requires.early

pub returns-in-Fails : goal.returns-in-Fails
returns-in-Fails c =
    let x = c.args in
    settled_fails x.self.now x.segment x.«data».now x.reading x.store.now x.output.now c.in-Fails.stage c.in-Fails.status c.staged-standing.result _ (ap decided (sym c.in-Fails.is) ∙ outcome_said (goal.at.returns-in-Fails c).After-decide) c.staged-standing.ensures c.fail.ensures

pub returns-in-Repeats : goal.returns-in-Repeats
returns-in-Repeats c =
    let x = c.args in
    settled_repeats x.self.now x.segment x.«data».now x.reading x.store.now x.output.now _ (ap decided (sym c.in-Repeats.is) ∙ outcome_said (goal.at.returns-in-Repeats c).After-decide) c.repeat.ensures

pub returns-in-Closes : goal.returns-in-Closes
returns-in-Closes c =
    let x = c.args in
    settled x.self.now x.segment x.«data».now x.reading x.store.now x.output.now closes (ap decided (sym c.in-Closes.is) ∙ outcome_said (goal.at.returns-in-Closes c).After-decide)

pub returns-in-Keeps : goal.returns-in-Keeps
returns-in-Keeps c =
    let x = c.args in
    settled_keeps x.self.now x.segment x.«data».now x.reading x.store.now x.output.now _ (ap decided (sym c.in-Keeps.is) ∙ outcome_said (goal.at.returns-in-Keeps c).After-decide) c.keep.ensures

pub returns-in-Finishes : goal.returns-in-Finishes
returns-in-Finishes c =
    let x = c.args in
    c.finish.ensures ∙ settled x.self.now x.segment x.«data».now x.reading x.store.now x.output.now finishes (ap decided (sym c.in-Finishes.is) ∙ outcome_said (goal.at.returns-in-Finishes c).After-decide)
