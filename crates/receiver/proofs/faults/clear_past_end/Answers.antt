-- `clear_past_end` meets its contract: past an unknown end there is no slot. Assumes nothing.
use Rattle.receiver.specs.Record.{past_end}
use Rattle.std.specs.Prelude.{Option, ℕ}
use Rattle.words.specs.Marks.{all_below, marked}
use Rattle.words.specs.Search.{all_below_all}
use mathlib.Core.Bool.{◌&&◌, not}
use mathlib.Core.Path.{◌∙◌, ap, sym}
use Rattle.receiver.proofs.faults.clear_past_end.Goals as goal

pub returns-in-None : goal.returns-in-None
returns-in-None c =
    let x = c.args in
    sym (all_below_all 256 (λ t. not (past_end x.end t && marked x.held t)) (λ i l. ap (λ (e : Option ℕ). not (past_end e i && marked x.held i)) c.in-None.is))

pub returns-in-Some : goal.returns-in-Some
returns-in-Some c = c.none_past.ensures ∙ sym (ap (λ (e : Option ℕ). all_below 256 (λ t. not (past_end e t && marked c.args.held t))) c.in-Some.is)
