-- `octets::compare` meets its contract: `position` finds the first pair that differs. Assumes nothing.
use Rattle.std.proofs.Common.{◌≡◌, arith, rules, tests}
use Rattle.std.proofs.lemmas.Iterator.{YieldsList-from_slice, YieldsList-from_zip}
use Rattle.std.proofs.lemmas.Iterator.Search.{position_from_yields_List}
use Rattle.std.specs.List.{zip, position}
use Rattle.octets.specs.Octets.{same_ne}
use Rattle.octets.proofs.Looked.{differs, compared_first, looked_none}
use Rattle.octets.proofs.compare.Goals as goal
use Rattle.octets.proofs.compare.Goals.{After-position}

found : (c : After-position) → c.position.result ≡ position differs (zip c.args.a.now c.args.b.now)
found c =
    position_from_yields_List differs c.position.new.self _ _ c.position.ensures.ran
    (YieldsList-from_zip (YieldsList-from_slice {s = c.zip.result.a} c.args.a.now cc) (YieldsList-from_slice {s = c.zip.result.b} c.args.b.now cc))
    (λ x b q k. search (rules, tests))

pub returns-then-a-b : goal.returns-then-a-b
returns-then-a-b c = grind (arith, same_ne, looked_none)

pub returns-in-Some : goal.returns-in-Some
returns-in-Some c =
    grind (arith, compared_first c.args.a.now c.args.b.now c.position.result (found (goal.at.returns-in-Some c).After-position))

pub returns-in-None : goal.returns-in-None
returns-in-None c =
    grind (arith, compared_first c.args.a.now c.args.b.now c.position.result (found (goal.at.returns-in-None c).After-position))
