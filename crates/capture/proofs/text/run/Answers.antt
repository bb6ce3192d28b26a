-- The run ends at the first character that is of another class, or with the list.
use Rattle.std.proofs.Common.{◌≡◌, ℕ, Option, ap, ◌∙◌, not, length, rules, tests}
use Rattle.std.specs.Prelude.{position, unwrap_or}
use Rattle.std.proofs.lemmas.Iterator.{YieldsList-from_slice}
use Rattle.std.proofs.lemmas.Iterator.Search.{position_from_yields_List}
use Rattle.capture.specs.Text.{in_class}
use Rattle.capture.specs.TextLaws.{leading_position}
use Rattle.capture.proofs.text.run.Goals as goal

pub returns-clause-value : goal.returns-clause-value
returns-clause-value c =
    let e : c.position.result ≡ position (λ x. not (in_class c.args.class x)) c.args.s.now =
    position_from_yields_List (λ x. not (in_class c.args.class x)) _ _ _ c.position.ensures.ran (YieldsList-from_slice c.args.s.now cc) (λ x b q k. search (rules, tests)) in
    c.unwrap_or.ensures ∙ ap (λ (o : Option ℕ). unwrap_or o (length c.args.s.now)) e ∙ leading_position (in_class c.args.class) c.args.s.now
