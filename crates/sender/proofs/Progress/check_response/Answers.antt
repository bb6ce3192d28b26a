-- `sender::Progress::check_response` meets its contract: the four groups of rows in their order: the first that refuses decides. Assumes nothing.
use mathlib.Core.Path.{◌≡◌, sym, ap, ◌∙◌}
use mathlib.Core.List.{List, [], ◌++◌}
use mathlib.Core.Bool.{Bool}
use Rattle.tsar.specs.Numbers.{validated_by}
use Rattle.tsar.specs.Rows.{Refusal, refusal}
use Rattle.response.specs.Responses.{response_rows}
use Rattle.sender.specs.declared.Outline.{Outline}
use Rattle.sender.specs.Calls.{clock_rows, arrival_rows, entry_rows}
use Rattle.sender.specs.Says.{checked_by}
use Rattle.sender.proofs.Turning.{course_is, refused_first, codec_first, passed_first}
use Rattle.sender.proofs.Progress.check_response.Goals as goal
use Rattle.sender.proofs.Progress.check_response.Goals.{Start}

-- the groups
abbrev clock : Start → List (Bool × Refusal)
clock c = clock_rows c.args.outline c.args.self c.args.arrival.reading

abbrev arrival : Start → List (Bool × Refusal)
arrival c = arrival_rows c.args.terms c.args.self c.args.arrival

abbrev codec : Start → List (Bool × Refusal)
codec c = response_rows c.args.terms.version c.args.arrival.response

abbrev entries : Start → List (Bool × Refusal)
entries c = entry_rows c.args.outline c.args.self c.args.arrival.response

pub returns-in_err-course-clause-rows : goal.returns-in_err-course-clause-rows
returns-in_err-course-clause-rows c =
    let at = (goal.at.returns-in_err-course-clause-rows c).Start in
    refused_first (clock at) (arrival at ++ (codec at ++ entries at)) c.check_clock.result c.in_err-course.field-0.0 c.from_residual.result c.check_clock.ensures.rows c.in_err-course.was c.from_residual.ensures.1

pub returns-in_err-check_arrival-clause-rows : goal.returns-in_err-check_arrival-clause-rows
returns-in_err-check_arrival-clause-rows c =
    let at = (goal.at.returns-in_err-check_arrival-clause-rows c).Start in
    refused_first (arrival at) (codec at ++ entries at) c.check_arrival.result c.in_err-check_arrival.field-0.0 c.from_residual-in_err-check_arrival.result c.check_arrival.ensures c.in_err-check_arrival.was c.from_residual-in_err-check_arrival.ensures.1
    ∙ passed_first (clock at) (arrival at ++ (codec at ++ entries at)) (sym c.check_clock.ensures.rows ∙ ap checked_by c.in_ok-course.was)

pub returns-in_err-validate-clause-rows : goal.returns-in_err-validate-clause-rows
returns-in_err-validate-clause-rows c =
    let at = (goal.at.returns-in_err-validate-clause-rows c).Start in
    codec_first (codec at) (entries at) c.validate.result c.in_err-validate.field-0.0 c.from_residual-in_err-validate.result c.validate.ensures c.in_err-validate.was c.from_residual-in_err-validate.ensures.1
    ∙ passed_first (arrival at) (codec at ++ entries at) (sym c.check_arrival.ensures ∙ ap checked_by c.in_ok-check_arrival.was)
    ∙ passed_first (clock at) (arrival at ++ (codec at ++ entries at)) (sym c.check_clock.ensures.rows ∙ ap checked_by c.in_ok-course.was)

pub returns-in_err-check_entries-clause-rows : goal.returns-in_err-check_entries-clause-rows
returns-in_err-check_entries-clause-rows c =
    let at = (goal.at.returns-in_err-check_entries-clause-rows c).Start in
    let o : c.in_ok-course.course.outline ≡ c.args.outline = course_is c.check_clock.result c.in_ok-course.course c.args.outline c.check_clock.ensures.course c.in_ok-course.was in
    let r : refusal (entry_rows c.in_ok-course.course.outline c.args.self c.args.arrival.response) ≡ refusal (entries at) = ap (λ (u : Outline). refusal (entry_rows u c.args.self c.args.arrival.response)) o in
    refused_first (entries at) [] c.check_entries.result c.in_err-check_entries.field-0.0 c.from_residual-in_err-check_entries.result (c.check_entries.ensures ∙ r) c.in_err-check_entries.was c.from_residual-in_err-check_entries.ensures.1
    ∙ passed_first (codec at) (entries at) (sym c.validate.ensures ∙ ap validated_by c.in_ok-validate.was)
    ∙ passed_first (arrival at) (codec at ++ entries at) (sym c.check_arrival.ensures ∙ ap checked_by c.in_ok-check_arrival.was)
    ∙ passed_first (clock at) (arrival at ++ (codec at ++ entries at)) (sym c.check_clock.ensures.rows ∙ ap checked_by c.in_ok-course.was)
