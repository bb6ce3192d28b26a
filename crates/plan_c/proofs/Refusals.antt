-- What the frozen check and the converter say of a refusal is its number. Assumes nothing.
use Rattle.std.specs.Prelude.{◌≡◌, refl, Result, Ok, Err}
use Rattle.segmentation.specs.declared.PlanningError.{PlanningError}
use Rattle.segmentation.specs.Numbers.{planning_number}
use Rattle.segmentation.specs.Frozen.{answer_by}
use Rattle.dialect.specs.declared.ConvertError.{ConvertError}
use Rattle.dialect.specs.Numbers.{convert_number}
use Rattle.dialect.specs.Convert.{refused_by as converted_by}
use Rattle.plan_c.specs.Calls.{refused_by}

pub planning_refused_by : (a : Result Unit PlanningError) → refused_by planning_number a ≡ answer_by a
planning_refused_by (Ok tt) = refl
planning_refused_by (Err e) = refl

pub convert_refused_by : (a : Result Unit ConvertError) → refused_by convert_number a ≡ converted_by a
convert_refused_by (Ok tt) = refl
convert_refused_by (Err e) = refl
