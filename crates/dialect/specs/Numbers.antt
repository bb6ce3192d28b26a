-- The numbers of a refused conversion: 26 of document 02, 2026-06, and those of a planning error, which the frozen check has too.
use Rattle.tsar.specs.Rows.{Refusal}
use Rattle.segmentation.specs.Numbers.{planning_number}
use Rattle.dialect.specs.declared.ConvertError.{ConvertError}
use Rattle.dialect.specs.declared.ConvertError.TheVariants as error

abbrev pub convert_number : ConvertError → Refusal
convert_number (error.Planning e) = planning_number e
convert_number error.OtherPattern = (26, 0)
