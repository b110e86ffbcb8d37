-- Which row may stand behind another in a fold.
use Rattle.std.specs.Prelude.{Bool, true, false}
use Rattle.std.specs.declared.cmp.Ordering.{Ordering}
use Rattle.std.specs.declared.cmp.Ordering.TheVariants.{Less, Equal, Greater}
use Rattle.dl_values.specs.Order.{row_cmp}
use Rattle.dl_values.specs.declared.cell.Cell.{Cell}
use Rattle.schema_models.specs.Folds.{key_of}
use Rattle.schema_models.specs.ShapeView.{ShapeView}
use Rattle.schema_models.specs.declared.model.Model.{Model}
use Rattle.schema_models.specs.declared.model.Model.TheVariants as model
use Rattle.std.specs.Prelude.{List}

abbrev pub keeps_all : Model → Bool
keeps_all model.Duplicate = true
keeps_all model.Unique = false
keeps_all model.Aggregate = false

-- a greater key, and in the Duplicate model the same one too
abbrev pub may_follow : Model → Ordering → Bool
may_follow m Less = true
may_follow m Equal = keeps_all m
may_follow m Greater = false

abbrev pub follows : ShapeView → List Cell → List Cell → Bool
follows s older newer = may_follow s.model (row_cmp (key_of s older) (key_of s newer))
