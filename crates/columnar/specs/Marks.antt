-- The marks of a shape.
use Rattle.std.specs.Prelude.{map}
use Rattle.columnar.specs.MarksView.{MarksView}
use Rattle.columnar.specs.declared.marks.ColumnMark.{ColumnMark}
use Rattle.schema_models.specs.ShapeView.{ShapeView, key_count}
use Rattle.schema_models.specs.declared.column_def.ColumnDef.{ColumnDef}

-- what of a column decides which cells it may have
abbrev pub mark_of : ColumnDef → ColumnMark
mark_of c = record { kind = c.kind; nullable = c.nullable }

abbrev pub marks_of : ShapeView → MarksView
marks_of s = record { model = s.model; keys = key_count s.columns; columns = map mark_of s.columns }
