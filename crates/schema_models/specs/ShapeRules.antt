-- Which columns make a shape: the tests of columns, in the order in which they are looked for (Apache Doris
-- documentation, "Data Models"; the limits are this project's own).
use Rattle.std.specs.Prelude.{◌≡◌, Bool, true, false, not, ◌&&◌, ◌==◌, nat_lt, List, [], ◌∷◌, ◌++◌, length, Option, Some, None}
use Rattle.std.specs.List.{list_any}
use Rattle.std.specs.Str.{bytes_eq}
use Rattle.dl_values.specs.declared.agg_kind.AggKind.{AggKind}
use Rattle.dl_values.specs.declared.agg_kind.AggKind.TheVariants as agg
use Rattle.dl_values.specs.declared.cell.Cell.{Cell}
use Rattle.dl_values.specs.declared.col_type.ColType.{ColType}
use Rattle.dl_values.specs.declared.col_type.ColType.TheVariants as kind
use Rattle.schema_models.specs.CellTypes.{is_type, fits_column}
use Rattle.schema_models.specs.Faults.{first_of, refuse_if}
use Rattle.schema_models.specs.Names.{is_name}
use Rattle.schema_models.specs.ShapeView.{ShapeView}
use Rattle.schema_models.specs.declared.column_def.ColumnDef.{ColumnDef}
use Rattle.schema_models.specs.declared.model.Model.{Model}
use Rattle.schema_models.specs.declared.model.Model.TheVariants as model
use Rattle.schema_models.specs.declared.role.Role.{Role}
use Rattle.schema_models.specs.declared.role.Role.TheVariants as role
use Rattle.schema_models.specs.declared.shape_error.ShapeError.{ShapeError}
use Rattle.schema_models.specs.declared.shape_error.ShapeError.TheVariants as fault

abbrev pub is_key : Role → Bool
is_key role.Key = true
is_key role.Plain = false
is_key (role.Agg k) = false

-- a SUM column is BIGINT
abbrev pub can_merge : AggKind → ColType → Bool
can_merge agg.Sum kind.BigInt = true
can_merge agg.Sum _ = false
can_merge _ _ = true

-- value columns are aggregated in the Aggregate model, and plain in the others
abbrev pub fits_model : Model → Role → ColType → Bool
fits_model m role.Key t = true
fits_model model.Aggregate role.Plain t = false
fits_model model.Duplicate role.Plain t = true
fits_model model.Unique role.Plain t = true
fits_model model.Aggregate (role.Agg k) t = can_merge k t
fits_model model.Duplicate (role.Agg k) t = false
fits_model model.Unique (role.Agg k) t = false

-- a default, where there is one, is a cell that the column may have
abbrev pub fits_default : ColumnDef → Option Cell → Bool
fits_default c None = true
fits_default c (Some x) = fits_column c x

-- what may be wrong with a column that stands after these
abbrev pub column_faults : Model → List ColumnDef → ColumnDef → List (Option ShapeError)
column_faults m before c =
    refuse_if (not (is_name c.name)) (fault.BadName (length before))
    ∷ refuse_if (list_any (λ b. bytes_eq b.name c.name) before) (fault.DoubleName (length before))
    ∷ refuse_if (not (is_type c.kind)) (fault.BadType (length before))
    ∷ refuse_if ((length before == 0) && not (is_key c.role)) (fault.NoKey (length before))
    ∷ refuse_if (is_key c.role && list_any (λ b. not (is_key b.role)) before) (fault.KeyAfterValue (length before))
    ∷ refuse_if (not (fits_model m c.role c.kind)) (fault.BadAgg (length before))
    ∷ refuse_if (not (fits_default c c.default)) (fault.BadDefault (length before))
    ∷ []

-- what may be wrong with columns that stand after these, column by column
abbrev pub faults_after : Model → List ColumnDef → List ColumnDef → List (Option ShapeError)
faults_after m before [] = []
faults_after m before (c ∷ cs) = column_faults m before c ++ faults_after m (before ++ c ∷ []) cs

-- what may be wrong with a shape: more than 64 columns, or none, and then its columns from the first on
abbrev pub shape_faults : Model → List ColumnDef → List (Option ShapeError)
shape_faults m columns = refuse_if (nat_lt 64 (length columns)) (fault.TooManyColumns 64) ∷ refuse_if (length columns == 0) (fault.NoKey 0) ∷ faults_after m [] columns

-- the first refusal of these columns, if there is one
unfoldable pub shape_fault : Model → List ColumnDef → Option ShapeError
shape_fault m columns = first_of (shape_faults m columns)

-- a shape is a model and columns that nothing is wrong with
abbrev pub IsShape : ShapeView → Type 0
IsShape s = shape_fault s.model s.columns ≡ None
