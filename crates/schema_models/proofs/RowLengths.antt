-- A row of a shape has as many cells as the shape has columns.
use Rattle.std.proofs.Common.{◌≡◌, List, [], ◌∷◌, Bool, true, false, ◌&&◌, length, refl, sym, arith}
use Rattle.dl_values.specs.declared.cell.Cell.{Cell}
use Rattle.schema_models.specs.CellTypes.{fits_column}
use Rattle.schema_models.specs.RowRules.{fits_columns}
use Rattle.schema_models.specs.declared.column_def.ColumnDef.{ColumnDef}

and_false : (b : Bool) → (b && false) ≡ false
and_false true = refl
and_false false = refl

pub other_length : (cs : List ColumnDef) (row : List Cell) → (length cs ≡ length row → ⊥) → false ≡ fits_columns cs row
other_length [] [] n = absurd (n refl)
other_length [] (x ∷ xs) n = refl
other_length (c ∷ cs) [] n = refl
other_length (c ∷ cs) (x ∷ xs) n = rw (← other_length cs xs (λ e. n (omega arith))) (sym (and_false (fits_column c x)))
