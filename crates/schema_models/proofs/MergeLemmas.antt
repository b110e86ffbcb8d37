-- Merging rows: what is left where one of them has ended.
use Rattle.std.proofs.Common.{◌≡◌, ℕ, ◌≤◌, List, [], ◌∷◌, length, min, drop, refl, arith, length-drop}
use Rattle.dl_values.specs.declared.cell.Cell.{Cell}
use Rattle.schema_models.specs.Folds.{merged_row}
use Rattle.schema_models.specs.declared.column_def.ColumnDef.{ColumnDef}

ended : (cs : List ColumnDef) (xs ys : List Cell) → min (min (length cs) (length xs)) (length ys) ≡ 0 → merged_row cs xs ys ≡ []
ended [] xs ys h = refl
ended (c ∷ cs) [] ys h = refl
ended (c ∷ cs) (x ∷ xs) [] h = refl
ended (c ∷ cs) (x ∷ xs) (y ∷ ys) h = absurd (omega arith)

pub ended_after : (cs : List ColumnDef) (xs ys : List Cell) (i : ℕ) → min (min (length cs) (length xs)) (length ys) ≤ i → merged_row (drop i cs) (drop i xs) (drop i ys) ≡ []
ended_after cs xs ys i h = ended (drop i cs) (drop i xs) (drop i ys) (simp length-drop (omega arith))
