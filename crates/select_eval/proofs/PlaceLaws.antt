-- The cell at the place of a name is the cell under the name.
use Rattle.std.proofs.Common.{◌≡◌, ℕ, ◌+◌, suc, Bool, true, false, cond, List, [], ◌∷◌, map, Option, Some, None, unwrap_or, refl, ap, ◌∙◌, add-one}
use Rattle.std.specs.List.{position, position_from}
use Rattle.std.specs.Option.{option_map}
use Rattle.std.specs.Str.{bytes_eq}
use Rattle.std.proofs.lemmas.Iterator.Adapters.{position_from-zero}
use Rattle.dl_values.specs.declared.cell.Cell.{Cell}
use Rattle.dl_values.specs.declared.cell.Cell.TheVariants as cell
use Rattle.schema_models.specs.CellsByName.{cell_under}
use Rattle.schema_models.specs.ShapeView.{ShapeView}
use Rattle.schema_models.specs.declared.column_def.ColumnDef.{ColumnDef}
use Rattle.select_defs.specs.Columns.{cell_named}
use Rattle.select_eval.specs.Places.{cell_in, place_of}

later : {X : Type 0} (t : X → Bool) (i : ℕ) (xs : List X) → position_from t (i + 1) xs ≡ option_map (λ (n : ℕ). suc n) (position_from t i xs)
later t i [] = refl
later t i (x ∷ xs) = go (t x) (later t (i + 1) xs)
  where
    go : (b : Bool) → position_from t (i + 1 + 1) xs ≡ option_map (λ (n : ℕ). suc n) (position_from t (i + 1) xs)
        → cond b (Some (i + 1)) (position_from t (i + 1 + 1) xs) ≡ option_map (λ (n : ℕ). suc n) (cond b (Some i) (position_from t (i + 1) xs))
    go true h = ap (λ (n : ℕ). Some n) (add-one i)
    go false h = h

none_in : (place : Option ℕ) → cell_in [] place ≡ cell.Null
none_in None = refl
none_in (Some n) = refl

behind : (x : Cell) (xs : List Cell) (place : Option ℕ) → cell_in (x ∷ xs) (option_map (λ (n : ℕ). suc n) place) ≡ cell_in xs place
behind x xs None = refl
behind x xs (Some n) = refl

module _ {X : Type 0} (name_of : X → List ℕ) (name : List ℕ) where
  abbrev named : X → Bool
  named x = bytes_eq (name_of x) name

  from_start : (xs : List X) (row : List Cell) → cell_in row (position_from named 0 xs) ≡ unwrap_or (cell_under (map name_of xs) name row) cell.Null
  from_start [] row = refl
  from_start (x ∷ xs) [] = none_in (position_from named 0 (x ∷ xs))
  from_start (x ∷ xs) (y ∷ ys) = go (named x)
      (ap (cell_in (y ∷ ys)) (later named 0 xs) ∙ behind y ys (position_from named 0 xs) ∙ from_start xs ys)
    where
      go : (b : Bool) → cell_in (y ∷ ys) (position_from named (0 + 1) xs) ≡ unwrap_or (cell_under (map name_of xs) name ys) cell.Null
          → cell_in (y ∷ ys) (cond b (Some 0) (position_from named (0 + 1) xs)) ≡ unwrap_or (cond b (Some y) (cell_under (map name_of xs) name ys)) cell.Null
      go true h = refl
      go false h = h

  pub cell_under_name : (xs : List X) (row : List Cell) → cell_in row (position named xs) ≡ unwrap_or (cell_under (map name_of xs) name row) cell.Null
  cell_under_name xs row = ap (cell_in row) (position_from-zero named xs) ∙ from_start xs row

pub cell_at_place : (s : ShapeView) (name : List ℕ) (row : List Cell) → cell_in row (place_of s name) ≡ cell_named s name row
cell_at_place s name row = cell_under_name (λ (c : ColumnDef). c.name) name s.columns row
