-- Rows of a shape convert by the map of each rollup.
use Rattle.std.proofs.Common.{◌≡◌, ℕ, Bool, true, false, cond, ◌&&◌, List, [], ◌∷◌, ◌++◌, Option, Some, None, refl, sym, ◌∙◌, ap, subst, find, is_some, is_none}
use Rattle.std.specs.List.{AllByRecursion}
use Rattle.std.specs.Str.{bytes_eq}
use Rattle.std.proofs.Common.{arith}
use Rattle.std.proofs.lemmas.Bool.Decides.{nat_tests}
use Rattle.dl_values.specs.declared.cell.Cell.{Cell}
use Rattle.dl_values.specs.declared.cell.Cell.TheVariants as cell
use Rattle.dl_values.specs.declared.col_type.ColType.{ColType}
use Rattle.dl_values.specs.declared.col_type.ColType.TheVariants as kind
use Rattle.dl_values.specs.Read.{read}
use Rattle.dl_values.specs.Write.{cell_text}
use Rattle.schema_models.specs.CellTypes.{fits_column}
use Rattle.schema_models.specs.RowRules.{IsOfShape, fits_columns}
use Rattle.schema_models.specs.ShapeView.{ShapeView}
use Rattle.schema_models.specs.declared.column_def.ColumnDef.{ColumnDef}
use Rattle.schema_models.specs.CellsByName.{cell_under, names_of}
use Rattle.row_map.specs.declared.map.Origin.TheVariants as origin
use Rattle.row_map.specs.Maps.{Converts, by_names, cast_by, cast_cell, cell_by, cells_by, column_named, picked, picked_one, put_first, rollup_map, same_type, standing, unknown_column}

pub same_itself : (k : ColType) → same_type k k ≡ true
same_itself kind.TinyInt = refl
same_itself kind.SmallInt = refl
same_itself kind.Int = refl
same_itself kind.BigInt = refl
same_itself kind.Date = refl
same_itself (kind.Varchar m) = grind (arith, nat_tests)

-- a cell of a column stands in a column like it
cast_stands : (c : ColumnDef) (x : Cell) → fits_column c x ≡ true → is_some (standing c.nullable (cast_cell c.kind c.kind x)) ≡ true
cast_stands c cell.Null h = ap (λ (b : Bool). is_some (cond b (Some cell.Null) None)) h
cast_stands c (cell.Int z) h = ap (λ (b : Bool). is_some (standing c.nullable (cond b (Some (cell.Int z)) (read c.kind (cell_text (cell.Int z)))))) (same_itself c.kind)
cast_stands c (cell.Day d) h = ap (λ (b : Bool). is_some (standing c.nullable (cond b (Some (cell.Day d)) (read c.kind (cell_text (cell.Day d)))))) (same_itself c.kind)
cast_stands c (cell.Text t) h = ap (λ (b : Bool). is_some (standing c.nullable (cond b (Some (cell.Text t)) (read c.kind (cell_text (cell.Text t)))))) (same_itself c.kind)

and_left : (a b : Bool) → (a && b) ≡ true → a ≡ true
and_left true b h = refl
and_left false b h = h

and_right : (a b : Bool) → (a && b) ≡ true → b ≡ true
and_right true b h = h
and_right false b h = absurd (cc)

-- the cell under the name of a column, in a row of the columns
under : (columns : List ColumnDef) (n : List ℕ) (c : ColumnDef) (row : List Cell) → column_named n columns ≡ Some c → fits_columns columns row ≡ true → (x : Cell) × (cell_under (names_of columns) n row ≡ Some x) × (fits_column c x ≡ true)
under [] n c row f h = absurd (cc)
under (d ∷ ds) n c [] f h = absurd (cc)
under (d ∷ ds) n c (x ∷ xs) f h = go (bytes_eq d.name n) f (λ k. under ds n c xs k (and_right (fits_column d x) (fits_columns ds xs) h))
  where
    go : (b : Bool) → cond b (Some d) (column_named n ds) ≡ Some c → (column_named n ds ≡ Some c → (y : Cell) × (cell_under (names_of ds) n xs ≡ Some y) × (fits_column c y ≡ true)) → (y : Cell) × (cond b (Some x) (cell_under (names_of ds) n xs) ≡ Some y) × (fits_column c y ≡ true)
    go true k r = let i : d ≡ c = cc in (x, refl, subst (λ (e : ColumnDef). fits_column e x ≡ true) i (and_left (fits_column d x) (fits_columns ds xs) h))
    go false k r = r k

cell_stands : (columns : List ColumnDef) (n : List ℕ) (c : ColumnDef) (row : List Cell) → column_named n columns ≡ Some c → fits_columns columns row ≡ true → is_some (cell_by columns c (origin.From n) row) ≡ true
cell_stands columns n c row f h =
    let u = under columns n c row f h in
    ap (λ (o : Option ColumnDef). is_some (cast_by o c (cell_under (names_of columns) n row))) f ∙ ap (λ (o : Option Cell). is_some (cast_by (Some c) c o)) u.1 ∙ cast_stands c u.0 u.2

put_some : (a : Option Cell) (b : Option (List Cell)) → is_some a ≡ true → is_some b ≡ true → is_some (put_first a b) ≡ true
put_some None b h k = absurd (cc)
put_some (Some x) None h k = absurd (cc)
put_some (Some x) (Some r) h k = refl

pub known_cons : (columns : List ColumnDef) (n : List ℕ) (ns : List (List ℕ)) (o : Option ColumnDef) → cond (is_none o) (Some n) (find (λ k. is_none (column_named k columns)) ns) ≡ None → ((c : ColumnDef) × (o ≡ Some c)) × (find (λ k. is_none (column_named k columns)) ns ≡ None)
known_cons columns n ns None h = absurd (cc)
known_cons columns n ns (Some c) h = ((c, refl), h)

picked_some : (columns : List ColumnDef) (names : List (List ℕ)) (row : List Cell) → find (λ n. is_none (column_named n columns)) names ≡ None → fits_columns columns row ≡ true → is_some (cells_by columns (picked columns names) (by_names names) row) ≡ true
picked_some columns [] row k h = refl
picked_some columns (n ∷ ns) row k h =
    let u = known_cons columns n ns (column_named n columns) k in
    subst (λ (o : Option ColumnDef). is_some (cells_by columns (picked_one o ++ picked columns ns) (origin.From n ∷ by_names ns) row) ≡ true) (sym u.0.1)
    (put_some (cell_by columns u.0.0 (origin.From n) row) (cells_by columns (picked columns ns) (by_names ns) row) (cell_stands columns n u.0.0 row u.0.1 h) (picked_some columns ns row u.1 h))

pub rollup_converts : (s : ShapeView) (names : List (List ℕ)) (rows : List (List Cell)) → unknown_column s names ≡ None → AllByRecursion (IsOfShape s) rows → Converts (rollup_map s names) rows
rollup_converts s names [] k h = tt
rollup_converts s names (r ∷ rs) k h = (picked_some s.columns names r k h.0, rollup_converts s names rs k h.1)
