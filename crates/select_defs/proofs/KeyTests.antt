-- Tests of keys see of a row its key alone.
use Rattle.std.proofs.Common.{◌≡◌, ℕ, ◌+◌, zero, suc, Bool, true, false, cond, ◌&&◌, ◌||◌, List, [], ◌∷◌, Option, Some, take, unwrap_or, refl, sym, ap, ap₂, ◌∙◌, add-one}
use Rattle.std.specs.List.{list_all}
use Rattle.std.specs.Str.{bytes_eq}
use Rattle.std.proofs.lemmas.List.Elements.{filter_agree}
use Rattle.dl_values.specs.declared.cell.Cell.{Cell}
use Rattle.dl_values.specs.declared.cell.Cell.TheVariants as cell
use Rattle.fold_laws.proofs.Filters.{fold_filter}
use Rattle.schema_models.proofs.RowMerges.{shape_folding}
use Rattle.schema_models.specs.CellsByName.{cell_under, names_of}
use Rattle.schema_models.specs.Folds.{fold_of, key_in, key_of}
use Rattle.schema_models.specs.ShapeRules.{is_key}
use Rattle.schema_models.specs.ShapeView.{ShapeView, key_count, more_keys}
use Rattle.schema_models.specs.declared.column_def.ColumnDef.{ColumnDef}
use Rattle.schema_models.specs.declared.model.Model.{Model}
use Rattle.schema_models.specs.declared.model.Model.TheVariants as model
use Rattle.schema_models.specs.declared.role.Role.{Role}
use Rattle.schema_models.specs.declared.role.Role.TheVariants as role
use Rattle.sql_text.specs.declared.query.Filter.{Filter}
use Rattle.sql_text.specs.declared.query.Query.{Query}
use Rattle.select_defs.specs.Columns.{kind_named}
use Rattle.select_defs.specs.Filters.{passes, passes_filter, passes_in, selected}
use Rattle.select_defs.specs.Laws.{names_key, tests_keys, tests_keys_in}

-- ---- a cell under the name of a key stands in the key

abbrev none : List Cell
none = []

take_none : (n : ℕ) → take n none ≡ none
take_none zero = refl
take_none (suc n) = refl

step : (r : Role) (n : List ℕ) (cs : List ColumnDef) (name : List ℕ) (row : List Cell)
    → ((xs : List Cell) → names_key cs name ≡ true → cell_under (names_of cs) name (take (key_count cs) xs) ≡ cell_under (names_of cs) name xs)
    → (is_key r && (bytes_eq n name || names_key cs name)) ≡ true
    → cell_under (n ∷ names_of cs) name (take (more_keys r (key_count cs)) row) ≡ cell_under (n ∷ names_of cs) name row
step role.Plain n cs name row rest e = cc
step (role.Agg k) n cs name row rest e = cc
step role.Key n cs name [] rest e = ap (λ (l : List Cell). cell_under (n ∷ names_of cs) name l) (take_none (key_count cs + 1))
step role.Key n cs name (x ∷ xs) rest e = ap (λ (k : ℕ). cell_under (n ∷ names_of cs) name (take k (x ∷ xs))) (add-one (key_count cs)) ∙ go (bytes_eq n name) e
  where
    go : (b : Bool) → (b || names_key cs name) ≡ true → cond b (Some x) (cell_under (names_of cs) name (take (key_count cs) xs)) ≡ cond b (Some x) (cell_under (names_of cs) name xs)
    go true h = refl
    go false h = rest xs h

pub under_keys : (columns : List ColumnDef) (name : List ℕ) (row : List Cell) → names_key columns name ≡ true → cell_under (names_of columns) name (take (key_count columns) row) ≡ cell_under (names_of columns) name row
under_keys [] name row e = cc
under_keys (c ∷ cs) name row e = step c.role c.name cs name row (λ xs h. under_keys cs name xs h) e

-- ---- so do the tests

pub left : (a b : Bool) → (a && b) ≡ true → a ≡ true
left true b e = refl
left false b e = cc

pub right : (a b : Bool) → (a && b) ≡ true → b ≡ true
right true b e = e
right false b e = cc

all_agree : (p q test : Filter → Bool) → ((f : Filter) → test f ≡ true → p f ≡ q f) → (fs : List Filter) → list_all test fs ≡ true → list_all p fs ≡ list_all q fs
all_agree p q test agree [] e = refl
all_agree p q test agree (f ∷ fs) e = ap₂ (λ (a b : Bool). a && b) (agree f (left (test f) (list_all test fs) e)) (all_agree p q test agree fs (right (test f) (list_all test fs) e))

module _ (base s : ShapeView) where
  one_agrees : (row : List Cell) (f : Filter) → names_key s.columns f.column ≡ true → passes_filter base s row f ≡ passes_filter base s (take (key_count s.columns) row) f
  one_agrees row f e = ap (λ (x : Option Cell). passes_in (kind_named base f.column) f.check (unwrap_or x cell.Null)) (sym (under_keys s.columns f.column row e))

  by_model : (m : Model) (fs : List Filter) → tests_keys_in m s.columns fs ≡ true → (row : List Cell)
      → list_all (passes_filter base s row) fs ≡ list_all (passes_filter base s (key_in m (key_count s.columns) row)) fs
  by_model model.Duplicate fs e row = refl
  by_model model.Unique fs e row = all_agree (passes_filter base s row) (passes_filter base s (take (key_count s.columns) row)) (λ (f : Filter). names_key s.columns f.column) (one_agrees row) fs e
  by_model model.Aggregate fs e row = all_agree (passes_filter base s row) (passes_filter base s (take (key_count s.columns) row)) (λ (f : Filter). names_key s.columns f.column) (one_agrees row) fs e

  pub fold_selected : (q : Query) → tests_keys s q ≡ true → (rows : List (List Cell)) → fold_of s (selected base s q rows) ≡ selected base s q (fold_of s rows)
  fold_selected q e rows =
      let agree : (row : List Cell) → passes base s q row ≡ passes base s q (key_of s row) = λ row. by_model s.model q.filters e row in
      ap (fold_of s) (filter_agree (passes base s q) (λ row. passes base s q (key_of s row)) agree rows)
      ∙ fold_filter (shape_folding s).order (key_of s) (shape_folding s).apart (shape_folding s).gathers (passes base s q) rows
      ∙ sym (filter_agree (passes base s q) (λ row. passes base s q (key_of s row)) agree (fold_of s rows))
