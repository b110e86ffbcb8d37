-- Of a row that two rows of one key merge to, an aggregate that folds serve comes to what it comes to of both.
use Rattle.std.proofs.Common.{◌≡◌, ◌⊎◌, inl, inr, ℕ, Bool, true, false, cond, ◌&&◌, ◌||◌, List, [], ◌∷◌, length, Option, Some, take, unwrap_or, refl, sym, ap, ap₂, ◌∙◌, arith}
use Rattle.std.specs.List.{list_all}
use Rattle.std.specs.Ordering.{is_gt}
use Rattle.std.specs.Str.{bytes_eq}
use Rattle.agg_functions.specs.Merge.{merged_cell}
use Rattle.agg_functions.specs.MergeLemmas.{max_comm, merge_assoc, min_comm, null_before, sum_comm}
use Rattle.dl_values.specs.Order.{cell_cmp}
use Rattle.dl_values.specs.declared.agg_kind.AggKind.{AggKind}
use Rattle.dl_values.specs.declared.agg_kind.AggKind.TheVariants as merge
use Rattle.dl_values.specs.declared.cell.Cell.{Cell}
use Rattle.dl_values.specs.declared.cell.Cell.TheVariants as cell
use Rattle.schema_models.specs.CellsByName.{cell_under, names_of}
use Rattle.schema_models.specs.Folds.{merged_by_role, merged_row}
use Rattle.schema_models.specs.ShapeView.{ShapeView, key_count}
use Rattle.schema_models.specs.declared.column_def.ColumnDef.{ColumnDef}
use Rattle.schema_models.specs.declared.role.Role.{Role}
use Rattle.schema_models.specs.declared.role.Role.TheVariants as role
use Rattle.sql_text.specs.declared.query.AggFn.{AggFn}
use Rattle.sql_text.specs.declared.query.AggFn.TheVariants as fn
use Rattle.select_defs.specs.Aggregates.{aggregate}
use Rattle.select_defs.specs.Columns.{cell_named}
use Rattle.select_defs.specs.Groups.{group_key}
use Rattle.select_defs.specs.Laws.{IsWide, is_aggregated_by, is_extreme, joined, merges_alike, names_key, role_aggregates}
use Rattle.select_defs.proofs.KeyTests.{left, right, under_keys}

-- ---- what parts come to

pub joined_assoc : (f : AggFn) (a b c : Cell) → joined f (joined f a b) c ≡ joined f a (joined f b c)
joined_assoc fn.Sum a b c = merge_assoc merge.Sum a b c
joined_assoc fn.Min a b c = merge_assoc merge.Min a b c
joined_assoc fn.Max a b c = merge_assoc merge.Max a b c
joined_assoc fn.Count a b c = merge_assoc merge.Sum a b c

joined_comm : (f : AggFn) (a b : Cell) → joined f a b ≡ joined f b a
joined_comm fn.Sum a b = sum_comm a b
joined_comm fn.Min a b = min_comm a b
joined_comm fn.Max a b = max_comm a b
joined_comm fn.Count a b = sum_comm a b

pub joined_swaps : (f : AggFn) (a b c : Cell) → joined f a (joined f b c) ≡ joined f b (joined f a c)
joined_swaps f a b c = sym (joined_assoc f a b c) ∙ ap (λ (d : Cell). joined f d c) (joined_comm f a b) ∙ joined_assoc f b a c

-- ---- one cell that counts as two

-- the aggregate of one cell is that of two
CountsAsBoth : AggFn → Cell → Cell → Cell → Type 0
CountsAsBoth f one a b = aggregate f (one ∷ []) ≡ joined f (aggregate f (a ∷ [])) (aggregate f (b ∷ []))

merged_counts : (k : AggKind) (a b : Cell) → merged_cell k cell.Null (merged_cell k a b) ≡ merged_cell k (merged_cell k cell.Null a) (merged_cell k cell.Null b)
merged_counts k a b = null_before k (merged_cell k a b) ∙ sym (ap₂ (λ (c d : Cell). merged_cell k c d) (null_before k a) (null_before k b))

alike_counts : (f : AggFn) (k : AggKind) (a b : Cell) → merges_alike f k ≡ true → CountsAsBoth f (merged_cell k a b) a b
unfolding CountsAsBoth
alike_counts fn.Sum merge.Sum a b e = merged_counts merge.Sum a b
alike_counts fn.Sum merge.Min a b e = cc
alike_counts fn.Sum merge.Max a b e = cc
alike_counts fn.Sum merge.Replace a b e = cc
alike_counts fn.Sum merge.ReplaceIfNotNull a b e = cc
alike_counts fn.Min merge.Min a b e = merged_counts merge.Min a b
alike_counts fn.Min merge.Sum a b e = cc
alike_counts fn.Min merge.Max a b e = cc
alike_counts fn.Min merge.Replace a b e = cc
alike_counts fn.Min merge.ReplaceIfNotNull a b e = cc
alike_counts fn.Max merge.Max a b e = merged_counts merge.Max a b
alike_counts fn.Max merge.Sum a b e = cc
alike_counts fn.Max merge.Min a b e = cc
alike_counts fn.Max merge.Replace a b e = cc
alike_counts fn.Max merge.ReplaceIfNotNull a b e = cc
alike_counts fn.Count merge.Sum a b e = cc
alike_counts fn.Count merge.Min a b e = cc
alike_counts fn.Count merge.Max a b e = cc
alike_counts fn.Count merge.Replace a b e = cc
alike_counts fn.Count merge.ReplaceIfNotNull a b e = cc

role_counts : (f : AggFn) (r : Role) (a b : Cell) → role_aggregates f r ≡ true → CountsAsBoth f (merged_by_role r a b) a b
role_counts f role.Key a b e = cc
role_counts f role.Plain a b e = cc
role_counts f (role.Agg k) a b e = alike_counts f k a b e

either : (b : Bool) (x : Cell) → cond b x x ≡ x
either true x = refl
either false x = refl

least_twice : (x : Cell) → merged_cell merge.Min x x ≡ x
least_twice cell.Null = refl
least_twice (cell.Int x) = either (is_gt (cell_cmp (cell.Int x) (cell.Int x))) (cell.Int x)
least_twice (cell.Day x) = either (is_gt (cell_cmp (cell.Day x) (cell.Day x))) (cell.Day x)
least_twice (cell.Text x) = either (is_gt (cell_cmp (cell.Text x) (cell.Text x))) (cell.Text x)

greatest_twice : (x : Cell) → merged_cell merge.Max x x ≡ x
greatest_twice cell.Null = refl
greatest_twice (cell.Int x) = either (is_gt (cell_cmp (cell.Int x) (cell.Int x))) (cell.Int x)
greatest_twice (cell.Day x) = either (is_gt (cell_cmp (cell.Day x) (cell.Day x))) (cell.Day x)
greatest_twice (cell.Text x) = either (is_gt (cell_cmp (cell.Text x) (cell.Text x))) (cell.Text x)

-- a cell once more does not matter to an extreme
extreme_counts : (f : AggFn) (x : Cell) → is_extreme f ≡ true → CountsAsBoth f x x x
unfolding CountsAsBoth
extreme_counts fn.Sum x e = cc
extreme_counts fn.Min x e = sym (least_twice (merged_cell merge.Min cell.Null x))
extreme_counts fn.Max x e = sym (greatest_twice (merged_cell merge.Max cell.Null x))
extreme_counts fn.Count x e = cc

-- ---- the cell of a column

abbrev cell_in : List ColumnDef → List ℕ → List Cell → Cell
cell_in cs name row = unwrap_or (cell_under (names_of cs) name row) cell.Null

value_counts : (f : AggFn) (cs : List ColumnDef) (name : List ℕ) (x y : List Cell) → length x ≡ length cs → length y ≡ length cs → is_aggregated_by f cs name ≡ true
    → CountsAsBoth f (cell_in cs name (merged_row cs x y)) (cell_in cs name x) (cell_in cs name y)
value_counts f [] name x y a b e = cc
value_counts f (c ∷ cs) name [] y a b e = absurd (omega arith)
value_counts f (c ∷ cs) name (x ∷ xs) [] a b e = absurd (omega arith)
value_counts f (c ∷ cs) name (x ∷ xs) (y ∷ ys) a b e = go (λ h. value_counts f cs name xs ys (omega arith) (omega arith) h) (bytes_eq c.name name) e
  where
    go : (is_aggregated_by f cs name ≡ true → CountsAsBoth f (cell_in cs name (merged_row cs xs ys)) (cell_in cs name xs) (cell_in cs name ys)) → (b : Bool) → cond b (role_aggregates f c.role) (is_aggregated_by f cs name) ≡ true
        → CountsAsBoth f (unwrap_or (cond b (Some (merged_by_role c.role x y)) (cell_under (names_of cs) name (merged_row cs xs ys))) cell.Null)
        (unwrap_or (cond b (Some x) (cell_under (names_of cs) name xs)) cell.Null) (unwrap_or (cond b (Some y) (cell_under (names_of cs) name ys)) cell.Null)
    go rest true h = role_counts f c.role x y h
    go rest false h = rest h

key_cell : (cs : List ColumnDef) (name : List ℕ) (x y : List Cell) → names_key cs name ≡ true → take (key_count cs) x ≡ take (key_count cs) y → cell_in cs name x ≡ cell_in cs name y
key_cell cs name x y e h = ap (λ (o : Option Cell). unwrap_or o cell.Null) (sym (under_keys cs name x e) ∙ ap (λ (l : List Cell). cell_under (names_of cs) name l) h ∙ under_keys cs name y e)

either_of : (a b : Bool) → (a || b) ≡ true → (a ≡ true) ⊎ (b ≡ true)
either_of true b e = inl refl
either_of false b e = inr e

module _ (s : ShapeView) (x y : List Cell) where
  abbrev merged_one : List Cell
  merged_one = merged_row s.columns x y

  -- a merged row counts as both to an aggregate that folds serve
  pub cells_count : (f : AggFn) (name : List ℕ) → IsWide s x → IsWide s y
      → take (key_count s.columns) x ≡ take (key_count s.columns) y → take (key_count s.columns) merged_one ≡ take (key_count s.columns) x
      → (is_aggregated_by f s.columns name || (is_extreme f && names_key s.columns name)) ≡ true
      → aggregate f (cell_named s name merged_one ∷ []) ≡ joined f (aggregate f (cell_named s name x ∷ [])) (aggregate f (cell_named s name y ∷ []))
  unfolding CountsAsBoth
  cells_count f name a b h k e = go (either_of (is_aggregated_by f s.columns name) (is_extreme f && names_key s.columns name) e)
    where
      go : (is_aggregated_by f s.columns name ≡ true) ⊎ ((is_extreme f && names_key s.columns name) ≡ true)
          → aggregate f (cell_named s name merged_one ∷ []) ≡ joined f (aggregate f (cell_named s name x ∷ [])) (aggregate f (cell_named s name y ∷ []))
      go (inl i) = value_counts f s.columns name x y a b i
      go (inr i) =
          let of_key : names_key s.columns name ≡ true = right (is_extreme f) (names_key s.columns name) i in
          ap (λ (c : Cell). aggregate f (c ∷ [])) (key_cell s.columns name merged_one x of_key k)
          ∙ extreme_counts f (cell_named s name x) (left (is_extreme f) (names_key s.columns name) i)
          ∙ ap (λ (c : Cell). joined f (aggregate f (cell_named s name x ∷ [])) (aggregate f (c ∷ []))) (key_cell s.columns name x y of_key h)

-- ---- the key of a group

pub same_group : (s : ShapeView) (group : List (List ℕ)) (x y : List Cell) → list_all (names_key s.columns) group ≡ true → take (key_count s.columns) x ≡ take (key_count s.columns) y → group_key s group x ≡ group_key s group y
same_group s [] x y e h = refl
same_group s (name ∷ names) x y e h =
    ap₂ (λ (c : Cell) (cs : List Cell). c ∷ cs)
    (key_cell s.columns name x y (left (names_key s.columns name) (list_all (names_key s.columns) names) e) h)
    (same_group s names x y (right (names_key s.columns name) (list_all (names_key s.columns) names) e) h)
