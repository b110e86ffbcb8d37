-- Rows of a shape merge and fold to rows of the shape.
use Rattle.std.proofs.Common.{◌≡◌, ℤ, pos, negsuc, ◌+◌, ◌^◌, ◌%◌, Bool, true, false, cond, ◌&&◌, List, [], ◌∷◌, ◌++◌, refl, arith, w64}
use Rattle.std.specs.Int.{int_wrapping_add, cast_unsigned}
use Rattle.std.specs.List.{AllByRecursion, filter, flat_map, fold}
use Rattle.std.specs.Ordering.{is_gt}
use Rattle.std.proofs.lemmas.Bool.Decides.{nat_tests}
use mir.ValLaws.{to_z-Fits}
use mir.Val.{SFits}
use Rattle.agg_functions.specs.Merge.{greater, lesser, merged_cell, skip_null, sum}
use Rattle.dl_values.specs.Order.{cell_cmp, row_cmp}
use Rattle.dl_values.specs.Read.{is_within}
use Rattle.dl_values.specs.declared.agg_kind.AggKind.{AggKind}
use Rattle.dl_values.specs.declared.agg_kind.AggKind.TheVariants as agg
use Rattle.dl_values.specs.declared.cell.Cell.{Cell}
use Rattle.dl_values.specs.declared.cell.Cell.TheVariants as cell
use Rattle.dl_values.specs.declared.col_type.ColType.{ColType}
use Rattle.dl_values.specs.declared.col_type.ColType.TheVariants as kind
use Rattle.fold_laws.proofs.Filters.{filter_keeps}
use Rattle.fold_laws.specs.Fold.{distinct, folded, has_key, merged}
use Rattle.schema_models.proofs.ShapeLemmas.{Fits, shape_fits}
use Rattle.schema_models.specs.CellTypes.{fits_column, is_of_type}
use Rattle.schema_models.specs.Folds.{fold_of, gathered, gathered_in, key_of, merged_by_role, merged_row}
use Rattle.schema_models.specs.RowRules.{fits_columns, IsOfShape}
use Rattle.schema_models.specs.ShapeRules.{IsShape, can_merge, fits_model}
use Rattle.schema_models.specs.ShapeView.{ShapeView}
use Rattle.schema_models.specs.declared.column_def.ColumnDef.{ColumnDef}
use Rattle.schema_models.specs.declared.model.Model.{Model}
use Rattle.schema_models.specs.declared.model.Model.TheVariants as model
use Rattle.schema_models.specs.declared.role.Role.{Role}
use Rattle.schema_models.specs.declared.role.Role.TheVariants as role

-- ---- cells of one column

either : (P : Cell → Type 0) (b : Bool) (x y : Cell) → P x → P y → P (cond b x y)
either P true x y p q = p
either P false x y p q = q

within : (z : ℤ) → SFits w64 z → is_within 9223372036854775808 z ≡ true
within (pos n) h = grind (arith, nat_tests)
within (negsuc n) h = grind (arith, nat_tests)

sum_within : (x y : ℤ) → is_within 9223372036854775808 (int_wrapping_add w64 x y) ≡ true
sum_within x y = within (int_wrapping_add w64 x y) (to_z-Fits w64 ((cast_unsigned w64 x + cast_unsigned w64 y) % 2 ^ 64) (omega arith))

skip_keeps : (P : Cell → Type 0) (f : Cell → Cell → Cell) → ((x y : Cell) → P x → P y → P (f x y)) → (x y : Cell) → P x → P y → P (skip_null f x y)
skip_keeps P f g x cell.Null p q = p
skip_keeps P f g cell.Null (cell.Int y) p q = q
skip_keeps P f g cell.Null (cell.Day y) p q = q
skip_keeps P f g cell.Null (cell.Text y) p q = q
skip_keeps P f g (cell.Int x) (cell.Int y) p q = g (cell.Int x) (cell.Int y) p q
skip_keeps P f g (cell.Int x) (cell.Day y) p q = g (cell.Int x) (cell.Day y) p q
skip_keeps P f g (cell.Int x) (cell.Text y) p q = g (cell.Int x) (cell.Text y) p q
skip_keeps P f g (cell.Day x) (cell.Int y) p q = g (cell.Day x) (cell.Int y) p q
skip_keeps P f g (cell.Day x) (cell.Day y) p q = g (cell.Day x) (cell.Day y) p q
skip_keeps P f g (cell.Day x) (cell.Text y) p q = g (cell.Day x) (cell.Text y) p q
skip_keeps P f g (cell.Text x) (cell.Int y) p q = g (cell.Text x) (cell.Int y) p q
skip_keeps P f g (cell.Text x) (cell.Day y) p q = g (cell.Text x) (cell.Day y) p q
skip_keeps P f g (cell.Text x) (cell.Text y) p q = g (cell.Text x) (cell.Text y) p q

module _ (c : ColumnDef) where
  Has : Cell → Type 0
  Has x = fits_column c x ≡ true

  has_lesser : (x y : Cell) → Has x → Has y → Has (lesser x y)
  has_lesser x y p q = either Has (is_gt (cell_cmp x y)) y x q p

  has_greater : (x y : Cell) → Has x → Has y → Has (greater x y)
  has_greater x y p q = either Has (is_gt (cell_cmp x y)) x y p q

  of_bigint : (t : ColType) → can_merge agg.Sum t ≡ true → (x y : ℤ) → is_of_type t (cell.Int (int_wrapping_add w64 x y)) ≡ true
  of_bigint kind.BigInt e x y = sum_within x y
  of_bigint kind.TinyInt e x y = cc
  of_bigint kind.SmallInt e x y = cc
  of_bigint kind.Int e x y = cc
  of_bigint kind.Date e x y = cc
  of_bigint (kind.Varchar m) e x y = cc

  has_sum : can_merge agg.Sum c.kind ≡ true → (x y : Cell) → Has x → Has y → Has (sum x y)
  unfolding Has
  has_sum e (cell.Int x) (cell.Int y) p q = of_bigint c.kind e x y
  has_sum e (cell.Int x) cell.Null p q = p
  has_sum e (cell.Int x) (cell.Day y) p q = p
  has_sum e (cell.Int x) (cell.Text y) p q = p
  has_sum e cell.Null (cell.Int y) p q = q
  has_sum e (cell.Day x) (cell.Int y) p q = q
  has_sum e (cell.Text x) (cell.Int y) p q = q
  has_sum e cell.Null cell.Null p q = has_greater cell.Null cell.Null p q
  has_sum e cell.Null (cell.Day y) p q = has_greater cell.Null (cell.Day y) p q
  has_sum e cell.Null (cell.Text y) p q = has_greater cell.Null (cell.Text y) p q
  has_sum e (cell.Day x) cell.Null p q = has_greater (cell.Day x) cell.Null p q
  has_sum e (cell.Day x) (cell.Day y) p q = has_greater (cell.Day x) (cell.Day y) p q
  has_sum e (cell.Day x) (cell.Text y) p q = has_greater (cell.Day x) (cell.Text y) p q
  has_sum e (cell.Text x) cell.Null p q = has_greater (cell.Text x) cell.Null p q
  has_sum e (cell.Text x) (cell.Day y) p q = has_greater (cell.Text x) (cell.Day y) p q
  has_sum e (cell.Text x) (cell.Text y) p q = has_greater (cell.Text x) (cell.Text y) p q

  has_merged : (k : AggKind) → can_merge k c.kind ≡ true → (x y : Cell) → Has x → Has y → Has (merged_cell k x y)
  has_merged agg.Sum e x y p q = skip_keeps Has sum (has_sum e) x y p q
  has_merged agg.Min e x y p q = skip_keeps Has lesser has_lesser x y p q
  has_merged agg.Max e x y p q = skip_keeps Has greater has_greater x y p q
  has_merged agg.Replace e x y p q = q
  has_merged agg.ReplaceIfNotNull e x y p q = skip_keeps Has (λ a b. b) (λ a b p q. q) x y p q

  can_merge_by : (m : Model) (k : AggKind) → fits_model m (role.Agg k) c.kind ≡ true → can_merge k c.kind ≡ true
  can_merge_by model.Aggregate k e = e
  can_merge_by model.Duplicate k e = cc
  can_merge_by model.Unique k e = cc

  has_by_role : (m : Model) (r : Role) → fits_model m r c.kind ≡ true → (x y : Cell) → Has x → Has y → Has (merged_by_role r x y)
  has_by_role m role.Key e x y p q = p
  has_by_role m role.Plain e x y p q = q
  has_by_role m (role.Agg k) e x y p q = has_merged k (can_merge_by m k e) x y p q

  pub cell_stays : (m : Model) → fits_model m c.role c.kind ≡ true → (x y : Cell) → fits_column c x ≡ true → fits_column c y ≡ true → fits_column c (merged_by_role c.role x y) ≡ true
  unfolding Has
  cell_stays m e x y p q = has_by_role m c.role e x y p q

-- ---- rows

both : (a b : Bool) → (a && b) ≡ true → (a ≡ true) × (b ≡ true)
both true b e = (refl, e)
both false b e = cc

and_true : (a b : Bool) → a ≡ true → b ≡ true → (a && b) ≡ true
and_true a b e f = rw (e, f) refl

row_stays : (m : Model) (cs : List ColumnDef) → AllByRecursion (Fits m) cs → (xs ys : List Cell) → fits_columns cs xs ≡ true → fits_columns cs ys ≡ true → fits_columns cs (merged_row cs xs ys) ≡ true
row_stays m [] a xs ys p q = refl
row_stays m (c ∷ cs) a [] ys p q = cc
row_stays m (c ∷ cs) a (x ∷ xs) [] p q = cc
row_stays m (c ∷ cs) a (x ∷ xs) (y ∷ ys) p q =
    let u = both (fits_column c x) (fits_columns cs xs) p in
    let v = both (fits_column c y) (fits_columns cs ys) q in
    and_true (fits_column c (merged_by_role c.role x y)) (fits_columns cs (merged_row cs xs ys)) (cell_stays c m a.0 x y u.0 v.0) (row_stays m cs a.1 xs ys u.1 v.1)

pub merged_stays : (s : ShapeView) → IsShape s → (xs ys : List Cell) → IsOfShape s xs → IsOfShape s ys → IsOfShape s (merged_row s.columns xs ys)
merged_stays s i xs ys p q = row_stays s.model s.columns (shape_fits s i) xs ys p q

-- ---- folds

all_append : {X : Type 0} (P : X → Type 0) (xs ys : List X) → AllByRecursion P xs → AllByRecursion P ys → AllByRecursion P (xs ++ ys)
all_append P [] ys a b = b
all_append P (x ∷ xs) ys a b = (a.0, all_append P xs ys a.1 b)

all_flat : {X Y : Type 0} (P : X → Type 0) (G : Y → List X) → ((y : Y) → AllByRecursion P (G y)) → (ys : List Y) → AllByRecursion P (flat_map G ys)
all_flat P G f [] = tt
all_flat P G f (y ∷ ys) = all_append P (G y) (flat_map G ys) (f y) (all_flat P G f ys)

all_merged : (P : List Cell → Type 0) (op : List Cell → List Cell → List Cell) → ((x y : List Cell) → P x → P y → P (op x y)) → (xs : List (List Cell)) → AllByRecursion P xs → AllByRecursion P (merged op xs)
all_merged P op f [] a = tt
all_merged P op f (x ∷ xs) a = (go x xs a.0 a.1, tt)
  where
    go : (x : List Cell) (xs : List (List Cell)) → P x → AllByRecursion P xs → P (fold op x xs)
    go x [] p a = p
    go x (y ∷ ys) p a = go (op x y) ys (f x y p a.0) a.1

all_gathered : (s : ShapeView) → IsShape s → (rows : List (List Cell)) → AllByRecursion (IsOfShape s) rows → AllByRecursion (IsOfShape s) (gathered s rows)
all_gathered s i rows a = go s.model
  where
    go : (m : Model) → AllByRecursion (IsOfShape s) (gathered_in m s.columns rows)
    go model.Duplicate = a
    go model.Unique = all_merged (IsOfShape s) (merged_row s.columns) (merged_stays s i) rows a
    go model.Aggregate = all_merged (IsOfShape s) (merged_row s.columns) (merged_stays s i) rows a

pub fold_stays : (s : ShapeView) → IsShape s → (rows : List (List Cell)) → AllByRecursion (IsOfShape s) rows → AllByRecursion (IsOfShape s) (fold_of s rows)
unfolding folded
fold_stays s i rows a = all_flat (IsOfShape s) (λ k. gathered s (filter (has_key row_cmp (key_of s) k) rows)) (λ k. all_gathered s i (filter (has_key row_cmp (key_of s) k) rows) (filter_keeps (IsOfShape s) (has_key row_cmp (key_of s) k) rows a)) (distinct row_cmp (key_of s) rows)
