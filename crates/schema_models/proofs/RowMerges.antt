-- Merging rows is associative and keeps the key, so that the fold of each model is a fold by key with all its laws.
use Rattle.std.proofs.Common.{◌≡◌, ℕ, ◌+◌, List, [], ◌∷◌, take, refl, ap, ap₂, sym, ◌∙◌, subst, add-one}
use Rattle.agg_functions.specs.MergeLemmas.{merge_assoc}
use Rattle.dl_values.specs.OrderLemmas.{rows_total, rows_same}
use Rattle.dl_values.specs.Order.{row_cmp}
use Rattle.dl_values.specs.declared.cell.Cell.{Cell}
use Rattle.fold_laws.proofs.Merges.{gathers, fold_rises}
use Rattle.fold_laws.proofs.Streams.{gathers_all}
use Rattle.fold_laws.specs.Fold.{IsFolding, IsMerging, IsRowMerge, Rises, folded}
use Rattle.schema_models.specs.Folds.{fold_of, gathered, gathered_in, key_in, key_of, merged_by_role, merged_row}
use Rattle.schema_models.specs.ShapeView.{ShapeView, key_count, more_keys}
use Rattle.schema_models.specs.declared.column_def.ColumnDef.{ColumnDef}
use Rattle.schema_models.specs.declared.model.Model.{Model}
use Rattle.schema_models.specs.declared.model.Model.TheVariants as model
use Rattle.schema_models.specs.declared.role.Role.{Role}
use Rattle.schema_models.specs.declared.role.Role.TheVariants as role

pub role_assoc : (r : Role) (a b c : Cell) → merged_by_role r (merged_by_role r a b) c ≡ merged_by_role r a (merged_by_role r b c)
role_assoc role.Key a b c = refl
role_assoc role.Plain a b c = refl
role_assoc (role.Agg k) a b c = merge_assoc k a b c

pub row_assoc : (cs : List ColumnDef) (a b c : List Cell) → merged_row cs (merged_row cs a b) c ≡ merged_row cs a (merged_row cs b c)
row_assoc [] a b c = refl
row_assoc (d ∷ cs) [] b c = refl
row_assoc (d ∷ cs) (x ∷ xs) [] c = refl
row_assoc (d ∷ cs) (x ∷ xs) (y ∷ ys) [] = refl
row_assoc (d ∷ cs) (x ∷ xs) (y ∷ ys) (z ∷ zs) = ap₂ (λ u us. u ∷ us) (role_assoc d.role x y z) (row_assoc cs xs ys zs)

tail_same : {X : Type 0} (x y : X) (xs ys : List X) → x ∷ xs ≡ y ∷ ys → xs ≡ ys
tail_same x y xs ys e = cc

nil_no_cons : {X : Type 0} (x : X) (xs : List X) → x ∷ xs ≡ [] → ⊥
nil_no_cons x xs e = cc

-- a key column in front of others that keep their keys
front_kept : (n : ℕ) (d : ColumnDef) (cs : List ColumnDef) → d.role ≡ role.Key → ((xs ys : List Cell) → take n xs ≡ take n ys → take n (merged_row cs xs ys) ≡ take n xs)
    → (a b : List Cell) → take (n + 1) a ≡ take (n + 1) b → take (n + 1) (merged_row (d ∷ cs) a b) ≡ take (n + 1) a
front_kept n d cs h rest [] b e = refl
front_kept n d cs h rest (x ∷ xs) [] e = absurd (nil_no_cons x (take n xs) (rw add-one at e))
front_kept n d cs h rest (x ∷ xs) (y ∷ ys) e = rw (h, add-one) (ap (λ l. x ∷ l) (rest xs ys (tail_same x y (take n xs) (take n ys) (rw add-one at e))))

-- rows with the same key merge to a row with it
key_kept : (cs : List ColumnDef) (a b : List Cell) → take (key_count cs) a ≡ take (key_count cs) b → take (key_count cs) (merged_row cs a b) ≡ take (key_count cs) a
key_kept [] a b e = refl
key_kept (d ∷ cs) a b e = go d.role refl (λ xs ys f. key_kept cs xs ys f)
  where
    go : (r : Role) → d.role ≡ r → ((xs ys : List Cell) → take (key_count cs) xs ≡ take (key_count cs) ys → take (key_count cs) (merged_row cs xs ys) ≡ take (key_count cs) xs)
        → take (more_keys d.role (key_count cs)) (merged_row (d ∷ cs) a b) ≡ take (more_keys d.role (key_count cs)) a
    go role.Plain h rest = ap (λ n. take n (merged_row (d ∷ cs) a b)) (ap (λ r. more_keys r (key_count cs)) h) ∙ sym (ap (λ n. take n a) (ap (λ r. more_keys r (key_count cs)) h))
    go (role.Agg k) h rest = ap (λ n. take n (merged_row (d ∷ cs) a b)) (ap (λ r. more_keys r (key_count cs)) h) ∙ sym (ap (λ n. take n a) (ap (λ r. more_keys r (key_count cs)) h))
    go role.Key h rest =
        let k : more_keys d.role (key_count cs) ≡ key_count cs + 1 = ap (λ r. more_keys r (key_count cs)) h in
        subst (λ n. take n (merged_row (d ∷ cs) a b) ≡ take n a) (sym k) (front_kept (key_count cs) d cs h rest a b (subst (λ n. take n a ≡ take n b) k e))

pub rows_merge : (cs : List ColumnDef) → IsRowMerge row_cmp (λ r. take (key_count cs) r) (merged_row cs)
rows_merge cs = record { assoc = row_assoc cs; kept = λ x y e. key_kept cs x y (rows_same (take (key_count cs) x) (take (key_count cs) y) e) }

pub rows_are_merging : (cs : List ColumnDef) → IsMerging row_cmp (λ r. take (key_count cs) r) (merged_row cs)
rows_are_merging cs = record { order = rows_total; apart = rows_same; merges = rows_merge cs }

-- the fold of each model is a fold by key
pub rows_are_folding : (m : Model) (cs : List ColumnDef) → IsFolding row_cmp (key_in m (key_count cs)) (gathered_in m cs)
rows_are_folding model.Duplicate cs = record { order = rows_total; apart = rows_same; gathers = gathers_all rows_total (λ r. r) }
rows_are_folding model.Unique cs = record { order = rows_total; apart = rows_same; gathers = gathers rows_total (rows_merge cs) }
rows_are_folding model.Aggregate cs = record { order = rows_total; apart = rows_same; gathers = gathers rows_total (rows_merge cs) }

pub shape_folding : (s : ShapeView) → IsFolding row_cmp (key_of s) (gathered s)
shape_folding s = rows_are_folding s.model s.columns

-- but for Duplicate, the fold has each key once
pub fold_once : (s : ShapeView) → (s.model ≡ model.Duplicate → ⊥) → (rows : List (List Cell)) → Rises row_cmp (key_of s) (fold_of s rows)
fold_once s n rows = go s.model n
  where
    go : (m : Model) → (m ≡ model.Duplicate → ⊥) → Rises row_cmp (key_in m (key_count s.columns)) (folded row_cmp (key_in m (key_count s.columns)) (gathered_in m s.columns) rows)
    go model.Duplicate h = absurd (h refl)
    go model.Unique h = fold_rises rows_total (rows_merge s.columns) rows_same rows
    go model.Aggregate h = fold_rises rows_total (rows_merge s.columns) rows_same rows
