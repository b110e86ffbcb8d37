-- Rows of one key that stand side by side, in a fold that merges them.
use Rattle.std.proofs.Common.{◌≡◌, ℕ, ◌+◌, ◌<◌, ◌≤◌, List, [], ◌∷◌, ◌++◌, true, false, length, get_or, take, drop, refl, sym, ap, ◌∙◌, subst, append_assoc, add-one, arith}
use Rattle.std.specs.Prelude.{◌==◌}
use Rattle.std.proofs.lemmas.Bool.Decides.{nat_tests}
use Rattle.std.proofs.Math.ListN.{drop_of_length-le}
use Rattle.std.proofs.Math.Seq.{drop-cons}
use Rattle.std.specs.List.{AllByRecursion}
use Rattle.std.specs.Ordering.{is_gt}
use Rattle.std.specs.declared.cmp.Ordering.{Ordering}
use Rattle.std.specs.declared.cmp.Ordering.TheVariants.{Less, Equal, Greater}
use Rattle.dl_values.specs.OrderLemmas.{rows_total, rows_same}
use Rattle.dl_values.specs.Order.{row_cmp}
use Rattle.dl_values.specs.declared.cell.Cell.{Cell}
use Rattle.fold_laws.proofs.Folds.{fold_fixed}
use Rattle.fold_laws.proofs.Merges.{fold_head, fold_step}
use Rattle.fold_laws.proofs.Streams.{gathers_all}
use Rattle.fold_laws.proofs.Unique.{all_weaker, below_from}
use Rattle.fold_laws.specs.Fold.{Ascends, From, folded, merged}
use Rattle.row_fold.specs.Sorted.{rows_of}
use Rattle.row_fold.specs.declared.keyed.Keyed.{Keyed}
use Rattle.schema_models.proofs.RowMerges.{rows_merge}
use Rattle.schema_models.specs.Folds.{fold_of, gathered, gathered_in, key_in, key_of, merged_row}
use Rattle.schema_models.specs.ShapeView.{ShapeView, key_count}
use Rattle.schema_models.specs.declared.column_def.ColumnDef.{ColumnDef}
use Rattle.schema_models.specs.declared.model.Model.{Model}
use Rattle.schema_models.specs.declared.model.Model.TheVariants as model

-- ---- Duplicate

keeps_in : (m : Model) → m ≡ model.Duplicate → (n : ℕ) (cs : List ColumnDef) (rows : List (List Cell)) → Ascends row_cmp (key_in m n) rows → rows ≡ folded row_cmp (key_in m n) (gathered_in m cs) rows
keeps_in model.Duplicate e n cs rows a = sym (fold_fixed rows_total (λ r. r) rows_same (gathers_all rows_total (λ r. r)) rows a (λ k. refl))
keeps_in model.Unique e n cs rows a = cc
keeps_in model.Aggregate e n cs rows a = cc

-- rows that ascend are their own fold
pub keeps_sorted : (s : ShapeView) → s.model ≡ model.Duplicate → (rows : List (List Cell)) → Ascends row_cmp (key_of s) rows → rows ≡ fold_of s rows
keeps_sorted s e rows a = keeps_in s.model e (key_count s.columns) s.columns rows a

-- ---- Unique and Aggregate

module _ (s : ShapeView) (n : s.model ≡ model.Duplicate → ⊥) where
  as_merge : (P : (List Cell → List Cell) → (List (List Cell) → List (List Cell)) → Type 0) → P (λ r. take (key_count s.columns) r) (merged (merged_row s.columns)) → P (key_of s) (gathered s)
  as_merge P p = go s.model n
    where
      go : (m : Model) → (m ≡ model.Duplicate → ⊥) → P (key_in m (key_count s.columns)) (gathered_in m s.columns)
      go model.Duplicate h = absurd (h refl)
      go model.Unique h = p
      go model.Aggregate h = p

  same_run : (x y : List Cell) (rest : List (List Cell)) → Equal ≡ row_cmp (key_of s x) (key_of s y) → fold_of s (merged_row s.columns x y ∷ rest) ≡ fold_of s (x ∷ y ∷ rest)
  same_run x y rest =
      as_merge (λ key all. Equal ≡ row_cmp (key x) (key y) → folded row_cmp key all (merged_row s.columns x y ∷ rest) ≡ folded row_cmp key all (x ∷ y ∷ rest))
      (λ e. sym (fold_step rows_total (rows_merge s.columns) rows_same [] x y rest (sym e)))

  same_key : (x y : List Cell) → Equal ≡ row_cmp (key_of s x) (key_of s y) → key_of s (merged_row s.columns x y) ≡ key_of s x
  same_key x y = as_merge (λ key all. Equal ≡ row_cmp (key x) (key y) → key (merged_row s.columns x y) ≡ key x) (λ e. (rows_merge s.columns).kept x y (sym e))

  pub same_taken : (out : List (List Cell)) (x y made : List Cell) → made ≡ merged_row s.columns x y → Equal ≡ row_cmp (key_of s x) (key_of s y) → (rest : List (List Cell)) → out ++ fold_of s (made ∷ rest) ≡ out ++ fold_of s (x ∷ y ∷ rest)
  same_taken out x y made m e rest = ap (λ l. out ++ fold_of s (l ∷ rest)) m ∙ ap (λ l. out ++ l) (same_run x y rest e)

  pub same_ascends : (x y made : List Cell) → made ≡ merged_row s.columns x y → Equal ≡ row_cmp (key_of s x) (key_of s y) → (rest : List (List Cell)) → Ascends row_cmp (key_of s) (x ∷ y ∷ rest) → Ascends row_cmp (key_of s) (made ∷ rest)
  same_ascends x y made m e rest a = (subst (λ k. From row_cmp (key_of s) k rest) (sym (ap (key_of s) m ∙ same_key x y e)) a.0.1, a.1.1)

  -- and the key of either row
  pub same_last : (x y made : List Cell) → made ≡ merged_row s.columns x y → Equal ≡ row_cmp (key_of s x) (key_of s y) → key_of s y ≡ key_of s made
  same_last x y made m e = sym (rows_same (key_of s x) (key_of s y) (sym e)) ∙ sym (ap (key_of s) m ∙ same_key x y e)

  less : (x y : List Cell) → is_gt (row_cmp (key_of s x) (key_of s y)) ≡ false → (Equal ≡ row_cmp (key_of s x) (key_of s y) → ⊥) → row_cmp (key_of s x) (key_of s y) ≡ Less
  less x y g h = go (row_cmp (key_of s x) (key_of s y)) refl
    where
      go : (c : Ordering) → row_cmp (key_of s x) (key_of s y) ≡ c → row_cmp (key_of s x) (key_of s y) ≡ Less
      go Less e = e
      go Equal e = absurd (h (sym e))
      go Greater e = absurd (differ (sym (ap is_gt e) ∙ g))
        where
          differ : true ≡ false → ⊥
          differ d = cc

  next_run : (x : List Cell) (rest : List (List Cell)) → AllByRecursion (λ r. row_cmp (key_of s x) (key_of s r) ≡ Less) rest → fold_of s (x ∷ rest) ≡ x ∷ fold_of s rest
  next_run x rest =
      as_merge (λ key all. AllByRecursion (λ r. row_cmp (key x) (key r) ≡ Less) rest → folded row_cmp key all (x ∷ rest) ≡ x ∷ folded row_cmp key all rest)
      (λ a. fold_head rows_total (rows_merge s.columns) rows_same x rest a)

  above : (x y : List Cell) (rest : List (List Cell)) → Ascends row_cmp (key_of s) (x ∷ y ∷ rest) → (Equal ≡ row_cmp (key_of s x) (key_of s y) → ⊥) → AllByRecursion (λ r. row_cmp (key_of s x) (key_of s r) ≡ Less) (y ∷ rest)
  above x y rest a h =
      let l = less x y a.0.0 h in
      (l, all_weaker _ _ (λ r f. below_from rows_total (key_of s x) (key_of s y) (key_of s r) l f) rest a.1.0)

  pub next_taken : (out more : List (List Cell)) (x y made : List Cell) → more ≡ out ++ x ∷ [] → made ≡ y → (Equal ≡ row_cmp (key_of s x) (key_of s y) → ⊥) → (rest : List (List Cell)) → Ascends row_cmp (key_of s) (x ∷ y ∷ rest)
      → more ++ fold_of s (made ∷ rest) ≡ out ++ fold_of s (x ∷ y ∷ rest)
  next_taken out more x y made m e h rest a =
      ap (λ l. l ++ fold_of s (made ∷ rest)) m ∙ append_assoc out (x ∷ []) (fold_of s (made ∷ rest)) ∙ ap (λ z. out ++ x ∷ fold_of s (z ∷ rest)) e
      ∙ ap (λ l. out ++ l) (sym (next_run x (y ∷ rest) (above x y rest a h)))

  -- the last row is done where no row is left
  pub runs_done : (out more : List (List Cell)) (made : List Cell) (keyed : List Keyed) (i : ℕ) → more ≡ out ++ made ∷ [] → length keyed ≤ i → out ++ fold_of s (made ∷ rows_of (drop i keyed)) ≡ fold_of s (rows_of keyed) → more ≡ fold_of s (rows_of keyed)
  unfolding folded
  runs_done out more made keyed i m h e = m ∙ sym (ap (λ l. out ++ fold_of s (made ∷ rows_of l)) (drop_of_length-le keyed h) ∙ ap (λ l. out ++ l) (next_run made [] tt)) ∙ e

filled : (keyed : List Keyed) → (length keyed == 0) ≡ true → 0 < length keyed → ⊥
filled keyed e h = grind (arith, nat_tests)

pub none_fold : (s : ShapeView) (keyed : List Keyed) → (length keyed == 0) ≡ true → [] ≡ fold_of s (rows_of keyed)
unfolding folded
none_fold s [] e = refl
none_fold s (k ∷ ks) e = absurd (filled (k ∷ ks) e (omega arith))

cut : (keyed : List Keyed) (i : ℕ) (d : Keyed) → i < length keyed → drop i keyed ≡ get_or keyed i d ∷ drop (i + 1) keyed
cut keyed i d h = rw add-one (drop-cons keyed i d h)

-- the rows from a place on
rows_cut : (keyed : List Keyed) (i : ℕ) (d : Keyed) → i < length keyed → rows_of (drop i keyed) ≡ (get_or keyed i d).row.now ∷ rows_of (drop (i + 1) keyed)
rows_cut keyed i d h = ap (λ (l : List Keyed). rows_of l) (cut keyed i d h)

pub rows_cut_at : (keyed : List Keyed) (i : ℕ) (k : Keyed) → i < length keyed → k ≡ get_or keyed i k → rows_of (drop i keyed) ≡ k.row.now ∷ rows_of (drop (i + 1) keyed)
rows_cut_at keyed i k h e = rows_cut keyed i k h ∙ ap (λ (x : Keyed). x.row.now ∷ rows_of (drop (i + 1) keyed)) (sym e)
