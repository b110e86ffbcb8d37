-- Merging a row into the cells of an old one, in their place.
use Rattle.std.proofs.Common.{◌≡◌, ℕ, zero, suc, ◌≤◌, List, [], ◌∷◌, ◌++◌, length, min, take, drop, refl, sym, ap, ◌∙◌, arith}
use Rattle.std.proofs.Math.ListN.{drop_of_length-le}
use Rattle.std.proofs.lemmas.List.{append-nil, take_all}
use Rattle.dl_values.specs.declared.cell.Cell.{Cell}
use Rattle.schema_models.specs.Folds.{merged_by_role, merged_row}
use Rattle.schema_models.specs.declared.column_def.ColumnDef.{ColumnDef}

-- cells beyond the columns and the newer row count for nothing
pub merged_cut : (cs : List ColumnDef) (xs ys : List Cell) (n : ℕ) → min (length cs) (length ys) ≤ n → merged_row cs (take n xs) ys ≡ merged_row cs xs ys
merged_cut [] xs ys n h = refl
merged_cut (c ∷ cs) [] ys zero h = refl
merged_cut (c ∷ cs) [] ys (suc n) h = refl
merged_cut (c ∷ cs) (x ∷ xs) [] zero h = refl
merged_cut (c ∷ cs) (x ∷ xs) [] (suc n) h = refl
merged_cut (c ∷ cs) (x ∷ xs) (y ∷ ys) zero h = absurd (omega arith)
merged_cut (c ∷ cs) (x ∷ xs) (y ∷ ys) (suc n) h = ap (λ l. merged_by_role c.role x y ∷ l) (merged_cut cs xs ys n (omega arith))

merged_none : (cs : List ColumnDef) (ys : List Cell) → merged_row cs [] ys ≡ []
merged_none [] ys = refl
merged_none (c ∷ cs) ys = refl

-- where each cell has been merged
pub merged_done : (cs : List ColumnDef) (made ys all : List Cell) (i : ℕ) → length made ≤ i → take i made ++ merged_row (drop i cs) (drop i made) (drop i ys) ≡ all → made ≡ all
merged_done cs made ys all i h e =
    sym (append-nil made) ∙ sym (ap (λ l. take i made ++ merged_row (drop i cs) l (drop i ys)) (drop_of_length-le made h) ∙ ap (λ l. take i made ++ l) (merged_none (drop i cs) (drop i ys)) ∙ ap (λ l. l ++ []) (take_all i made h)) ∙ e
