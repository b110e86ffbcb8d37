-- Merging a row into cells, in their place.
use Rattle.std.proofs.Common.{◌≡◌, ℕ, zero, suc, ◌<◌, ◌≤◌, ◌∙◌, List, [], ◌∷◌, ◌++◌, length, take, drop, set, get_or, refl, ap, sym, arith}
use Rattle.std.proofs.lemmas.List.{append-nil, drop_all, take_all}
use Rattle.dl_values.specs.declared.cell.Cell.{Cell}
use Rattle.dl_values.specs.declared.cell.Cell.TheVariants as cell
use Rattle.merge_read.specs.Merged.{cell_of, row_of}
use Rattle.merge_read.specs.declared.merged_cell.MergedCell.{MergedCell}
use Rattle.schema_models.specs.Folds.{merged_by_role, merged_row}
use Rattle.schema_models.specs.declared.column_def.ColumnDef.{ColumnDef}

-- the merged row, where the first cells are merged
abbrev pub half : ℕ → List ColumnDef → List MergedCell → List Cell → List Cell
half i cs xs ys = row_of (take i xs) ++ merged_row (drop i cs) (row_of (drop i xs)) (drop i ys)

pub one_merged : (i : ℕ) (cs : List ColumnDef) (xs : List MergedCell) (ys : List Cell) (c : ColumnDef) (x z : MergedCell) → i < length xs → length xs ≡ length cs → length ys ≡ length cs
    → cell_of z ≡ merged_by_role (get_or cs i c).role (cell_of (get_or xs i x)) (get_or ys i cell.Null) → half (suc i) cs (set xs i z) ys ≡ half i cs xs ys
one_merged i cs [] ys c x z l m n e = absurd (omega arith)
one_merged i [] (w ∷ xs) ys c x z l m n e = absurd (omega arith)
one_merged i (d ∷ cs) (w ∷ xs) [] c x z l m n e = absurd (omega arith)
one_merged zero (d ∷ cs) (w ∷ xs) (y ∷ ys) c x z l m n e = ap (λ (v : Cell). v ∷ merged_row cs (row_of xs) ys) e
one_merged (suc i) (d ∷ cs) (w ∷ xs) (y ∷ ys) c x z l m n e = ap (λ (r : List Cell). cell_of w ∷ r) (one_merged i cs xs ys c x z (omega arith) (omega arith) (omega arith) e)

merged_none : (xs ys : List Cell) (cs : List ColumnDef) → cs ≡ [] → merged_row cs xs ys ≡ []
merged_none xs ys [] e = refl
merged_none xs ys (c ∷ cs) e = cc

pub all_merged : (i : ℕ) (cs : List ColumnDef) (xs : List MergedCell) (ys all : List Cell) → length xs ≤ i → length xs ≡ length cs → half i cs xs ys ≡ all → row_of xs ≡ all
all_merged i cs xs ys all l m e =
    sym (append-nil (row_of xs))
    ∙ sym (ap (λ (r : List Cell). row_of (take i xs) ++ r) (merged_none (row_of (drop i xs)) (drop i ys) (drop i cs) (drop_all i cs (omega (arith, l, m)))) ∙ ap (λ (r : List MergedCell). row_of r ++ []) (take_all i xs l))
    ∙ e
