-- The fold by its distinct keys.
use Rattle.std.proofs.Common.{◌≡◌, ℕ, ◌≤◌, List, ◌++◌, length, drop, sym, ap, ◌∙◌, append-nil}
use Rattle.std.proofs.Math.ListN.{drop_of_length-le}
use Rattle.std.specs.List.{filter, flat_map}
use Rattle.dl_values.specs.Order.{row_cmp}
use Rattle.dl_values.specs.declared.cell.Cell.{Cell}
use Rattle.fold_laws.specs.Fold.{distinct, folded, has_key}
use Rattle.schema_models.specs.Folds.{key_of, gathered, fold_of}
use Rattle.schema_models.specs.ShapeView.{ShapeView}

-- where no key is left, what was made is the fold
pub all_keys_done : (s : ShapeView) (rows out : List (List Cell)) (keys : List (List Cell)) (i : ℕ) → length keys ≤ i
    → out ++ flat_map (λ k. gathered s (filter (has_key row_cmp (key_of s) k) rows)) (drop i keys) ≡ flat_map (λ k. gathered s (filter (has_key row_cmp (key_of s) k) rows)) (distinct row_cmp (key_of s) rows)
    → out ≡ fold_of s rows
unfolding folded
all_keys_done s rows out keys i h e = sym (append-nil out) ∙ ap (λ l. out ++ flat_map (λ k. gathered s (filter (has_key row_cmp (key_of s) k) rows)) l) (sym (drop_of_length-le keys h)) ∙ e
