-- The fold of a Duplicate shape has the same rows in another order, and so a query answers the same over it.
use Rattle.std.proofs.Common.{◌≡◌, List, [], ◌∷◌, ◌++◌, refl, sym, ap, ◌∙◌}
use Rattle.std.proofs.lemmas.List.{append_assoc}
use Rattle.std.specs.Ordering.{match_ordering}
use Rattle.std.specs.declared.cmp.Ordering.{Ordering}
use Rattle.std.specs.declared.cmp.Ordering.TheVariants.{Less, Equal, Greater}
use Rattle.dl_values.specs.Order.{row_cmp}
use Rattle.dl_values.specs.declared.cell.Cell.{Cell}
use Rattle.fold_laws.specs.Fold.{put_by}
use Rattle.schema_models.specs.Folds.{fold_of}
use Rattle.schema_models.specs.ShapeView.{ShapeView}
use Rattle.schema_models.specs.declared.column_def.ColumnDef.{ColumnDef}
use Rattle.schema_models.specs.declared.model.Model.{Model}
use Rattle.schema_models.specs.declared.model.Model.TheVariants as model
use Rattle.sql_text.specs.declared.query.Query.{Query}
use Rattle.select_defs.specs.Eval.{Eval}
use Rattle.select_defs.proofs.Exchanges.{exchanges}
use Rattle.select_defs.proofs.FoldCounts.{fold_in, grows_in, none_in}

-- what does not change where neighbours change places
module _ {A : Type 0} (made : List (List Cell) → A) (cs : List ColumnDef)
    (near : (front back : List (List Cell)) (a b : List Cell) → made (front ++ a ∷ b ∷ back) ≡ made (front ++ b ∷ a ∷ back)) where
  abbrev placed : List Cell → List (List Cell) → List (List Cell)
  placed x zs = put_by row_cmp (λ r. r) (λ a b. a ∷ b ∷ []) x zs

  one_on : (front : List (List Cell)) (z : List Cell) (l : List (List Cell)) → (front ++ z ∷ []) ++ l ≡ front ++ z ∷ l
  one_on front z l = append_assoc front (z ∷ []) l

  placed_same : (front : List (List Cell)) (x : List Cell) (zs : List (List Cell)) → made (front ++ placed x zs) ≡ made (front ++ x ∷ zs)
  placed_same front x [] = refl
  placed_same front x (z ∷ zs) = go (placed_same (front ++ z ∷ []) x zs) (row_cmp x z)
    where
      go : made ((front ++ z ∷ []) ++ placed x zs) ≡ made ((front ++ z ∷ []) ++ x ∷ zs) → (c : Ordering) → made (front ++ match_ordering c (x ∷ z ∷ zs) (x ∷ z ∷ zs) (z ∷ placed x zs)) ≡ made (front ++ x ∷ z ∷ zs)
      go rest Less = refl
      go rest Equal = refl
      go rest Greater = ap made (sym (one_on front z (placed x zs))) ∙ rest ∙ ap made (one_on front z (x ∷ zs)) ∙ near front zs z x

  sorted_same : (front rows : List (List Cell)) → made (front ++ fold_in model.Duplicate cs rows) ≡ made (front ++ rows)
  sorted_same front [] = ap (λ l. made (front ++ l)) (none_in model.Duplicate cs)
  sorted_same front (x ∷ xs) =
      ap (λ l. made (front ++ l)) (grows_in model.Duplicate cs x xs) ∙ placed_same front x (fold_in model.Duplicate cs xs)
      ∙ ap made (sym (one_on front x (fold_in model.Duplicate cs xs))) ∙ sorted_same (front ++ x ∷ []) xs ∙ ap made (one_on front x xs)

  kept_in : (m : Model) → m ≡ model.Duplicate → (rows : List (List Cell)) → made (fold_in m cs rows) ≡ made rows
  kept_in model.Duplicate e rows = sorted_same [] rows
  kept_in model.Unique e rows = cc
  kept_in model.Aggregate e rows = cc

pub kept_eval : (base s : ShapeView) (q : Query) → s.model ≡ model.Duplicate → (rows : List (List Cell)) → Eval base s q (fold_of s rows) ≡ Eval base s q rows
kept_eval base s q e rows = kept_in (Eval base s q) s.columns (exchanges base s q) s.model e rows
