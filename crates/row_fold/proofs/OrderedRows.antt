-- Rows that stand in the order of a fold.
use Rattle.std.proofs.Common.{◌≡◌, ℕ, zero, ◌+◌, ◌-◌, ◌<◌, ◌≤◌, List, [], ◌∷◌, true, false, length, get_or, drop, suc, refl, sym, ap, ◌∙◌, subst, arith, add-one}
use Rattle.std.proofs.Math.Seq.{drop-cons}
use Rattle.std.specs.Ordering.{is_gt}
use Rattle.std.specs.declared.cmp.Ordering.{Ordering}
use Rattle.std.specs.declared.cmp.Ordering.TheVariants.{Less, Equal, Greater}
use Rattle.dl_values.specs.OrderLemmas.{rows_total, rows_same}
use Rattle.dl_values.specs.Order.{row_cmp}
use Rattle.dl_values.specs.declared.cell.Cell.{Cell}
use Rattle.fold_laws.proofs.Folds.{fold_fixed}
use Rattle.fold_laws.proofs.Merges.{fold_of_rising}
use Rattle.fold_laws.proofs.Streams.{gathers_all}
use Rattle.fold_laws.proofs.Unique.{all_weaker, from_from}
use Rattle.fold_laws.specs.Fold.{Ascends, Rises, folded}
use Rattle.row_fold.specs.Follows.{follows, may_follow}
use Rattle.schema_models.proofs.RowMerges.{rows_merge}
use Rattle.schema_models.specs.Folds.{fold_of, gathered_in, key_in, key_of}
use Rattle.schema_models.specs.ShapeView.{ShapeView, key_count}
use Rattle.schema_models.specs.declared.column_def.ColumnDef.{ColumnDef}
use Rattle.schema_models.specs.declared.model.Model.{Model}
use Rattle.schema_models.specs.declared.model.Model.TheVariants as model

-- in the order of a fold
abbrev pub InOrder : Model → (List Cell → List Cell) → List (List Cell) → Type 0
InOrder model.Duplicate key rows = Ascends row_cmp key rows
InOrder model.Unique key rows = Rises row_cmp key rows
InOrder model.Aggregate key rows = Rises row_cmp key rows

single : (m : Model) (key : List Cell → List Cell) (x : List Cell) → InOrder m key (x ∷ [])
single model.Duplicate key x = (tt, tt)
single model.Unique key x = (tt, tt)
single model.Aggregate key x = (tt, tt)

none : (m : Model) (key : List Cell → List Cell) → InOrder m key []
none model.Duplicate key = tt
none model.Unique key = tt
none model.Aggregate key = tt

not_above : (c : Ordering) → may_follow model.Duplicate c ≡ true → is_gt c ≡ false
not_above Less e = refl
not_above Equal e = refl
not_above Greater e = cc

is_below : (c : Ordering) → may_follow model.Unique c ≡ true → c ≡ Less
is_below Less e = refl
is_below Equal e = cc
is_below Greater e = cc

rise : (key : List Cell → List Cell) (x y : List Cell) (rest : List (List Cell)) → row_cmp (key x) (key y) ≡ Less → Rises row_cmp key (y ∷ rest) → Rises row_cmp key (x ∷ y ∷ rest)
rise key x y rest l r = ((l, all_weaker _ _ (λ z f. rows_total.trans (key x) (key y) (key z) l f) rest r.0), r)

one_more : (m : Model) (key : List Cell → List Cell) (x y : List Cell) (rest : List (List Cell)) → may_follow m (row_cmp (key x) (key y)) ≡ true → InOrder m key (y ∷ rest) → InOrder m key (x ∷ y ∷ rest)
one_more model.Duplicate key x y rest e a =
    let g = not_above (row_cmp (key x) (key y)) e in
    ((g, all_weaker _ _ (λ z f. from_from rows_total (key x) (key y) (key z) g f) rest a.0), a)
one_more model.Unique key x y rest e a = rise key x y rest (is_below (row_cmp (key x) (key y)) e) a
one_more model.Aggregate key x y rest e a = rise key x y rest (is_below (row_cmp (key x) (key y)) e) a

cut : (rows : List (List Cell)) (i : ℕ) (x : List Cell) → i < length rows → x ≡ get_or rows i [] → drop i rows ≡ x ∷ drop (i + 1) rows
cut rows i x h e = rw add-one (drop-cons rows i [] h ∙ ap (λ y. y ∷ drop (suc i) rows) (sym e))

-- from the last row on
pub in_order_last : (s : ShapeView) (rows : List (List Cell)) (i : ℕ) → length rows ≤ i + 1 → InOrder s.model (key_of s) (drop i rows)
in_order_last s [] zero h = none s.model (key_of s)
in_order_last s [] (suc i) h = none s.model (key_of s)
in_order_last s (x ∷ []) zero h = single s.model (key_of s) x
in_order_last s (x ∷ y ∷ rest) zero h = absurd (omega arith)
in_order_last s (x ∷ xs) (suc i) h = in_order_last s xs i (omega arith)

-- a row more at the front
pub in_order_step : (s : ShapeView) (rows : List (List Cell)) (i : ℕ) (x y : List Cell) → 0 < i → i < length rows → x ≡ get_or rows (i - 1) [] → y ≡ get_or rows i [] → follows s x y ≡ true
    → InOrder s.model (key_of s) (drop i rows) → InOrder s.model (key_of s) (drop (i - 1) rows)
in_order_step s rows i x y p h d e f o =
    let back : drop i rows ≡ y ∷ drop (i + 1) rows = cut rows i y h e in
    let same : drop ((i - 1) + 1) rows ≡ y ∷ drop (i + 1) rows = ap (λ n. drop n rows) (omega arith) ∙ back in
    let all : drop (i - 1) rows ≡ x ∷ y ∷ drop (i + 1) rows = cut rows (i - 1) x (omega arith) d ∙ ap (λ l. x ∷ l) same in
    subst (λ l. InOrder s.model (key_of s) l) (sym all) (one_more s.model (key_of s) x y (drop (i + 1) rows) f (subst (λ l. InOrder s.model (key_of s) l) back o))

fixed_in : (m : Model) (n : ℕ) (cs : List ColumnDef) (rows : List (List Cell)) → n ≡ key_count cs → InOrder m (key_in m n) rows → folded row_cmp (key_in m n) (gathered_in m cs) rows ≡ rows
fixed_in model.Duplicate n cs rows e a = fold_fixed rows_total (λ r. r) rows_same (gathers_all rows_total (λ r. r)) rows a (λ k. refl)
fixed_in model.Unique n cs rows e a = subst (λ k. Rises row_cmp (λ r. key_in model.Unique k r) rows → folded row_cmp (key_in model.Unique k) (gathered_in model.Unique cs) rows ≡ rows) (sym e) (λ r. fold_of_rising rows_total (rows_merge cs) rows_same rows r) a
fixed_in model.Aggregate n cs rows e a = subst (λ k. Rises row_cmp (λ r. key_in model.Aggregate k r) rows → folded row_cmp (key_in model.Aggregate k) (gathered_in model.Aggregate cs) rows ≡ rows) (sym e) (λ r. fold_of_rising rows_total (rows_merge cs) rows_same rows r) a

-- rows in the order of a fold are their own fold
pub in_order_is_folded : (s : ShapeView) (rows : List (List Cell)) → InOrder s.model (key_of s) rows → fold_of s rows ≡ rows
in_order_is_folded s rows o = fixed_in s.model (key_count s.columns) s.columns rows refl o
