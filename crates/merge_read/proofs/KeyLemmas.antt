-- Comparing the first cells of two rows, cell by cell.
use Rattle.std.proofs.Common.{◌≡◌, ℕ, zero, suc, ◌+◌, ◌<◌, ◌≤◌, ◌∙◌, List, [], ◌∷◌, length, min, take, drop, get_or, Bool, true, false, nat_lt, refl, ap₂, sym, arith, length-drop, length-take}
use Rattle.std.proofs.lemmas.List.{drop_more, get_or-take}
use Rattle.std.proofs.lemmas.Bool.Decides.{nat_tests}
use Rattle.std.specs.Ordering.{nat_cmp, ordering_reverse, ordering_then}
use Rattle.std.specs.declared.cmp.Ordering.{Ordering}
use Rattle.std.specs.declared.cmp.Ordering.TheVariants.{Less, Equal, Greater}
use Rattle.dl_values.specs.Order.{cell_cmp, row_cmp}
use Rattle.dl_values.specs.OrderLemmas.{rows_total}
use Rattle.dl_values.specs.declared.cell.Cell.{Cell}
use Rattle.dl_values.specs.declared.cell.Cell.TheVariants as cell
use Rattle.row_fold.proofs.Below.{below_taken}
use Rattle.row_fold.specs.Prefix.{row_prefix}
use Rattle.schema_models.specs.Folds.{key_in, key_of}
use Rattle.schema_models.specs.ShapeView.{ShapeView, key_count}
use Rattle.schema_models.specs.declared.model.Model.{Model}
use Rattle.schema_models.specs.declared.model.Model.TheVariants as model
use Rattle.merge_read.specs.Keys.{key_width, width_in}

-- the rows from a place on: the cells there decide, and else those behind them
from_place : (xs ys : List Cell) (i : ℕ) (x y : Cell) → i < length xs → i < length ys → x ≡ get_or xs i cell.Null → y ≡ get_or ys i cell.Null
    → row_cmp (drop i xs) (drop i ys) ≡ ordering_then (cell_cmp x y) (row_cmp (drop (i + 1) xs) (drop (i + 1) ys))
from_place xs ys i x y l m e f =
    ap₂ (λ (a b : List Cell). row_cmp a b) (drop_more xs i cell.Null l) (drop_more ys i cell.Null m)
    ∙ ap₂ (λ (a b : Cell). ordering_then (cell_cmp a b) (row_cmp (drop (i + 1) xs) (drop (i + 1) ys))) (sym e) (sym f)

in_width : (w i : ℕ) (row : List Cell) → i < min w (length row) → i < length (take w row)
in_width w i row l = simp length-take (omega (arith, l))

of_width : (w i : ℕ) (row : List Cell) (x : Cell) → i < min w (length row) → x ≡ get_or row i cell.Null → x ≡ get_or (take w row) i cell.Null
of_width w i row x l e = e ∙ sym (get_or-take w row i cell.Null (omega (arith, l)))

pub keys_from : (a b : List Cell) (v w i : ℕ) (x y : Cell) → i < min v (length a) → i < min w (length b) → x ≡ get_or a i cell.Null → y ≡ get_or b i cell.Null
    → row_cmp (drop i (take v a)) (drop i (take w b)) ≡ ordering_then (cell_cmp x y) (row_cmp (drop (i + 1) (take v a)) (drop (i + 1) (take w b)))
keys_from a b v w i x y l m e f = from_place (take v a) (take w b) i x y (in_width v i a l) (in_width w i b m) (of_width v i a x l e) (of_width w i b y m f)

pub decided : (o rest : Ordering) → (Equal ≡ o → ⊥) → o ≡ ordering_then o rest
decided Less rest n = refl
decided Equal rest n = absurd (n refl)
decided Greater rest n = refl

ended : (xs ys : List Cell) → min (length xs) (length ys) ≡ 0 → row_cmp xs ys ≡ nat_cmp (length xs) (length ys)
ended [] [] h = refl
ended [] (y ∷ ys) h = grind (arith, nat_tests)
ended (x ∷ xs) [] h = grind (arith, nat_tests)
ended (x ∷ xs) (y ∷ ys) h = absurd (omega arith)

-- where the shorter row has ended after n cells, the lengths decide
pub ended_after : (xs ys : List Cell) (n : ℕ) → min (length xs) (length ys) ≤ n → n ≤ min (length xs) (length ys) → row_cmp (drop n xs) (drop n ys) ≡ nat_cmp (length xs) (length ys)
ended_after xs ys n le ge = ended (drop n xs) (drop n ys) (simp length-drop (omega arith)) ∙ simp length-drop (grind (arith, nat_tests))

-- ---- numbers of keys

pub number_taken : (w : ℕ) (xs : List Cell) → 0 < w → row_prefix (take w xs) ≡ row_prefix xs
number_taken zero xs h = absurd (omega arith)
number_taken (suc w) [] h = refl
number_taken (suc w) (x ∷ xs) h = refl

less_differs : (o : Ordering) → o ≡ Less → o ≡ Equal → ⊥
less_differs Less e f = cc
less_differs Equal e f = cc
less_differs Greater e f = cc

greater_differs : (o : Ordering) → ordering_reverse o ≡ Less → o ≡ Equal → ⊥
greater_differs Less e f = cc
greater_differs Equal e f = cc
greater_differs Greater e f = cc

-- keys of different numbers differ
pub other_key : (v w : ℕ) (xs ys : List Cell) (p q : ℕ) → 0 < v → 0 < w → p ≡ row_prefix (take v xs) → q ≡ row_prefix ys → (p ≡ q → ⊥) → row_cmp (take v xs) (take w ys) ≡ Equal → ⊥
other_key v w xs ys p q lv lw e f n = go (nat_lt p q) refl
  where
    is : p ≡ row_prefix xs
    is = e ∙ number_taken v xs lv

    below : (a b : ℕ) → nat_lt a b ≡ true → a < b
    below a b t = grind (arith, nat_tests)

    above : (a b : ℕ) → nat_lt a b ≡ false → (a ≡ b → ⊥) → b < a
    above a b t d = let k : (b < a → ⊥) → ⊥ = λ l. d (grind (arith, nat_tests)) in grind (arith, nat_tests)

    go : (b : Bool) → nat_lt p q ≡ b → row_cmp (take v xs) (take w ys) ≡ Equal → ⊥
    go true t =
        let l : p < q = below p q t in
        less_differs _ (below_taken v w xs ys lv lw (omega (arith, l, is, f)))
    go false t =
        let l : q < p = above p q t n in
        greater_differs _ (sym (rows_total.antisymm (take w ys) (take v xs)) ∙ below_taken w v ys xs lw lv (omega (arith, l, is, f)))

taken_in : (m : Model) (keys columns : ℕ) (row : List Cell) → (m ≡ model.Duplicate → ⊥) → key_in m keys row ≡ take (width_in m keys columns) row
taken_in model.Duplicate keys columns row n = absurd (n refl)
taken_in model.Unique keys columns row n = refl
taken_in model.Aggregate keys columns row n = refl

-- where rows merge, a key has the first cells of its row
pub key_taken : (s : ShapeView) (row : List Cell) → (s.model ≡ model.Duplicate → ⊥) → key_of s row ≡ take (key_width s) row
key_taken s row n = taken_in s.model (key_count s.columns) (length s.columns) row n
