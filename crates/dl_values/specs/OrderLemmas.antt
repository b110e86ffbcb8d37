-- The order of cells and rows is total, and only the same ties, as terms that the law of an impl can cite.
use Rattle.std.proofs.Common.{◌≡◌, ℕ, ℤ, pos, List, [], refl, sym, ap, ◌∙◌}
use Rattle.std.specs.Cmp.{IsTotalOrder}
use Rattle.std.specs.Cmp.Lexicographic.{slice_cmp}
use Rattle.std.specs.FinMap.{IsAntisymmetric, int_cmp-IsAntisymmetric, nat_cmp-IsAntisymmetric, slice_cmp-IsAntisymmetric}
use Rattle.std.specs.Ordering.{int_cmp, nat_cmp, on, then_cmp, ordering_then, ordering_reverse}
use Rattle.std.specs.declared.cmp.Ordering.{Ordering}
use Rattle.std.specs.declared.cmp.Ordering.TheVariants.{Less, Equal, Greater}
use Rattle.std.proofs.lemmas.Cmp.{int_cmp_total, nat_cmp_total, nat_list_cmp_total, on_total, then_total, lists_total}
use Rattle.dl_values.specs.Order.{cell_cmp, row_cmp}
use Rattle.dl_values.specs.declared.cell.Cell.{Cell}
use Rattle.dl_values.specs.declared.cell.Cell.TheVariants as cell

-- the place of a cell's kind, its number and its text
place : Cell → ℕ
place cell.Null = 0
place (cell.Int x) = 1
place (cell.Day x) = 2
place (cell.Text x) = 3

number : Cell → ℤ
number (cell.Int x) = x
number _ = pos 0

day : Cell → ℕ
day (cell.Day x) = x
day _ = 0

text : Cell → List ℕ
text (cell.Text x) = x
text _ = []

by_parts : Cell → Cell → Ordering
by_parts = then_cmp (on place nat_cmp) (then_cmp (on number int_cmp) (then_cmp (on day nat_cmp) (on text (slice_cmp nat_cmp))))

then_equal : (o : Ordering) → o ≡ ordering_then o Equal
then_equal Less = refl
then_equal Equal = refl
then_equal Greater = refl

is_by_parts : (a b : Cell) → cell_cmp a b ≡ by_parts a b
unfolding by_parts place number day text
is_by_parts cell.Null cell.Null = refl
is_by_parts cell.Null (cell.Int y) = refl
is_by_parts cell.Null (cell.Day y) = refl
is_by_parts cell.Null (cell.Text y) = refl
is_by_parts (cell.Int x) cell.Null = refl
is_by_parts (cell.Int x) (cell.Int y) = then_equal (int_cmp x y)
is_by_parts (cell.Int x) (cell.Day y) = refl
is_by_parts (cell.Int x) (cell.Text y) = refl
is_by_parts (cell.Day x) cell.Null = refl
is_by_parts (cell.Day x) (cell.Int y) = refl
is_by_parts (cell.Day x) (cell.Day y) = then_equal (nat_cmp x y)
is_by_parts (cell.Day x) (cell.Text y) = refl
is_by_parts (cell.Text x) cell.Null = refl
is_by_parts (cell.Text x) (cell.Int y) = refl
is_by_parts (cell.Text x) (cell.Day y) = refl
is_by_parts (cell.Text x) (cell.Text y) = refl

parts_total : IsTotalOrder by_parts
unfolding by_parts
parts_total = then_total (on_total place nat_cmp_total) (then_total (on_total number int_cmp_total) (then_total (on_total day nat_cmp_total) (on_total text nat_list_cmp_total)))

pub cells_total : IsTotalOrder cell_cmp
cells_total = record {
  antisymm = λ x y. is_by_parts x y ∙ parts_total.antisymm x y ∙ ap ordering_reverse (sym (is_by_parts y x));
  trans = λ x y z a b. is_by_parts x z ∙ parts_total.trans x y z (sym (is_by_parts x y) ∙ a) (sym (is_by_parts y z) ∙ b);
  congr = λ x y z a. is_by_parts x z ∙ parts_total.congr x y z (sym (is_by_parts x y) ∙ a) ∙ sym (is_by_parts y z);
}

pub cells_same : IsAntisymmetric cell_cmp
cells_same cell.Null cell.Null e = refl
cells_same cell.Null (cell.Int y) e = cc
cells_same cell.Null (cell.Day y) e = cc
cells_same cell.Null (cell.Text y) e = cc
cells_same (cell.Int x) cell.Null e = cc
cells_same (cell.Int x) (cell.Int y) e = ap cell.Int (int_cmp-IsAntisymmetric x y e)
cells_same (cell.Int x) (cell.Day y) e = cc
cells_same (cell.Int x) (cell.Text y) e = cc
cells_same (cell.Day x) cell.Null e = cc
cells_same (cell.Day x) (cell.Int y) e = cc
cells_same (cell.Day x) (cell.Day y) e = ap cell.Day (nat_cmp-IsAntisymmetric x y e)
cells_same (cell.Day x) (cell.Text y) e = cc
cells_same (cell.Text x) cell.Null e = cc
cells_same (cell.Text x) (cell.Int y) e = cc
cells_same (cell.Text x) (cell.Day y) e = cc
cells_same (cell.Text x) (cell.Text y) e = ap cell.Text (slice_cmp-IsAntisymmetric nat_cmp-IsAntisymmetric x y e)

pub rows_total : IsTotalOrder row_cmp
rows_total = lists_total cells_total

pub rows_same : IsAntisymmetric row_cmp
rows_same = slice_cmp-IsAntisymmetric cells_same
