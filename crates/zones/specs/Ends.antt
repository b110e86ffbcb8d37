-- The least and the greatest of cells, and the tests that a cell between them may pass (this project's own).
use Rattle.std.specs.Prelude.{◌≡◌, Bool, false, cond, not, ◌&&◌, ◌||◌, List, [], ◌∷◌}
use Rattle.std.specs.List.{AllByRecursion, fold}
use Rattle.std.specs.Ordering.{is_eq, is_gt, is_lt}
use Rattle.std.specs.declared.cmp.Ordering.{Ordering}
use Rattle.dl_values.specs.Order.{cell_cmp}
use Rattle.dl_values.specs.declared.cell.Cell.{Cell}
use Rattle.dl_values.specs.declared.cell.Cell.TheVariants as cell
use Rattle.zones.specs.Tests.{is_null}
use Rattle.zones.specs.declared.test.Op.{Op}
use Rattle.zones.specs.declared.test.Op.TheVariants as op

pub record EndsView : Type 0 where
  pub least : Cell
  pub greatest : Cell

abbrev pub lower : Cell → Cell → Cell
lower a x = cond (is_lt (cell_cmp x a)) x a

abbrev pub higher : Cell → Cell → Cell
higher a x = cond (is_gt (cell_cmp x a)) x a

abbrev pub first_or : List Cell → Cell → Cell
first_or [] other = other
first_or (x ∷ xs) other = x

abbrev pub least_of : List Cell → Cell → Cell
least_of cells other = fold lower (first_or cells other) cells

abbrev pub greatest_of : List Cell → Cell → Cell
greatest_of cells other = fold higher (first_or cells other) cells

-- of no cells both are null
abbrev pub ends_of : List Cell → EndsView
ends_of cells = record { least = least_of cells cell.Null; greatest = greatest_of cells cell.Null }

-- no cell is below the least, and none above the greatest
abbrev pub Holds : EndsView → Cell → Type 0
Holds e x = (is_gt (cell_cmp e.least x) ≡ false) × (is_lt (cell_cmp e.greatest x) ≡ false)

abbrev pub AreEnds : EndsView → List Cell → Type 0
AreEnds e cells = AllByRecursion (Holds e) cells

-- by how the least and the greatest stand to the literal
abbrev pub between : Op → Ordering → Ordering → Bool
between op.Eq a b = not (is_gt a) && not (is_lt b)
between op.Ne a b = not (is_eq a) || not (is_eq b)
between op.Lt a b = is_lt a
between op.Le a b = not (is_gt a)
between op.Gt a b = is_gt b
between op.Ge a b = not (is_lt b)
between _ a b = false

abbrev pub compares_between : Op → Cell → EndsView → Bool
compares_between o l e = not (is_null l) && (not (is_null e.greatest) && between o (cell_cmp e.least l) (cell_cmp e.greatest l))

-- whether a cell between the ends may pass
abbrev pub may_match : Op → Cell → EndsView → Bool
may_match op.IsNull l e = is_null e.least
may_match op.IsNotNull l e = not (is_null e.greatest)
may_match o l e = compares_between o l e
