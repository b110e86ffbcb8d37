-- How an old cell and a newer one of the same key and column merge (Apache Doris documentation, "Aggregate Key Model").
use Rattle.std.specs.Prelude.{◌≡◌, ◌⊎◌, cond}
use Rattle.std.specs.Int.{int_wrapping_add}
use Rattle.std.specs.Ordering.{is_gt}
use mir.Syntax.{w64}
use Rattle.dl_values.specs.Order.{cell_cmp}
use Rattle.dl_values.specs.declared.agg_kind.AggKind.{AggKind}
use Rattle.dl_values.specs.declared.agg_kind.AggKind.TheVariants as kind
use Rattle.dl_values.specs.declared.cell.Cell.{Cell}
use Rattle.dl_values.specs.declared.cell.Cell.TheVariants as cell

-- a null counts for nothing
abbrev pub skip_null : (Cell → Cell → Cell) → Cell → Cell → Cell
skip_null f a cell.Null = a
skip_null f cell.Null b = b
skip_null f a b = f a b

-- the lesser of two cells
abbrev pub lesser : Cell → Cell → Cell
lesser a b = cond (is_gt (cell_cmp a b)) b a

-- the greater of two cells
abbrev pub greater : Cell → Cell → Cell
greater a b = cond (is_gt (cell_cmp a b)) a b

-- The sum modulo 2^64 of two integers. A SUM column has no other cells; that the laws may hold of all cells, an integer
-- outweighs another cell, and of two others the greater stands.
abbrev pub sum : Cell → Cell → Cell
sum (cell.Int x) (cell.Int y) = cell.Int (int_wrapping_add w64 x y)
sum (cell.Int x) _ = cell.Int x
sum _ (cell.Int y) = cell.Int y
sum a b = greater a b

-- the cell of an old one and a newer one
abbrev pub merged_cell : AggKind → Cell → Cell → Cell
merged_cell kind.Sum old new = skip_null sum old new
merged_cell kind.Min old new = skip_null lesser old new
merged_cell kind.Max old new = skip_null greater old new
merged_cell kind.Replace old new = new
merged_cell kind.ReplaceIfNotNull old new = skip_null (λ a b. b) old new

-- what a merge keeps: it is associative, an older null counts for nothing, and a newer one leaves the old cell or takes its place
pub record MergeLaws (op : Cell → Cell → Cell) : Type 0 where
  pub assoc : (a b c : Cell) → op (op a b) c ≡ op a (op b c)
  pub starts : (b : Cell) → op cell.Null b ≡ b
  pub null : ((a : Cell) → op a cell.Null ≡ a) ⊎ ((a : Cell) → op a cell.Null ≡ cell.Null)
