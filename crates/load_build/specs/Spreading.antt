-- The rows of a load by partition and bucket.
use Rattle.std.specs.Prelude.{ℕ, cond, List, [], map, length}
use Rattle.std.specs.List.{list_any, range_with_len}
use Rattle.dl_values.specs.declared.cell.Cell.{Cell}
use Rattle.partitions.specs.LayoutView.{LayoutView}
use Rattle.partitions.specs.Places.{lies_in, rows_at}
use Rattle.load_build.specs.PartLists.{PartLists}

-- the rows of one bucket
abbrev pub rows_in : LayoutView → List (List Cell) → ℕ → ℕ → List (List Cell)
rows_in l rows part bucket = rows_at l (record { part = part; bucket = bucket }) rows

-- the rows of each bucket, where the partition got one
abbrev pub lists_at : LayoutView → List (List Cell) → ℕ → List (List (List Cell))
lists_at l rows part = cond (list_any (lies_in l part) rows) (map (rows_in l rows part) (range_with_len 0 l.buckets)) []

abbrev pub part_at : LayoutView → List (List Cell) → ℕ → PartLists
part_at l rows part = record { part = part; lists = lists_at l rows part }

abbrev pub spread_rows : LayoutView → List (List Cell) → List PartLists
spread_rows l rows = map (part_at l rows) (range_with_len 0 (length l.parts))
