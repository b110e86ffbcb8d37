-- Where a layout puts a row: the partition whose range holds its partition cell, and the bucket that the texts of its distribution cells hash to (Apache Doris documentation, "Data Partitioning"; the hash is this project's own).
use Rattle.std.specs.Prelude.{◌≡◌, ℕ, ◌+◌, ◌*◌, ◌%◌, Bool, true, false, cond, not, ◌&&◌, List, [], ◌∷◌, Option, Some, None, map, length, nat_eq, is_some}
use Rattle.std.specs.List.{filter, flat_map, range_with_len, AllByRecursion}
use Rattle.std.specs.Ordering.{is_lt}
use Rattle.dl_values.specs.Order.{cell_cmp}
use Rattle.dl_values.specs.Write.{cell_text}
use Rattle.dl_values.specs.declared.cell.Cell.{Cell}
use Rattle.schema_models.specs.CellsByName.{cell_under}
use Rattle.partitions.specs.LayoutView.{LayoutView}
use Rattle.partitions.specs.declared.part_def.PartDef.{PartDef}
use Rattle.partitions.specs.declared.part_def.Bounds.{Bounds}
use Rattle.partitions.specs.declared.part_def.Bounds.TheVariants.{Less, Between}

-- null lies below every value
abbrev pub is_below : Cell → Cell → Bool
is_below a b = is_lt (cell_cmp a b)

-- a missing end is no bound
abbrev pub from_low : Option Cell → Cell → Bool
from_low None x = true
from_low (Some low) x = not (is_below x low)

abbrev pub to_high : Option Cell → Cell → Bool
to_high None x = true
to_high (Some high) x = is_below x high

abbrev pub low_end : Bounds → Option Cell
low_end (Less high) = None
low_end (Between low high) = low

abbrev pub high_end : Bounds → Option Cell
high_end (Less high) = high
high_end (Between low high) = high

abbrev pub in_range : Bounds → Cell → Bool
in_range b x = from_low (low_end b) x && to_high (high_end b) x

abbrev pub cell_in : Bounds → Option Cell → Bool
cell_in b None = false
cell_in b (Some x) = in_range b x

-- whether a partition holds a row: where there is no partition column it holds every row
abbrev pub holds_row : List (List ℕ) → Option (List ℕ) → List Cell → PartDef → Bool
holds_row names None row p = true
holds_row names (Some column) row p = cell_in p.bounds (cell_under names column row)

-- the number of the first partition that holds the row
abbrev pub next_part : Option ℕ → Option ℕ
next_part None = None
next_part (Some n) = Some (n + 1)

abbrev pub first_part : (PartDef → Bool) → List PartDef → Option ℕ
first_part test [] = None
first_part test (p ∷ ps) = cond (test p) (Some 0) (next_part (first_part test ps))

abbrev pub part_of : List (List ℕ) → LayoutView → List Cell → Option ℕ
part_of names l row = first_part (holds_row names l.column row) l.parts

-- `31 h + b` for each byte, modulo 2^32
abbrev pub hash_bytes : ℕ → List ℕ → ℕ
hash_bytes h [] = h
hash_bytes h (b ∷ bs) = hash_bytes ((31 * h + b) % 4294967296) bs

abbrev pub text_of : Option Cell → List ℕ
text_of None = []
text_of (Some x) = cell_text x

-- the hash of the distribution cells, in their order
abbrev pub hash_of : List (List ℕ) → List (List ℕ) → List Cell → ℕ
hash_of names hash row = hash_bytes 0 (flat_map (λ n. text_of (cell_under names n row)) hash)

abbrev pub bucket_of : List (List ℕ) → LayoutView → List Cell → ℕ
bucket_of names l row = hash_of names l.hash row % l.buckets

-- one tablet of an index
pub record Place : Type 0 where
  pub part : ℕ
  pub bucket : ℕ

abbrev pub placed : Option ℕ → ℕ → Option Place
placed None bucket = None
placed (Some part) bucket = Some (record { part = part; bucket = bucket })

-- the one place of a row whose cells stand under these names, or none where it is outside every partition
abbrev pub place_in : List (List ℕ) → LayoutView → List Cell → Option Place
place_in names l row = placed (part_of names l row) (bucket_of names l row)

-- the one place of a row of the layout's columns
abbrev pub place_for : LayoutView → List Cell → Option Place
place_for l row = place_in l.columns l row

-- whether it is that place
abbrev pub is_at : Place → Option Place → Bool
is_at w None = false
is_at w (Some v) = nat_eq v.part w.part && nat_eq v.bucket w.bucket

abbrev pub is_in : ℕ → Option Place → Bool
is_in part None = false
is_in part (Some v) = nat_eq v.part part

-- whether a row belongs to that tablet, or to that partition
abbrev pub lies_at : LayoutView → Place → List Cell → Bool
lies_at l w row = is_at w (place_for l row)

abbrev pub lies_in : LayoutView → ℕ → List Cell → Bool
lies_in l part row = is_in part (place_for l row)

-- the rows of one tablet, in their order
abbrev pub rows_at : LayoutView → Place → List (List Cell) → List (List Cell)
rows_at l w rows = filter (lies_at l w) rows

-- a row is inside the layout
abbrev pub is_inside : LayoutView → List Cell → Bool
is_inside l row = is_some (place_for l row)

abbrev pub IsInside : LayoutView → List Cell → Type 0
IsInside l row = is_inside l row ≡ true

abbrev pub AreInside : LayoutView → List (List Cell) → Type 0
AreInside l rows = AllByRecursion (IsInside l) rows

-- the buckets of a partition, and the tablets of an index, by partition and bucket
abbrev pub buckets_at : ℕ → ℕ → List Place
buckets_at buckets part = map (λ b. record { part = part; bucket = b }) (range_with_len 0 buckets)

abbrev pub tablets_of : LayoutView → List Place
tablets_of l = flat_map (buckets_at l.buckets) (range_with_len 0 (length l.parts))

-- rows tablet by tablet
abbrev pub spread : LayoutView → List (List Cell) → List (List Cell)
spread l rows = flat_map (λ w. rows_at l w rows) (tablets_of l)
