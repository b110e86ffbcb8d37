-- The folds of rows that stand by partition and bucket.
use Rattle.std.specs.Prelude.{◌≡◌, ℕ, ◌+◌, List, [], ◌∷◌, map}
use Rattle.std.specs.List.{AllByRecursion, flat_map}
use Rattle.dl_values.specs.declared.cell.Cell.{Cell}
use Rattle.rowsets.specs.RowsetView.{IsMadeFor, IsRowsetOf}
use Rattle.schema_models.specs.Folds.{fold_of}
use Rattle.schema_models.specs.ShapeView.{ShapeView}
use Rattle.shadow_writes.specs.declared.built.TabletRows.{TabletRows}
use Rattle.front_defs.specs.May.{seen_set}
use Rattle.front_defs.specs.Stored.{PlacedRows}
use Rattle.load_build.specs.PartLists.{PartLists}

-- the fold of rows, in their tablet
pub record IsFold (s : ShapeView) (part bucket : ℕ) (rows : List (List Cell)) (t : TabletRows) : Type 0 where
  pub part_is : t.part ≡ part
  pub bucket_is : t.bucket ≡ bucket
  pub built : IsRowsetOf s rows t.rows.value

-- the folds of the lists of a partition, whose buckets begin with this one
abbrev pub folds_from : ShapeView → ℕ → ℕ → List (List (List Cell)) → List PlacedRows
folds_from s part bucket [] = []
folds_from s part bucket (x ∷ xs) = record { place = record { part = part; bucket = bucket }; rows = fold_of s x } ∷ folds_from s part (bucket + 1) xs

abbrev pub part_folds : ShapeView → PartLists → List PlacedRows
part_folds s p = folds_from s p.part 0 p.lists

-- rowsets of a shape that show these folds
pub record AreRowsets (s : ShapeView) (folds : List PlacedRows) (sets : List TabletRows) : Type 0 where
  pub made : AllByRecursion (λ (t : TabletRows). IsMadeFor s t.rows.value) sets
  pub seen : map seen_set sets ≡ folds

abbrev pub AreFolds : ShapeView → PartLists → List TabletRows → Type 0
AreFolds s p sets = AreRowsets s (part_folds s p) sets

abbrev pub AreFoldsOfParts : ShapeView → List PartLists → List TabletRows → Type 0
AreFoldsOfParts s parts sets = AreRowsets s (flat_map (part_folds s) parts) sets
