-- The indexes of a table, by number: the base is 0, and the rollups come after it by age. The new indexes of a job stand behind them.
use Rattle.std.specs.Prelude.{ℕ, zero, suc, ◌+◌, cond, List, [], ◌∷◌, ◌++◌, Option, Some, None, map, length, nat_eq}
use Rattle.std.specs.List.{list_any}
use Rattle.dl_values.specs.declared.cell.Cell.{Cell}
use Rattle.schema_models.specs.ShapeView.{ShapeView}
use Rattle.row_map.specs.declared.map.RowMap.{RowMap}
use Rattle.row_map.specs.Maps.{conv, is_bad, rollup_map}
use Rattle.shadow_writes.specs.declared.plan.Target.{Target}
use Rattle.alter_core.specs.declared.job.Change.{Change}
use Rattle.alter_core.specs.declared.job.Change.TheVariants as change
use Rattle.alter_core.specs.declared.job.JobInfo.{JobInfo}
use Rattle.front_defs.specs.declared.catalogue.Table.{Table}
use Rattle.front_defs.specs.declared.catalogue.Rollup.{Rollup}
use Rattle.front_defs.specs.Jobs.{planned_job, running_job}

-- an index: its shape, and the map that makes its rows of rows of the base; the base has its rows as they are
pub record Index : Type 0 where
  pub shape : ShapeView
  pub map : Option RowMap

abbrev pub conv_by : Option RowMap → List (List Cell) → List (List Cell)
conv_by None rows = rows
conv_by (Some m) rows = conv m rows

-- the one of that number of a list, from 0
abbrev pub nth : {X : Type 0} → ℕ → List X → Option X
nth n [] = None
nth zero (x ∷ xs) = Some x
nth (suc n) (x ∷ xs) = nth n xs

abbrev pub mapped_index : RowMap → Index
mapped_index m = record { shape = m.to; map = Some m }

abbrev pub base_index : Table → Index
base_index t = record { shape = t.shape; map = None }

-- the maps of the rollups of a table
abbrev pub rollup_maps : Table → List RowMap
rollup_maps t = map (λ (r : Rollup). rollup_map t.shape r.columns) t.rollups

abbrev pub indexes_of : Table → List Index
indexes_of t = base_index t ∷ map mapped_index (rollup_maps t)

abbrev pub index_at : ℕ → Table → Option Index
index_at index t = nth index (indexes_of t)

-- the maps of the new indexes of a job
abbrev pub change_maps : Change → Table → List RowMap
change_maps (change.Rollup name columns) t = rollup_map t.shape columns ∷ []

-- the number that a new index of a job has in the plans, and that the first of them has
abbrev pub first_new : Table → ℕ
first_new t = length (indexes_of t)

-- The new index that stands under a number where the job ends well; of other numbers the indexes stay as they are.
abbrev pub new_index : Change → Table → ℕ → Option Index
new_index (change.Rollup name columns) t index = cond (nat_eq index (first_new t)) (Some (mapped_index (rollup_map t.shape columns))) None

-- which of the new indexes of the job it is
abbrev pub new_number : Change → Table → ℕ → ℕ
new_number (change.Rollup name columns) t index = 0

-- the maps of the new indexes of a job, where there is one
abbrev pub maps_of : Option JobInfo → Table → List RowMap
maps_of None t = []
maps_of (Some j) t = change_maps j.change t

-- the targets of a plan: the rollups, and the new indexes of the job that waits or runs
abbrev pub numbered : ℕ → List RowMap → List Target
numbered n [] = []
numbered n (m ∷ ms) = record { index = n; shape = m.to; map = m } ∷ numbered (n + 1) ms

abbrev pub plan_maps : Table → List JobInfo → List RowMap
plan_maps t jobs = rollup_maps t ++ maps_of (planned_job t.number jobs) t

abbrev pub targets_of : Table → List JobInfo → List Target
targets_of t jobs = numbered 1 (plan_maps t jobs)

-- the running job of a table that rows of a load cannot be converted for
abbrev pub spoils : Option JobInfo → Table → List (List Cell) → Option ℕ
spoils None t rows = None
spoils (Some j) t rows = cond (list_any (λ (m : RowMap). is_bad m rows) (change_maps j.change t)) (Some j.job) None

abbrev pub spoiled_by : List JobInfo → Option Table → List (List Cell) → Option ℕ
spoiled_by jobs None rows = None
spoiled_by jobs (Some t) rows = spoils (running_job t.number jobs) t rows
