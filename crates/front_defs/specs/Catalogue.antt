-- The catalogue: the databases and the live tables, each in the order of their making (Apache Doris documentation, "CREATE DATABASE", "CREATE TABLE").
use Rattle.std.specs.Prelude.{ℕ, ◌+◌, Bool, cond, not, ◌&&◌, List, [], ◌∷◌, ◌++◌, Option, Some, None, map, filter, find, nat_eq}
use Rattle.std.specs.List.{list_any}
use Rattle.front_defs.specs.declared.event.Event.{Event}
use Rattle.front_defs.specs.declared.event.Event.TheVariants as event
use Rattle.front_defs.specs.declared.event.PartAdded.{PartAdded}
use Rattle.front_defs.specs.declared.event.TableMade.{TableMade}
use Rattle.partitions.specs.LayoutFaults.{with_part}
use Rattle.front_defs.specs.declared.catalogue.Table.{Table}
use Rattle.front_defs.specs.Names.{same}
use Rattle.front_defs.specs.Jobs.{job_at, jobs_of}
use Rattle.alter_core.specs.declared.job.Change.{Change}
use Rattle.alter_core.specs.declared.job.Change.TheVariants as change
use Rattle.alter_core.specs.declared.job.JobInfo.{JobInfo}

abbrev pub databases_after : Event → List (List ℕ) → List (List ℕ)
databases_after (event.DbMade d) names = names ++ d.name ∷ []
databases_after _ names = names

abbrev pub databases_of : List Event → List (List ℕ)
databases_of [] = []
databases_of (e ∷ Es) = databases_after e (databases_of Es)

-- the number of the last table that was made
abbrev pub last_table_after : Event → ℕ → ℕ
last_table_after (event.TableMade m) last = last + 1
last_table_after _ last = last

abbrev pub last_table_of : List Event → ℕ
last_table_of [] = 0
last_table_of (e ∷ Es) = last_table_after e (last_table_of Es)

-- a new table has schema number 0, one shape and no rollup
abbrev pub new_table : TableMade → ℕ → Table
new_table m number = record { number = number; db = m.db; name = m.name; schema = 0; shape = m.shape; layout = m.layout; steps = record { number = 0; shape = m.shape } ∷ []; rollups = [] }

-- a partition more, behind the others
abbrev pub part_added : PartAdded → Table → Table
part_added a t = cond (nat_eq t.number a.table) (record t { layout = with_part a.part t.layout }) t

-- What a job does to its table that ended well.
abbrev pub with_change : Change → Table → Table
with_change (change.Rollup name columns) t = record t { rollups = t.rollups ++ record { name = name; columns = columns } ∷ [] }

abbrev pub finished_in : Option JobInfo → Table → Table
finished_in None t = t
finished_in (Some j) t = cond (nat_eq t.number j.table) (with_change j.change t) t

abbrev pub tables_after : Event → ℕ → List JobInfo → List Table → List Table
tables_after (event.TableMade m) last jobs tables = tables ++ new_table m (last + 1) ∷ []
tables_after (event.PartAdded a) last jobs tables = map (part_added a) tables
tables_after (event.JobFinished f) last jobs tables = map (finished_in (job_at f.job jobs)) tables
tables_after (event.TableDropped d) last jobs tables = filter (λ t. not (nat_eq t.number d.table)) tables
tables_after _ last jobs tables = tables

abbrev pub tables_of : List Event → List Table
tables_of [] = []
tables_of (e ∷ Es) = tables_after e (last_table_of Es) (jobs_of Es) (tables_of Es)

-- whether there is a database of that name
abbrev pub has_db : List ℕ → List (List ℕ) → Bool
has_db name dbs = list_any (same name) dbs

abbrev pub is_named : List ℕ → List ℕ → Table → Bool
is_named db name t = same t.db db && same t.name name

-- the live table of that name in a database
abbrev pub table_named : List ℕ → List ℕ → List Table → Option Table
table_named db name tables = find (is_named db name) tables

-- the live table of that number
abbrev pub table_at : ℕ → List Table → Option Table
table_at number tables = find (λ t. nat_eq t.number number) tables

-- the database of the table of that number
abbrev pub db_in : Option Table → List ℕ
db_in None = []
db_in (Some t) = t.db

abbrev pub db_of : ℕ → List Table → List ℕ
db_of number tables = db_in (table_at number tables)
