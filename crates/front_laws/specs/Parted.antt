-- Worked histories of a table with partitions, of a sweep and of a restart, the newest entry first.
use Rattle.std.specs.Prelude.{ℕ, true, false, List, [], ◌∷◌, Some, None, pos}
use Rattle.dl_values.specs.declared.cell.Cell.{Cell}
use Rattle.partitions.specs.LayoutView.{LayoutView}
use Rattle.partitions.specs.Places.{Place}
use Rattle.sql_text.specs.declared.part.Part.{Part}
use Rattle.sql_text.specs.declared.part.PartBounds.TheVariants.{Less}
use Rattle.sql_text.specs.declared.query.Literal.TheVariants as literal
use Rattle.sql_text.specs.declared.table_def.TableDef.{TableDef}
use Rattle.table_defs.specs.Defined.{layout_of}
use Rattle.shadow_writes.specs.declared.plan.Plan.{Plan}
use Rattle.shadow_writes.specs.declared.built.Built.{Built}
use Rattle.front_defs.specs.declared.command.Command.{Command}
use Rattle.front_defs.specs.declared.command.Command.TheVariants as command
use Rattle.front_defs.specs.declared.reply.Reply.TheVariants as reply
use Rattle.front_defs.specs.declared.history.Entry.{Entry}
use Rattle.front_defs.specs.declared.history.Entry.TheVariants.{Made}
use Rattle.front_defs.specs.Stands.{View}
use Rattle.front_laws.specs.Examples.{a1, begin, begun, call, d, def, k, loaded, plain, plan, row, submit, t}

-- `p`, `q`, `r`
abbrev pub p : List ℕ
p = 112 ∷ []

abbrev pub q : List ℕ
q = 113 ∷ []

abbrev pub r : List ℕ
r = 114 ∷ []

-- `PARTITION name VALUES LESS THAN (end)`
abbrev pub less : List ℕ → ℕ → Part
less name end = record { name = name; bounds = Less (Some (literal.Int (pos end))) }

-- the table with `PARTITION BY RANGE(k) (PARTITION p VALUES LESS THAN (10), PARTITION q VALUES LESS THAN (20))`
abbrev pub by_range : TableDef
by_range = record def { ranges = Some (record { column = k; parts = less p 10 ∷ less q 20 ∷ [] }) }

abbrev pub layout : LayoutView
layout = layout_of t by_range

abbrev pub plan_by_range : ℕ → Plan
plan_by_range id = record (plan id) { layout = layout }

abbrev pub made_by_range : List Entry
made_by_range = call (command.CreateTable d t by_range false) reply.Done ∷ call (command.CreateDb d false) reply.Done ∷ []

abbrev pub begun_by_range : List Entry
begun_by_range = call (begin a1) (reply.Begun 1 (plan_by_range 1)) ∷ made_by_range

-- its first load becomes visible
abbrev pub shown : Built → List Entry → List Entry
shown built H = call (command.Publish 0) (reply.Published 1 1) ∷ call (submit 1 built) (reply.Submitted (Some (record { place = 1; ahead = 0 }))) ∷ H

abbrev pub place : ℕ → Place
place part = record { part = part; bucket = 0 }

-- a row in each partition
abbrev pub in_both : List (List Cell)
in_both = row 1 5 ∷ row 15 6 ∷ []

-- a third partition, while the load is open
abbrev pub add : Part → Command
add part = command.AddPartition d t part

abbrev pub grown : List Entry
grown = call (add (less r 30)) reply.Done ∷ begun_by_range

-- three days after it became visible a load is cleaned
abbrev pub swept : Built → List Entry
swept built = call (command.Sweep 259200) (reply.Swept 0 1) ∷ loaded built

-- the service is opened again while a load is open
abbrev pub restarted : List Entry
restarted = Made (record (plain command.Restart reply.Done) { opened = true }) ∷ begun

-- a front that holds nothing
abbrev pub empty : View
empty = record {
  databases = [];
  tables = [];
  last_table = 0;
  txns = [];
  range = 0;
  next = 1;
  places = 0;
  tablets = [];
  waiting = [];
  jobs = [];
  last_job = 0;
  job_names = [];
  taken = 0;
  tasks = [];
  shadows = [];
  live = 0;
  broken = false;
  records = None;
  faults = 0;
}
