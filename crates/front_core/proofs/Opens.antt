-- What each command makes of what a front has, and of what happened, is the same.
use Rattle.std.proofs.Common.{◌≡◌, ℕ, ◌+◌, Bool, true, false, List, [], ◌∷◌, ◌++◌, Option, Some, None, map, refl, sym, ◌∙◌, ap, subst}
use Rattle.std.specs.Prelude.{is_some, nat_lt}
use Rattle.std.specs.List.{AllByRecursion}
use Rattle.sql_text.specs.declared.table_def.TableDef.{TableDef}
use Rattle.table_defs.specs.Columns.{shape_of}
use Rattle.table_defs.specs.Defined.{layout_of}
use Rattle.labels.specs.declared.txn_state.TxnState.TheVariants as state
use Rattle.front_defs.specs.declared.event.Event.{Event}
use Rattle.front_defs.specs.declared.event.TableMade.{TableMade}
use Rattle.front_defs.specs.declared.catalogue.Table.{Table}
use Rattle.front_defs.specs.declared.txn.Txn.{Txn}
use Rattle.front_defs.specs.declared.command.Command.TheVariants as command
use Rattle.front_defs.specs.declared.command.TxnKey.{TxnKey}
use Rattle.front_defs.specs.Catalogue.{new_table, has_db, table_named, databases_of, tables_of, last_table_of}
use Rattle.front_defs.specs.Ids.{next_of, range_of}
use Rattle.front_defs.specs.Jobs.{jobs_of}
use Rattle.front_defs.specs.Stands.{HasGrid, View, StandsOpen}
use Rattle.front_defs.specs.Transactions.{changed, begun_txn, txn_by, txns_of}
use Rattle.front_laws.specs.Tidy.{Tidy}
use Rattle.front_state.specs.Parts.{range_for, ended_at}
use Rattle.front_core.specs.Parts.{IsFront, with_db, with_table, load_begun, with_end, BeginsLoad, EndsLoad}
use Rattle.front_state.specs.Tablets.{empty_tablets}
use Rattle.front_core.proofs.Alters.{no_jobs, stands_so}
use Rattle.front_core.proofs.Going.{Acts}
use Rattle.front_core.proofs.Loads.{waiting_more, by_more, waiting_ended, waiting_tabled}
use Rattle.front_core.proofs.Making.{made_grid, more_lists, more_versions}

-- CREATE DATABASE
db_by : (v : View) (Es : List Event) (name : List ℕ) (flag b : Bool) → has_db name v.databases ≡ b → IsFront v → StandsOpen v Es → Acts v (with_db name v) Es (command.CreateDb name flag)
db_by v Es name flag true is p s =
    let too : has_db name (databases_of Es) ≡ true = ap (has_db name) (sym s.cat.databases) ∙ is in
    rw (is, too) (record { live = refl; taken = refl; parts = s })
db_by v Es name flag false is p s =
    let too : has_db name (databases_of Es) ≡ false = ap (has_db name) (sym s.cat.databases) ∙ is in
    rw (is, too) (record {
      live = refl;
      taken = refl;
      parts = stands_so v Es (record { none = p.jobless; last = refl; marks = refl; jobs = no_jobs v Es p.jobless s; last_job = refl; tasks = refl }) s
          (record { databases = ap (λ ds. ds ++ name ∷ []) s.cat.databases; tables = s.cat.tables; last_table = s.cat.last_table })
          (record { txns = s.txns.txns; range = s.txns.range; next = s.txns.next; places = s.txns.places })
          (record { grid = s.tablets.grid; lists = s.tablets.lists; versions = s.tablets.versions; waiting = s.tablets.waiting });
    })

pub makes_db : (v new : View) (Es : List Event) (name : List ℕ) (flag : Bool) → new ≡ with_db name v → IsFront v → StandsOpen v Es → Acts v new Es (command.CreateDb name flag)
makes_db v new Es name flag e p s = subst (λ (x : View). Acts v x Es (command.CreateDb name flag)) (sym e) (db_by v Es name flag (has_db name v.databases) refl p s)

-- CREATE TABLE
abbrev made_of : List ℕ → List ℕ → TableDef → TableMade
made_of db name def = record { db = db; name = name; shape = shape_of def; layout = layout_of name def }

table_by : (v : View) (Es : List Event) (db name : List ℕ) (def : TableDef) (flag b : Bool) → is_some (table_named db name v.tables) ≡ b → IsFront v → Tidy Es → StandsOpen v Es → Acts v (with_table db name def v) Es (command.CreateTable db name def flag)
table_by v Es db name def flag true is p g s =
    let too : is_some (table_named db name (tables_of Es)) ≡ true = ap (λ ts. is_some (table_named db name ts)) (sym s.cat.tables) ∙ is in
    rw (is, too) (record { live = refl; taken = refl; parts = s })
table_by v Es db name def flag false is p g s =
    let too : is_some (table_named db name (tables_of Es)) ≡ false = ap (λ ts. is_some (table_named db name ts)) (sym s.cat.tables) ∙ is in
    let m = made_of db name def in
    let last = s.cat.last_table in
    let new = empty_tablets (v.last_table + 1) m.layout in
    rw (is, too) (record {
      live = refl;
      taken = refl;
      parts = stands_so v Es (record { none = p.jobless; last = refl; marks = refl; jobs = no_jobs v Es p.jobless s; last_job = refl; tasks = refl }) s
          (record { databases = s.cat.databases; tables = ap (λ ts. ts ++ new_table m (v.last_table + 1) ∷ []) s.cat.tables ∙ ap (λ (n : ℕ). tables_of Es ++ new_table m (n + 1) ∷ []) last; last_table = ap (λ (n : ℕ). n + 1) last })
          (record { txns = s.txns.txns; range = s.txns.range; next = s.txns.next; places = s.txns.places })
          (record {
            grid = subst (λ (n : ℕ). AllByRecursion (HasGrid (v.tablets ++ new ∷ [])) (tables_of Es ++ new_table m (n + 1) ∷ [])) last (made_grid v.last_table v.tablets (tables_of Es) m (v.last_table + 1) refl p.known s.tablets.grid);
            lists = λ t index w. more_lists index w t v.tablets (v.last_table + 1) _ _ ∙ s.tablets.lists t index w;
            versions = λ t part. more_versions part t v.tablets (v.last_table + 1) _ _ ∙ s.tablets.versions t part;
            waiting = λ n index. s.tablets.waiting n index ∙ sym (waiting_tabled n index (txns_of Es) (tables_of Es) (jobs_of Es) (new_table m (last_table_of Es + 1)) (last_table_of Es) refl g.used);
          });
    })

pub makes_table : (v new : View) (Es : List Event) (db name : List ℕ) (def : TableDef) (flag : Bool) → new ≡ with_table db name def v → IsFront v → Tidy Es → StandsOpen v Es → Acts v new Es (command.CreateTable db name def flag)
makes_table v new Es db name def flag e p g s = subst (λ (x : View). Acts v x Es (command.CreateTable db name def flag)) (sym e) (table_by v Es db name def flag (is_some (table_named db name v.tables)) refl p g s)

-- A load begins.
abbrev load_at : ℕ → ℕ → Table → Option (List ℕ) → Bool → ℕ → View → View
load_at next range t label two_phase at v = record v { txns = v.txns ++ begun_txn (load_begun next label two_phase at t) ∷ []; waiting = v.waiting ++ record { txn = next; sets = [] ∷ [] } ∷ []; range = range_for range next; next = next + 1 }

begun_by : (v : View) (Es : List Event) (db table : List ℕ) (label : Option (List ℕ)) (two_phase : Bool) (at : ℕ) (t : Table) (b : Bool) → nat_lt (range_of Es) (next_of Es) ≡ b → table_named db table (tables_of Es) ≡ Some t → IsFront v → StandsOpen v Es → Acts v (load_at (next_of Es) (range_of Es) t label two_phase at v) Es (command.Begin db table label two_phase at)
begun_by v Es db table label two_phase at t true is found p s = rw (is, found) (record {
  live = refl;
  taken = refl;
  parts = stands_so v Es (record { none = p.jobless; last = refl; marks = refl; jobs = no_jobs v Es p.jobless s; last_job = refl; tasks = refl }) s
      (record { databases = s.cat.databases; tables = s.cat.tables; last_table = s.cat.last_table })
      (record { txns = ap (λ ts. ts ++ begun_txn (load_begun (next_of Es) label two_phase at t) ∷ []) s.txns.txns; range = refl; next = refl; places = s.txns.places })
      (record { grid = s.tablets.grid; lists = s.tablets.lists; versions = s.tablets.versions; waiting = λ n index. waiting_more n index v.waiting (record { txn = next_of Es; sets = [] ∷ [] }) refl ∙ s.tablets.waiting n index ∙ sym (by_more n index (txns_of Es) (begun_txn (load_begun (next_of Es) label two_phase at t)) (tables_of Es) (jobs_of Es) refl) });
})
begun_by v Es db table label two_phase at t false is found p s = rw (is, found) (record {
  live = refl;
  taken = refl;
  parts = stands_so v Es (record { none = p.jobless; last = refl; marks = refl; jobs = no_jobs v Es p.jobless s; last_job = refl; tasks = refl }) s
      (record { databases = s.cat.databases; tables = s.cat.tables; last_table = s.cat.last_table })
      (record { txns = ap (λ ts. ts ++ begun_txn (load_begun (next_of Es) label two_phase at t) ∷ []) s.txns.txns; range = refl; next = refl; places = s.txns.places })
      (record { grid = s.tablets.grid; lists = s.tablets.lists; versions = s.tablets.versions; waiting = λ n index. waiting_more n index v.waiting (record { txn = next_of Es; sets = [] ∷ [] }) refl ∙ s.tablets.waiting n index ∙ sym (by_more n index (txns_of Es) (begun_txn (load_begun (next_of Es) label two_phase at t)) (tables_of Es) (jobs_of Es) refl) });
})

begins_by : (v new : View) (Es : List Event) (db table : List ℕ) (label : Option (List ℕ)) (two_phase : Bool) (at : ℕ) (o : Option Table) → table_named db table (tables_of Es) ≡ o → BeginsLoad o label two_phase at v new → IsFront v → StandsOpen v Es → Acts v new Es (command.Begin db table label two_phase at)
begins_by v new Es db table label two_phase at None found h p s = absurd h
begins_by v new Es db table label two_phase at (Some t) found h p s =
    let e : new ≡ load_at (next_of Es) (range_of Es) t label two_phase at v = h ∙ ap (λ (n : ℕ). load_at n v.range t label two_phase at v) s.txns.next ∙ ap (λ (r : ℕ). load_at (next_of Es) r t label two_phase at v) s.txns.range in
    subst (λ (x : View). Acts v x Es (command.Begin db table label two_phase at)) (sym e) (begun_by v Es db table label two_phase at t (nat_lt (range_of Es) (next_of Es)) refl found p s)

pub begins_load : (v new : View) (Es : List Event) (db table : List ℕ) (label : Option (List ℕ)) (two_phase : Bool) (at : ℕ) → BeginsLoad (table_named db table v.tables) label two_phase at v new → IsFront v → StandsOpen v Es → Acts v new Es (command.Begin db table label two_phase at)
begins_load v new Es db table label two_phase at h p s = begins_by v new Es db table label two_phase at (table_named db table v.tables) (ap (table_named db table) (sym s.cat.tables)) h p s

-- A load ends.
ended_by : (v : View) (Es : List Event) (db : List ℕ) (key : TxnKey) (at : ℕ) (t : Txn) (b : Bool) → t.told ≡ b → txn_by db key (txns_of Es) ≡ Some t → IsFront v → StandsOpen v Es → Acts v (with_end t.id state.Aborted at v) Es (command.Abort db key at)
ended_by v Es db key at t true told found p s = rw (found, told) (record {
  live = refl;
  taken = refl;
  parts = stands_so v Es (record { none = p.jobless; last = refl; marks = refl; jobs = no_jobs v Es p.jobless s; last_job = refl; tasks = refl }) s
      (record { databases = s.cat.databases; tables = s.cat.tables; last_table = s.cat.last_table })
      (record { txns = ap (map (changed t.id (ended_at state.Aborted at))) s.txns.txns; range = s.txns.range; next = s.txns.next; places = s.txns.places })
      (record { grid = s.tablets.grid; lists = s.tablets.lists; versions = s.tablets.versions; waiting = λ n index. waiting_ended t.id n index (ended_at state.Aborted at) v.waiting (txns_of Es) (tables_of Es) (jobs_of Es) (λ x. refl) (λ x. refl) (s.tablets.waiting n index) });
})
ended_by v Es db key at t false told found p s = rw (found, told) (record {
  live = refl;
  taken = refl;
  parts = stands_so v Es (record { none = p.jobless; last = refl; marks = refl; jobs = no_jobs v Es p.jobless s; last_job = refl; tasks = refl }) s
      (record { databases = s.cat.databases; tables = s.cat.tables; last_table = s.cat.last_table })
      (record { txns = ap (map (changed t.id (ended_at state.Aborted at))) s.txns.txns; range = s.txns.range; next = s.txns.next; places = s.txns.places })
      (record { grid = s.tablets.grid; lists = s.tablets.lists; versions = s.tablets.versions; waiting = λ n index. waiting_ended t.id n index (ended_at state.Aborted at) v.waiting (txns_of Es) (tables_of Es) (jobs_of Es) (λ x. refl) (λ x. refl) (s.tablets.waiting n index) });
})

ends_by : (v new : View) (Es : List Event) (db : List ℕ) (key : TxnKey) (at : ℕ) (o : Option Txn) → txn_by db key (txns_of Es) ≡ o → EndsLoad o state.Aborted at v new → IsFront v → StandsOpen v Es → Acts v new Es (command.Abort db key at)
ends_by v new Es db key at None found h p s = absurd h
ends_by v new Es db key at (Some t) found h p s = subst (λ (x : View). Acts v x Es (command.Abort db key at)) (sym h) (ended_by v Es db key at t t.told refl found p s)

pub ends_load : (v new : View) (Es : List Event) (db : List ℕ) (key : TxnKey) (at : ℕ) → EndsLoad (txn_by db key v.txns) state.Aborted at v new → IsFront v → StandsOpen v Es → Acts v new Es (command.Abort db key at)
ends_load v new Es db key at h p s = ends_by v new Es db key at (txn_by db key v.txns) (ap (txn_by db key) (sym s.txns.txns)) h p s
