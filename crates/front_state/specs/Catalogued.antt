-- How the indexes of a catalogue stand to what is in it.
use Rattle.std.specs.Prelude.{◌≡◌, ℕ, ◌≤◌, List, []}
use Rattle.front_defs.specs.declared.catalogue.Table.{Table}
use Rattle.front_state.specs.declared.stored_table.StoredTable.{StoredTable}
use Rattle.front_laws.specs.Tidy.{Each}
use Rattle.partitions.specs.LayoutRules.{IsLayout}
use Rattle.txn_core.specs.Seen.{AscendsBy}
use Rattle.front_state.specs.declared.table_key.TableKey.{TableKey}

-- a table by its name
abbrev pub key_of : Table → TableKey
key_of t = record { db = t.db; name = t.name }

-- each table stands under its name
abbrev pub Keyed : List (TableKey × Table) → Type 0
Keyed es = Each (λ (e : TableKey × Table). e.0 ≡ key_of e.1) es

-- the layout of a table is one for the rows of its shape, and it has no rollup
pub record IsPlainTable (t : Table) : Type 0 where
  pub laid : IsLayout t.shape t.layout
  pub rollups : t.rollups ≡ []

abbrev pub HoldsPlain : TableKey × Table → Type 0
HoldsPlain e = IsPlainTable e.1

-- Each table stands under its name, has a layout for its rows, and no rollup; what is stored is of known tables, by ascending numbers.
pub record IsCatalogued (es : List (TableKey × Table)) (tablets : List StoredTable) (last : ℕ) : Type 0 where
  pub keyed : Keyed es
  pub known : Each (λ (k : StoredTable). k.table ≤ last) tablets
  pub ascends : AscendsBy (λ (k : StoredTable). k.table) tablets
  pub plain : Each HoldsPlain es
