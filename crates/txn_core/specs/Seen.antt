-- What contracts see of a transaction that is kept, and of the rows that it holds.
use Rattle.std.specs.Prelude.{ℕ, map, ◌<◌, List, [], Option, Some, None}
use Rattle.dl_values.specs.declared.cell.Cell.{Cell}
use Rattle.shadow_writes.specs.declared.built.TabletRows.{TabletRows}
use Rattle.front_defs.specs.declared.txn.Txn.{Txn}
use Rattle.front_defs.specs.May.{seen_set}
use Rattle.front_defs.specs.Stored.{PlacedRows}
use Rattle.front_laws.specs.Tidy.{Each, Pairs}
use Rattle.txn_core.specs.declared.info.TxnInfo.{TxnInfo}
use Rattle.txn_core.specs.declared.info.Held.{Held}

-- the rows of a load, and none where it has ended
abbrev pub rows_in : Option Held → List (List Cell)
rows_in None = []
rows_in (Some h) = h.rows

-- what the tablets of the base will get of it
abbrev pub sets_in : Option Held → List PlacedRows
sets_in None = []
sets_in (Some h) = map (λ (s : TabletRows). seen_set s) h.sets

abbrev pub seen : TxnInfo → Txn
seen k = record { id = k.id; db = k.db; table = k.table; label = k.label; state = k.state; since = k.since; two_phase = k.two_phase; schema = k.schema; place = k.place; told = k.told; rows = rows_in k.held }

-- numbers of theirs ascend
abbrev pub AscendsBy : {X : Type 0} → (X → ℕ) → List X → Type 0
AscendsBy key xs = Pairs (λ a b. key a < key b) xs

abbrev pub Ascending : List TxnInfo → Type 0
Ascending ks = AscendsBy (λ (k : TxnInfo). k.id) ks

-- and are below the next one
abbrev pub Below : ℕ → List TxnInfo → Type 0
Below n ks = Each (λ (k : TxnInfo). k.id < n) ks
