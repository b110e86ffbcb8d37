-- The two parts of a front, and what each call makes of them.
use Rattle.std.specs.Prelude.{ℕ, ◌+◌, Bool, true, cond, not, filter, List, [], ◌∷◌, ◌++◌, Option, Some, None, map, nat_eq, nat_lt}
use Rattle.dl_values.specs.declared.cell.Cell.{Cell}
use Rattle.schema_models.specs.ShapeView.{ShapeView}
use Rattle.partitions.specs.LayoutView.{LayoutView}
use Rattle.labels.specs.declared.txn_state.TxnState.{TxnState}
use Rattle.labels.specs.declared.txn_state.TxnState.TheVariants as state
use Rattle.front_defs.specs.declared.catalogue.Table.{Table}
use Rattle.front_defs.specs.declared.txn.Txn.{Txn}
use Rattle.front_defs.specs.declared.reply.Placed.{Placed}
use Rattle.front_defs.specs.Catalogue.{new_table}
use Rattle.front_defs.specs.Ids.{range_size}
use Rattle.front_defs.specs.Stands.{TableTablets, WaitingRows}
use Rattle.front_defs.specs.Stored.{PlacedRows}
use Rattle.front_defs.specs.Answer.{label_for}
use Rattle.front_defs.specs.declared.event.TxnBegun.{TxnBegun}
use Rattle.front_defs.specs.Transactions.{changed, committed_at, dropped, due, is_expired, is_over, sweep}
use Rattle.txn_core.specs.Book.{BookView}
use Rattle.txn_core.specs.Seen.{seen}
use Rattle.txn_core.specs.declared.start.TxnStart.{TxnStart}
use Rattle.front_state.specs.Waits.{waits}
use Rattle.front_state.specs.Tablets.{empty_tablets}

-- the databases, the tables, and what is stored of them
pub record CatalogueView : Type 0 where
  pub databases : List (List ℕ)
  pub tables : List Table
  pub last_table : ℕ
  pub tablets : List TableTablets

-- the transactions, what waits of them, and the numbers and places that come next
pub record TransactionsView : Type 0 where
  pub txns : List Txn
  pub waiting : List WaitingRows
  pub range : ℕ
  pub next : ℕ
  pub places : ℕ

-- what contracts see of a book of transactions and the end of the range of its next number
abbrev pub transactions_seen : BookView → ℕ → TransactionsView
transactions_seen b range = record { txns = map seen b.kept; waiting = map waits b.kept; range = range; next = b.next; places = b.places }

-- what begins with a number
abbrev pub started : TxnStart → ℕ → TxnBegun
started s id = record { txn = id; db = s.db; table = s.table; label = label_for s.label id; two_phase = s.two_phase; schema = s.schema; at = s.at }

-- what waits of the transaction of that number is this now
abbrev pub given : ℕ → List PlacedRows → WaitingRows → WaitingRows
given id sets w = cond (nat_eq w.txn id) (record { txn = w.txn; sets = sets ∷ [] }) w

-- a table as it is made by its definition
abbrev pub table_of : List ℕ → List ℕ → ShapeView → LayoutView → ℕ → Table
table_of db name shape layout number = new_table (record { db = db; name = name; shape = shape; layout = layout }) number

-- a table more, of which nothing is stored
abbrev pub table_added : List ℕ → List ℕ → ShapeView → LayoutView → CatalogueView → CatalogueView
table_added db name shape layout v = record v { tables = v.tables ++ table_of db name shape layout (v.last_table + 1) ∷ []; last_table = v.last_table + 1; tablets = v.tablets ++ empty_tablets (v.last_table + 1) layout ∷ [] }

-- the table of a number is gone, with what is stored of it
abbrev pub table_dropped : ℕ → CatalogueView → CatalogueView
table_dropped n v = record v { tables = filter (λ (t : Table). not (nat_eq t.number n)) v.tables; tablets = filter (λ (k : TableTablets). not (nat_eq k.table n)) v.tablets }

-- a load begins with the next number, where need be in a new range
abbrev pub range_for : ℕ → ℕ → ℕ
range_for range next = cond (nat_lt range next) (range + range_size) range

abbrev pub begun : Txn → WaitingRows → TransactionsView → TransactionsView
begun t w v = record v { txns = v.txns ++ t ∷ []; waiting = v.waiting ++ w ∷ []; range = range_for v.range v.next; next = v.next + 1 }

-- a place, with how many committed loads wait before it
abbrev pub placed_at : Option ℕ → ℕ → Option Placed
placed_at None ahead = None
placed_at (Some p) ahead = Some (record { place = p; ahead = ahead })

-- a load that is submitted has its place, or waits for its commit
abbrev pub state_by : Option Placed → TxnState
state_by None = state.Precommitted
state_by (Some p) = state.Committed

abbrev pub place_by : Option Placed → Option ℕ
place_by None = None
place_by (Some p) = Some p.place

abbrev pub places_by : Option Placed → ℕ → ℕ
places_by None last = last
places_by (Some p) last = p.place

abbrev pub submitted_at : Option Placed → List (List Cell) → ℕ → Txn → Txn
submitted_at placed rows at t = record t { state = state_by placed; since = at; place = place_by placed; told = true; rows = rows }

abbrev pub submitted : ℕ → Option Placed → List (List Cell) → List PlacedRows → ℕ → TransactionsView → TransactionsView
submitted id placed rows sets at v = record v { txns = map (changed id (submitted_at placed rows at)) v.txns; waiting = map (given id sets) v.waiting; places = places_by placed v.places }

-- a commit draws the next place
abbrev pub committed : ℕ → ℕ → TransactionsView → TransactionsView
committed id at v = record v { txns = map (changed id (committed_at (v.places + 1) at)) v.txns; places = v.places + 1 }

-- an end, which keeps no rows
abbrev pub ended_at : TxnState → ℕ → Txn → Txn
ended_at s at t = record t { state = s; since = at; rows = [] }

abbrev pub ended : ℕ → TxnState → ℕ → TransactionsView → TransactionsView
ended id s at v = record v { txns = map (changed id (ended_at s at)) v.txns; waiting = map (given id []) v.waiting }

-- the load that is due is visible, if there is one
abbrev pub published_as : Option Txn → ℕ → TransactionsView → TransactionsView
published_as None at v = v
published_as (Some t) at v = ended t.id state.Visible at v

abbrev pub published : ℕ → TransactionsView → TransactionsView
published at v = published_as (due v.txns) at v

-- what waits of a transaction that keeps no rows
abbrev pub emptied : WaitingRows → WaitingRows
emptied w = record { txn = w.txn; sets = [] ∷ [] }

-- of those that pass the test nothing waits any more
abbrev pub emptied_where : (Txn → Bool) → List Txn → List WaitingRows → List WaitingRows
emptied_where p [] ws = []
emptied_where p (t ∷ ts) [] = []
emptied_where p (t ∷ ts) (w ∷ ws) = cond (p t) (emptied w) w ∷ emptied_where p ts ws

-- what waits of those that pass the test
abbrev pub waits_where : (Txn → Bool) → List Txn → List WaitingRows → List WaitingRows
waits_where q [] ws = []
waits_where q (t ∷ ts) [] = []
waits_where q (t ∷ ts) (w ∷ ws) = cond (q t) (w ∷ waits_where q ts ws) (waits_where q ts ws)

-- what has expired is aborted, and what ended long ago is forgotten
abbrev pub is_fresh : ℕ → Txn → Bool
is_fresh at t = not (is_over at t)

abbrev pub swept : ℕ → TransactionsView → TransactionsView
swept at v = record v { txns = sweep at v.txns; waiting = emptied_where (is_expired at) (filter (is_fresh at) v.txns) (waits_where (is_fresh at) v.txns v.waiting) }

-- where its table goes, a transaction keeps no rows, and one that is not committed is aborted
abbrev pub is_of : ℕ → Txn → Bool
is_of table t = nat_eq t.table table

abbrev pub without_table : ℕ → ℕ → TransactionsView → TransactionsView
without_table table at v = record v { txns = map (dropped table at) v.txns; waiting = emptied_where (is_of table) v.txns v.waiting }
