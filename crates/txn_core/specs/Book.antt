-- A book of transactions, and what each call makes of it.
use Rattle.std.specs.Prelude.{◌≡◌, ℕ, ◌+◌, ◌-◌, Bool, true, false, cond, not, ◌&&◌, ◌||◌, List, [], ◌∷◌, ◌++◌, Option, Some, None, map, filter, find, length, take, nat_eq, nat_lt, unwrap_or}
use Rattle.std.specs.Option.{option_map}
use Rattle.labels.specs.declared.txn_state.TxnState.{TxnState}
use Rattle.labels.specs.declared.txn_state.TxnState.TheVariants as state
use Rattle.front_defs.specs.Answer.{label_for}
use Rattle.front_defs.specs.declared.txn.Txn.{Txn}
use Rattle.front_defs.specs.Moves.{is_open}
use Rattle.front_defs.specs.Transactions.{dropped_since, dropped_state, due, expires_by, over_by}
use Rattle.label_book.specs.declared.binding.BindError.{BindError}
use Rattle.label_book.specs.declared.binding.BindError.TheVariants as binding
use Rattle.txn_core.specs.declared.error.TxnError.{TxnError}
use Rattle.txn_core.specs.declared.error.TxnError.TheVariants as error
use Rattle.txn_core.specs.declared.info.Held.{Held}
use Rattle.txn_core.specs.declared.info.TxnInfo.{TxnInfo}
use Rattle.txn_core.specs.declared.start.TxnStart.{TxnStart}
use Rattle.txn_core.specs.Seen.{seen}

-- the transactions by ascending numbers, the next number, and the last place that was drawn
pub record BookView : Type 0 where
  pub kept : List TxnInfo
  pub next : ℕ
  pub places : ℕ

abbrev pub txns_in : BookView → List Txn
txns_in b = map seen b.kept

-- a change of the transaction of that number
abbrev pub at_id : ℕ → (TxnInfo → TxnInfo) → TxnInfo → TxnInfo
at_id id f k = cond (nat_eq k.id id) (f k) k

abbrev pub changed_in : ℕ → (TxnInfo → TxnInfo) → BookView → BookView
changed_in id f b = record b { kept = map (at_id id f) b.kept }

-- one begins with the next number
abbrev pub info_of : TxnStart → ℕ → TxnInfo
info_of s id = record { id = id; db = s.db; table = s.table; label = label_for s.label id; state = state.Prepare; since = s.at; two_phase = s.two_phase; schema = s.schema; place = None; told = false; held = None }

abbrev pub begun : TxnStart → BookView → BookView
begun s b = record b { kept = b.kept ++ info_of s b.next ∷ []; next = b.next + 1 }

-- one that is submitted has its place, or waits for its commit
abbrev pub place_for : Bool → ℕ → Option ℕ
place_for true last = None
place_for false last = Some (last + 1)

abbrev pub state_by : Option ℕ → TxnState
state_by None = state.Precommitted
state_by (Some p) = state.Committed

abbrev pub places_by : Option ℕ → ℕ → ℕ
places_by None last = last
places_by (Some p) last = p

abbrev pub submit_as : Option ℕ → Option Held → ℕ → TxnInfo → TxnInfo
submit_as place held at k = record k { state = state_by place; since = at; place = place; told = true; held = held }

abbrev pub submitted : ℕ → Option ℕ → Option Held → ℕ → BookView → BookView
submitted id place held at b = record (changed_in id (submit_as place held at) b) { places = places_by place b.places }

-- a commit draws the next place
abbrev pub commit_as : ℕ → ℕ → TxnInfo → TxnInfo
commit_as place at k = record k { state = state.Committed; since = at; place = Some place }

abbrev pub committed : ℕ → ℕ → BookView → BookView
committed id at b = record (changed_in id (commit_as (b.places + 1) at) b) { places = b.places + 1 }

-- an end, which keeps no rows
abbrev pub end_as : TxnState → ℕ → TxnInfo → TxnInfo
end_as s at k = record k { state = s; since = at; held = None }

abbrev pub ended : ℕ → TxnState → ℕ → BookView → BookView
ended id s at b = changed_in id (end_as s at) b

-- the one that is due is visible, if there is one
abbrev pub published_as : Option Txn → ℕ → BookView → BookView
published_as None at b = b
published_as (Some t) at b = ended t.id state.Visible at b

abbrev pub published : ℕ → BookView → BookView
published at b = published_as (due (txns_in b)) at b

-- What has expired is aborted, and what ended long ago is forgotten.
abbrev pub is_stale : ℕ → TxnInfo → Bool
is_stale at k = expires_by k.state k.since at

abbrev pub is_old : ℕ → TxnInfo → Bool
is_old at k = over_by k.state k.since at

abbrev pub swept_as : ℕ → TxnInfo → TxnInfo
swept_as at k = cond (is_stale at k) (end_as state.Aborted at k) k

abbrev pub swept : ℕ → BookView → BookView
swept at b = record b { kept = map (swept_as at) (filter (λ k. not (is_old at k)) b.kept) }

-- a sweep changes it, and a journal was told of it
abbrev pub is_told_change : ℕ → TxnInfo → Bool
is_told_change at k = k.told && (is_stale at k || is_old at k)

-- Where its table goes, a transaction keeps no rows, and one that is not committed is aborted.
abbrev pub drop_as : ℕ → TxnInfo → TxnInfo
drop_as at k = record k { state = dropped_state k.state; since = dropped_since k.state at k.since; held = None }

abbrev pub dropped_in : ℕ → ℕ → TxnInfo → TxnInfo
dropped_in table at k = cond (nat_eq k.table table) (drop_as at k) k

abbrev pub without_table : ℕ → ℕ → BookView → BookView
without_table table at b = record b { kept = map (dropped_in table at) b.kept }

-- the lowest number of one that has not ended, or the next number
abbrev pub lowest_open : ℕ → List Txn → ℕ
lowest_open next txns = unwrap_or (option_map (λ (t : Txn). t.id) (find (λ (t : Txn). is_open t.state) txns)) next

-- this one between those of lower and those of higher numbers
abbrev pub put_info : TxnInfo → List TxnInfo → List TxnInfo
put_info k ks = filter (λ (u : TxnInfo). nat_lt u.id k.id) ks ++ k ∷ filter (λ (u : TxnInfo). nat_lt k.id u.id) ks

abbrev pub restored : TxnInfo → BookView → BookView
restored k b = record b { kept = put_info k b.kept }

-- One has just begun: the last of all, with the number before the next one.
pub record HasBegun (b : BookView) : Type 0 where
  pub others : List TxnInfo
  pub last : TxnInfo
  pub kept : b.kept ≡ others ++ last ∷ []
  pub number : b.next ≡ last.id + 1
  pub begins : last.state ≡ state.Prepare

-- the last one has not begun
abbrev pub unbegun : BookView → BookView
unbegun b = record b { kept = take (length b.kept - 1) b.kept; next = b.next - 1 }

abbrev pub bind_fault : BindError → TxnError
bind_fault (binding.Used txn s) = error.Used txn s
bind_fault binding.NoMemory = error.NoMemory
