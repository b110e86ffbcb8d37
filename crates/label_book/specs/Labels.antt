-- Labels and the transactions that hold them (Apache Doris documentation, "Stream Load", "Label": a label is used while a
-- transaction that is not aborted has it, and is forgotten some time after its load ended).
use Rattle.std.specs.Prelude.{◌≡◌, ℕ, ◌<◌, Bool, not, cond, ◌&&◌, List, [], ◌∷◌, ◌++◌, filter, Option, Some, None, find, reverse, nat_eq, nat_lt}
use Rattle.std.specs.List.{AllByRecursion, list_any}
use Rattle.std.specs.Option.{option_map}
use Rattle.std.specs.Str.{bytes_eq}
use Rattle.labels.specs.declared.txn_state.TxnState.{TxnState}
use Rattle.labels.specs.declared.txn_state.TxnState.TheVariants as state
use Rattle.label_book.specs.declared.binding.Binding.{Binding}
use Rattle.label_book.specs.declared.binding.BindError.{BindError}
use Rattle.label_book.specs.declared.binding.BindError.TheVariants as error

abbrev pub holds : List ℕ → List ℕ → Binding → Bool
holds db label b = bytes_eq b.db db && bytes_eq b.label label

-- the last binding of a label
abbrev pub last_of : List ℕ → List ℕ → List Binding → Option Binding
last_of db label bindings = find (holds db label) (reverse bindings)

-- its transaction and the state of that
abbrev pub state_of : List ℕ → List ℕ → List Binding → Option (ℕ × TxnState)
state_of db label bindings = option_map (λ b. (b.txn, b.state)) (last_of db label bindings)

-- whether the transaction is bound
abbrev pub is_bound : ℕ → List Binding → Bool
is_bound txn bindings = list_any (λ b. nat_eq b.txn txn) bindings

-- a transaction that begins with its label
abbrev pub bound : List ℕ → List ℕ → ℕ → Binding
bound db label txn = record { db = db; label = label; txn = txn; state = state.Prepare }

-- the binding of that transaction gets this state
abbrev pub finished : ℕ → TxnState → Binding → Binding
finished txn s b = cond (nat_eq b.txn txn) (record b { state = s }) b

-- the binding between those of lower and those of higher numbers
abbrev pub put_binding : Binding → List Binding → List Binding
put_binding b bindings = filter (λ c. nat_lt c.txn b.txn) bindings ++ b ∷ filter (λ c. nat_lt b.txn c.txn) bindings

-- the bindings of the other transactions
abbrev pub cleaned : ℕ → List Binding → List Binding
cleaned txn bindings = filter (λ c. not (nat_eq c.txn txn)) bindings

-- each number is below those after it
abbrev pub AreAscending : List Binding → Type 0
AreAscending [] = Unit {0}
AreAscending (b ∷ bindings) = AllByRecursion (λ c. b.txn < c.txn) bindings × AreAscending bindings

-- the label may be bound anew: nobody has it, or its last transaction was aborted
abbrev pub IsFree : Option (ℕ × TxnState) → Type 0
IsFree None = Unit {0}
IsFree (Some (txn, s)) = s ≡ state.Aborted

-- the label is used by that transaction, which is not aborted
abbrev pub IsUsedBy : ℕ → TxnState → Option (ℕ × TxnState) → Type 0
IsUsedBy txn s held = (held ≡ Some (txn, s)) × (s ≡ state.Aborted → ⊥)

-- why a label was not bound: it is used, or memory was short
abbrev pub WasRefused : Option (ℕ × TxnState) → BindError → Type 0
WasRefused held (error.Used txn s) = IsUsedBy txn s held
WasRefused held error.NoMemory = Unit {0}
