-- Why a call of a book is refused: the refusals of each in their order.
use Rattle.std.specs.Prelude.{◌≡◌, ℕ, ◌+◌, ◌<◌, ◌≤◌, not, ◌&&◌, ◌||◌, List, [], ◌∷◌, Option, Some, None, IfSome, is_some, nat_le, ◌⊎◌}
use Rattle.schema_models.specs.Faults.{first_of, refuse_if}
use Rattle.front_defs.specs.declared.txn.Txn.{Txn}
use Rattle.front_defs.specs.Transactions.{is_aborted, is_committed, is_precommitted, is_prepare, is_visible}
use Rattle.front_laws.specs.Tidy.{Each}
use Rattle.txn_core.specs.declared.info.TxnInfo.{TxnInfo}
use Rattle.txn_core.specs.Book.{BookView}
use Rattle.txn_core.specs.declared.error.TxnError.{TxnError}
use Rattle.txn_core.specs.declared.error.TxnError.TheVariants as error

-- the label is held by one that is not aborted
abbrev pub used_by : Option Txn → Option TxnError
used_by None = None
used_by (Some t) = refuse_if (not (is_aborted t.state)) (error.Used t.id t.state)

abbrev pub submit_faults : ℕ → Option Txn → List (Option TxnError)
submit_faults at None = Some error.NoSuchTxn ∷ []
submit_faults at (Some t) = refuse_if (not (is_prepare t.state)) (error.WrongState t.state) ∷ refuse_if (nat_le (t.since + 600) at) (error.Expired t.since) ∷ []

abbrev pub submit_fault : ℕ → Option Txn → Option TxnError
submit_fault at t = first_of (submit_faults at t)

abbrev pub commit_faults : ℕ → Option Txn → List (Option TxnError)
commit_faults at None = Some error.NoSuchTxn ∷ []
commit_faults at (Some t) = refuse_if (not (is_precommitted t.state)) (error.WrongState t.state) ∷ refuse_if (nat_le (t.since + 3600) at) (error.Expired t.since) ∷ []

abbrev pub commit_fault : ℕ → Option Txn → Option TxnError
commit_fault at t = first_of (commit_faults at t)

abbrev pub abort_faults : Option Txn → List (Option TxnError)
abort_faults None = Some error.NoSuchTxn ∷ []
abort_faults (Some t) = refuse_if (not (is_prepare t.state) && not (is_precommitted t.state)) (error.WrongState t.state) ∷ []

abbrev pub abort_fault : Option Txn → Option TxnError
abort_fault t = first_of (abort_faults t)

-- why none begins: the label is used, or memory was short
abbrev pub RefusesBegin : Option Txn → TxnError → Type 0
RefusesBegin held e = (e ≡ error.NoMemory) ⊎ (used_by held ≡ Some e)

-- It has a place exactly where it was committed, one that was drawn and that no other one has.
pub record HasOwnPlace (k : TxnInfo) (b : BookView) : Type 0 where
  pub has : is_some k.place ≡ (is_committed k.state || is_visible k.state)
  pub drawn : IfSome k.place (λ p. (0 < p) × (p ≤ b.places))
  pub own : IfSome k.place (λ p. Each (λ (u : TxnInfo). u.place ≡ Some p → ⊥) b.kept)
