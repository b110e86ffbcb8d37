-- What a book of labels says of one that begins.
use Rattle.std.proofs.Common.{◌≡◌, ℕ, false, Option, Some, None, refl, ◌∙◌, ap, inl, inr}
use Rattle.std.specs.Option.{option_map}
use Rattle.label_book.specs.declared.binding.BindError.{BindError}
use Rattle.label_book.specs.declared.binding.BindError.TheVariants as binding
use Rattle.labels.specs.declared.txn_state.TxnState.{TxnState}
use Rattle.labels.specs.declared.txn_state.TxnState.TheVariants as state
use Rattle.label_book.specs.Labels.{IsFree, WasRefused}
use Rattle.front_defs.specs.declared.txn.Txn.{Txn}
use Rattle.front_defs.specs.Transactions.{is_aborted, is_committed}
use Rattle.txn_core.specs.declared.error.TxnError.TheVariants as error
use Rattle.txn_core.specs.Book.{bind_fault}
use Rattle.txn_core.specs.Refusals.{RefusesBegin, abort_fault, commit_fault, submit_fault, used_by}

alive : (s : TxnState) → (s ≡ state.Aborted → ⊥) → is_aborted s ≡ false
alive state.Prepare f = refl
alive state.Precommitted f = refl
alive state.Committed f = refl
alive state.Visible f = refl
alive state.Aborted f = absurd (f refl)

abbrev number_in : Option (ℕ × TxnState) → ℕ
number_in None = 0
number_in (Some p) = p.0

abbrev state_in : Option (ℕ × TxnState) → TxnState
state_in None = state.Aborted
state_in (Some p) = p.1

pub refused_begin : (o : Option Txn) (e : BindError) → WasRefused (option_map {U = ℕ × TxnState} (λ (t : Txn). (t.id, t.state)) o) e → RefusesBegin o (bind_fault e)
refused_begin o binding.NoMemory h = inl refl
refused_begin None (binding.Used txn s) h = absurd (let z = h.0 in cc)
refused_begin (Some t) (binding.Used txn s) h =
    let n : t.id ≡ txn = ap number_in h.0 in
    let same : t.state ≡ s = ap state_in h.0 in
    let on = ap is_aborted same ∙ alive s h.1 in
    inr (rw (on, n, same) refl)

pub free_begin : (o : Option Txn) → IsFree (option_map {U = ℕ × TxnState} (λ (t : Txn). (t.id, t.state)) o) → used_by o ≡ None
free_begin None h = refl
free_begin (Some t) h = rw h refl

-- what is not refused is not committed
pub submit_opens : (at : ℕ) (t : Txn) (s : TxnState) → t.state ≡ s → submit_fault at (Some t) ≡ None → is_committed s ≡ false
submit_opens at t state.Prepare e f = refl
submit_opens at t state.Precommitted e f = refl
submit_opens at t state.Committed e f = absurd (let z : submit_fault at (Some t) ≡ Some (error.WrongState t.state) = rw e refl in cc)
submit_opens at t state.Visible e f = refl
submit_opens at t state.Aborted e f = refl

pub commit_opens : (at : ℕ) (t : Txn) (s : TxnState) → t.state ≡ s → commit_fault at (Some t) ≡ None → is_committed s ≡ false
commit_opens at t state.Prepare e f = refl
commit_opens at t state.Precommitted e f = refl
commit_opens at t state.Committed e f = absurd (let z : commit_fault at (Some t) ≡ Some (error.WrongState t.state) = rw e refl in cc)
commit_opens at t state.Visible e f = refl
commit_opens at t state.Aborted e f = refl

pub abort_opens : (t : Txn) (s : TxnState) → t.state ≡ s → abort_fault (Some t) ≡ None → is_committed s ≡ false
abort_opens t state.Prepare e f = refl
abort_opens t state.Precommitted e f = refl
abort_opens t state.Committed e f = absurd (let z : abort_fault (Some t) ≡ Some (error.WrongState t.state) = rw e refl in cc)
abort_opens t state.Visible e f = refl
abort_opens t state.Aborted e f = refl
