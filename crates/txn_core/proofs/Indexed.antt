-- The indexes after a transaction began.
use Rattle.std.proofs.Common.{◌≡◌, ℕ, ◌+◌, ◌≤◌, List, [], ◌∷◌, ◌++◌, length, map, refl, sym, ◌∙◌, ap, arith, false}
use Rattle.std.proofs.lemmas.List.{map-append}
use Rattle.label_book.specs.declared.binding.Binding.{Binding}
use Rattle.labels.specs.declared.txn_state.TxnState.TheVariants as state
use Rattle.label_book.specs.Labels.{bound}
use Rattle.front_defs.specs.Transactions.{is_committed}
use Rattle.txn_core.specs.declared.info.TxnInfo.{TxnInfo}
use Rattle.txn_core.specs.declared.waiter.Waiter.{Waiter}
use Rattle.txn_core.specs.Queue.{IsIndexed, binding}
use Rattle.txn_core.proofs.Puts.{ascending_snoc, below_snoc}
use Rattle.txn_core.proofs.Queued.{queue_begins}

length_snoc : (ks : List TxnInfo) (k : TxnInfo) → length (ks ++ k ∷ []) ≡ length ks + 1
length_snoc [] k = refl
length_snoc (u ∷ us) k = let h = length_snoc us k in omega (arith, h)

pub begins_indexed : (ks : List TxnInfo) (k : TxnInfo) (book : List Binding) (q : List Waiter) (room next places : ℕ) → k.id ≡ next → k.state ≡ state.Prepare → length ks + 1 ≤ room → IsIndexed ks book q room next places → IsIndexed (ks ++ k ∷ []) (book ++ bound k.db k.label k.id ∷ []) q room (next + 1) places
begins_indexed ks k book q room next places same begins more h =
    let b : bound k.db k.label k.id ≡ binding k = rw begins refl in
    let off : is_committed k.state ≡ false = rw begins refl in
    record {
      ascends = ascending_snoc next ks k same h.ascends h.below;
      below = below_snoc next ks k same h.below;
      labels = ap (λ (bs : List Binding). bs ++ bound k.db k.label k.id ∷ []) h.labels ∙ ap (λ (x : Binding). map binding ks ++ x ∷ []) b ∙ sym (map-append binding ks (k ∷ []));
      queued = queue_begins ks k q places off h.queued;
      room = let z = length_snoc ks k in omega (arith, z, more);
    }
