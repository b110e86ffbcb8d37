-- What refuses a call of the transactions refuses the command.
use Rattle.std.proofs.Common.{◌≡◌, ℕ, Bool, true, false, List, [], ◌∷◌, Option, Some, None, inl, inr, ◌⊎◌, refl, sym, ◌∙◌, ap}
use Rattle.schema_models.specs.Faults.{first_of, refuse_if}
use Rattle.front_defs.specs.declared.reply.Reply.{Reply}
use Rattle.front_defs.specs.declared.txn.Txn.{Txn}
use Rattle.front_defs.specs.Answer.{abort_refusals, commit_refusals, submit_refusals, used}
use Rattle.front_defs.specs.Refusals.{Answers}
use Rattle.front_defs.specs.Transactions.{is_aborted, is_precommitted, is_prepare}
use Rattle.txn_core.specs.Refusals.{abort_fault, commit_fault, submit_fault, used_by}
use Rattle.txn_core.specs.declared.error.TxnError.{TxnError}
use Rattle.txn_core.specs.declared.error.TxnError.TheVariants as error
use Rattle.front_core.specs.Refused.{reply_for}

one_told : (b : Bool) (x e : TxnError) → first_of (refuse_if b x ∷ []) ≡ Some e → first_of (refuse_if b (reply_for x) ∷ []) ≡ Some (reply_for e)
one_told true x e h = let i : x ≡ e = cc in ap (λ (z : TxnError). Some (reply_for z)) i
one_told false x e h = absurd (cc)

one_none : (b : Bool) (x : TxnError) → first_of (refuse_if b x ∷ []) ≡ None → first_of (refuse_if b (reply_for x) ∷ []) ≡ None
one_none true x h = absurd (cc)
one_none false x h = refl

two_told : (b c : Bool) (x y e : TxnError) → first_of (refuse_if b x ∷ refuse_if c y ∷ []) ≡ Some e → first_of (refuse_if b (reply_for x) ∷ refuse_if c (reply_for y) ∷ []) ≡ Some (reply_for e)
two_told true c x y e h = let i : x ≡ e = cc in ap (λ (z : TxnError). Some (reply_for z)) i
two_told false c x y e h = one_told c y e h

two_none : (b c : Bool) (x y : TxnError) → first_of (refuse_if b x ∷ refuse_if c y ∷ []) ≡ None → first_of (refuse_if b (reply_for x) ∷ refuse_if c (reply_for y) ∷ []) ≡ None
two_none true c x y h = absurd (cc)
two_none false c x y h = one_none c y h

none_told : (e : TxnError) → Some error.NoSuchTxn ≡ Some e → Some (reply_for error.NoSuchTxn) ≡ Some (reply_for e)
none_told e h = let i : error.NoSuchTxn ≡ e = cc in ap (λ (z : TxnError). Some (reply_for z)) i

-- Submit
submit_told : (at : ℕ) (o : Option Txn) (e : TxnError) → submit_fault at o ≡ Some e → first_of (submit_refusals at o) ≡ Some (reply_for e)
submit_told at None e h = none_told e h
submit_told at (Some t) e h = two_told _ _ (error.WrongState t.state) (error.Expired t.since) e h

submit_free : (at : ℕ) (o : Option Txn) → submit_fault at o ≡ None → first_of (submit_refusals at o) ≡ None
submit_free at None h = absurd (cc)
submit_free at (Some t) h = two_none _ _ (error.WrongState t.state) (error.Expired t.since) h

refused_as : (q : List (Option Reply)) (ok : Reply → Type 0) (e : TxnError) (r : Reply) → r ≡ reply_for e → first_of q ≡ Some (reply_for e) → Answers q ok r
refused_as q ok e r is f = inr (rw f is)

answered_as : (q : List (Option Reply)) (ok : Reply → Type 0) (r : Reply) → ok r → first_of q ≡ None → Answers q ok r
answered_as q ok r h f = inr (rw f h)

pub submit_refused : (at : ℕ) (o : Option Txn) (ok : Reply → Type 0) (e : TxnError) (r : Reply) → r ≡ reply_for e → (e ≡ error.NoMemory) ⊎ (submit_fault at o ≡ Some e) → Answers (submit_refusals at o) ok r
submit_refused at o ok e r is (inl m) = inl (is ∙ ap reply_for m)
submit_refused at o ok e r is (inr f) = refused_as (submit_refusals at o) ok e r is (submit_told at o e f)

pub submit_answered : (at : ℕ) (o : Option Txn) (ok : Reply → Type 0) (r : Reply) → ok r → submit_fault at o ≡ None → Answers (submit_refusals at o) ok r
submit_answered at o ok r h f = answered_as (submit_refusals at o) ok r h (submit_free at o f)

-- Commit
commit_told : (at : ℕ) (o : Option Txn) (e : TxnError) → commit_fault at o ≡ Some e → first_of (commit_refusals at true o) ≡ Some (reply_for e)
commit_told at None e h = none_told e h
commit_told at (Some t) e h = two_told _ _ (error.WrongState t.state) (error.Expired t.since) e h

commit_free : (at : ℕ) (o : Option Txn) → commit_fault at o ≡ None → first_of (commit_refusals at true o) ≡ None
commit_free at None h = absurd (cc)
commit_free at (Some t) h = two_none _ _ (error.WrongState t.state) (error.Expired t.since) h

pub commit_refused : (at : ℕ) (o : Option Txn) (ok : Reply → Type 0) (e : TxnError) (r : Reply) → r ≡ reply_for e → (e ≡ error.NoMemory) ⊎ (commit_fault at o ≡ Some e) → Answers (commit_refusals at true o) ok r
commit_refused at o ok e r is (inl m) = inl (is ∙ ap reply_for m)
commit_refused at o ok e r is (inr f) = refused_as (commit_refusals at true o) ok e r is (commit_told at o e f)

pub commit_answered : (at : ℕ) (o : Option Txn) (ok : Reply → Type 0) (r : Reply) → ok r → commit_fault at o ≡ None → Answers (commit_refusals at true o) ok r
commit_answered at o ok r h f = answered_as (commit_refusals at true o) ok r h (commit_free at o f)

-- Abort
abort_told : (o : Option Txn) (e : TxnError) → abort_fault o ≡ Some e → first_of (abort_refusals true o) ≡ Some (reply_for e)
abort_told None e h = none_told e h
abort_told (Some t) e h = one_told _ (error.WrongState t.state) e h

abort_free : (o : Option Txn) → abort_fault o ≡ None → first_of (abort_refusals true o) ≡ None
abort_free None h = absurd (cc)
abort_free (Some t) h = one_none _ (error.WrongState t.state) h

pub abort_refused : (o : Option Txn) (ok : Reply → Type 0) (e : TxnError) (r : Reply) → r ≡ reply_for e → abort_fault o ≡ Some e → Answers (abort_refusals true o) ok r
abort_refused o ok e r is f = refused_as (abort_refusals true o) ok e r is (abort_told o e f)

pub abort_answered : (o : Option Txn) (ok : Reply → Type 0) (r : Reply) → ok r → abort_fault o ≡ None → Answers (abort_refusals true o) ok r
abort_answered o ok r h f = answered_as (abort_refusals true o) ok r h (abort_free o f)

-- Begin: a label that is used
used_step : (b : Bool) (x e : TxnError) → refuse_if b x ≡ Some e → refuse_if b (reply_for x) ≡ Some (reply_for e)
used_step true x e h = let i : x ≡ e = cc in ap (λ (z : TxnError). Some (reply_for z)) i
used_step false x e h = absurd (cc)

pub used_told : (o : Option Txn) (e : TxnError) → used_by o ≡ Some e → used o ≡ Some (reply_for e)
used_told None e h = absurd (cc)
used_told (Some t) e h = used_step _ (error.Used t.id t.state) e h

free_step : (b : Bool) (x : TxnError) → refuse_if b x ≡ None → refuse_if b (reply_for x) ≡ None
free_step true x h = absurd (cc)
free_step false x h = refl

pub used_free : (o : Option Txn) → used_by o ≡ None → used o ≡ None
used_free None h = refl
used_free (Some t) h = free_step _ (error.Used t.id t.state) h
