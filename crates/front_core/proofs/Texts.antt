-- What refusals and ends leave, as contracts see it.
use Rattle.std.proofs.Common.{◌≡◌, ℕ, List, Option, Some, None, Result, Ok, Err, OnOk, inl, inr, refl, sym, ◌∙◌, ap, subst}
use Rattle.dl_values.specs.declared.cell.Cell.{Cell}
use Rattle.labels.specs.declared.txn_state.TxnState.TheVariants as state
use Rattle.sql_text.specs.declared.table_def.TableDef.{TableDef}
use Rattle.table_defs.specs.Defined.{def_fault}
use Rattle.table_defs.specs.declared.def_error.DefError.{DefError}
use Rattle.front_defs.specs.Answer.{refused_by}
use Rattle.front_defs.specs.declared.reply.Reply.{Reply}
use Rattle.front_defs.specs.declared.reply.Reply.TheVariants as reply
use Rattle.front_defs.specs.declared.txn.Txn.{Txn}
use Rattle.front_defs.specs.History.{Faulted, Well, outcome}
use Rattle.front_defs.specs.Stands.{TableTablets, View, waiting_for}
use Rattle.front_defs.specs.Stored.{PlacedRows}
use Rattle.front_defs.specs.Transactions.{due}
use Rattle.txn_core.specs.declared.info.TxnInfo.{TxnInfo}
use Rattle.front_core.specs.Parts.{IsPublished, StoresSets, with_end}
use Rattle.front_core.specs.Refused.{RefusesDef}
use Rattle.txn_core.specs.Seen.{seen, sets_in}

pub on_ok : {T E : Type 0} (r : Result T E) (P Q : Type 0) → (P → Q) → OnOk r P → OnOk r Q
on_ok (Ok x) P Q f h = f h
on_ok (Err e) P Q f h = tt

-- a refusal is no Ok
pub refused_not_well : (table : List ℕ) (def : TableDef) (r : Reply) → RefusesDef table def r → outcome r ≡ Well → ⊥
refused_not_well table def r (inl e) w = absurd (cc (w, ap outcome e))
refused_not_well table def r (inr e) w = by_fault (def_fault table def) e
  where
    by_fault : (o : Option DefError) → refused_by o ≡ Some r → ⊥
    by_fault None f = absurd (cc)
    by_fault (Some x) f = let i : r ≡ reply.BadTable x = cc in absurd (cc (w, ap outcome i))

-- nor a fault of a keeper
pub refused_no_fault : (table : List ℕ) (def : TableDef) (r : Reply) → RefusesDef table def r → outcome r ≡ Faulted → ⊥
refused_no_fault table def r (inl e) w = absurd (cc (w, ap outcome e))
refused_no_fault table def r (inr e) w = by_fault (def_fault table def) e
  where
    by_fault : (o : Option DefError) → refused_by o ≡ Some r → ⊥
    by_fault None f = absurd (cc)
    by_fault (Some x) f = let i : r ≡ reply.BadTable x = cc in absurd (cc (w, ap outcome i))

-- what a Publish leaves
pub published_by : (at : ℕ) (old : View) (k : TxnInfo) (tablets : List TableTablets) (new : View) → Some (seen k) ≡ due old.txns → waiting_for k.id 0 old.waiting ≡ sets_in k.held → StoresSets k.table (sets_in k.held) old.tablets tablets → new ≡ record (with_end k.id state.Visible at old) { tablets = tablets } → IsPublished at old new
published_by at old k tablets new f w t e =
    let same : tablets ≡ new.tablets = ap (λ (v : View). v.tablets) (sym e) in
    record {
      load = seen k;
      due_is = sym f;
      stored = subst (λ (ts : List TableTablets). StoresSets k.table (waiting_for k.id 0 old.waiting) old.tablets ts) same (rw w t);
      rest = e ∙ ap (λ (ts : List TableTablets). record (with_end k.id state.Visible at old) { tablets = ts }) same;
    }
