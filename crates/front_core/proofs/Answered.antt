-- The replies of the commands of a load, by what was found.
use Rattle.std.proofs.Common.{◌≡◌, ℕ, ◌+◌, true, false, List, [], ◌∷◌, Option, Some, None, inl, inr, ◌⊎◌, refl, sym, ◌∙◌, ap, subst}
use Rattle.schema_models.specs.Faults.{first_of, refuse_if}
use Rattle.alter_core.specs.declared.job.JobInfo.{JobInfo}
use Rattle.front_defs.specs.declared.catalogue.Table.{Table}
use Rattle.front_defs.specs.declared.command.TxnKey.{TxnKey}
use Rattle.front_defs.specs.declared.reply.Reply.{Reply}
use Rattle.front_defs.specs.declared.reply.Reply.TheVariants as reply
use Rattle.front_defs.specs.declared.txn.Txn.{Txn}
use Rattle.front_defs.specs.Answer.{BegunFor, Begins, CommittedFor, bad_label, label_for, placed_for, plan_of, submit_refusals, used}
use Rattle.front_defs.specs.Catalogue.{has_db, is_named, table_named}
use Rattle.front_defs.specs.Refusals.{Answers}
use Rattle.front_defs.specs.Stands.{View}
use Rattle.front_defs.specs.Stored.{PlacedRows}
use Rattle.front_defs.specs.Transactions.{ahead_of, label_of, txn_by}
use Rattle.front_laws.proofs.Submitting.{named_db, table_passes}
use Rattle.dl_values.specs.declared.cell.Cell.{Cell}
use Rattle.txn_core.specs.Refusals.{RefusesBegin, commit_fault, submit_fault, used_by}
use Rattle.txn_core.specs.declared.error.TxnError.{TxnError}
use Rattle.front_core.specs.Parts.{Commits, TakesRows, with_rows}
use Rattle.front_core.specs.Refused.{reply_for}
use Rattle.front_core.proofs.Refusals.{commit_answered, used_free, used_told}

-- a Commit that is answered well
pub commits_at : (db : List ℕ) (key : TxnKey) (at : ℕ) (dbs : List (List ℕ)) (txns : List Txn) (last : ℕ) (t : Txn) (r : Reply) → has_db db dbs ≡ true → txn_by db key txns ≡ Some t → commit_fault at (Some t) ≡ None → r ≡ reply.Committed t.id (last + 1) (ahead_of (last + 1) txns) → Commits db key at dbs txns last r
commits_at db key at dbs txns last t r known found free is = rw (known, found) (commit_answered at (Some t) (CommittedFor (Some t) txns last) r is free)

-- a Begin, of a table that is there and with a label that may be one
db_of_named : (db table : List ℕ) (tables : List Table) (t : Table) → table_named db table tables ≡ Some t → t.db ≡ db
db_of_named db table tables t found = named_db db table t (table_passes (is_named db table) tables t found)

pub begins_at : (db table : List ℕ) (label : Option (List ℕ)) (dbs : List (List ℕ)) (tables : List Table) (txns : List Txn) (jobs : List JobInfo) (next : ℕ) (t : Table) (r : Reply) → has_db db dbs ≡ true → table_named db table tables ≡ Some t → bad_label label ≡ None → used_by (label_of t.db (label_for label next) txns) ≡ None → r ≡ reply.Begun next (plan_of next t jobs) → Begins db table label dbs tables txns jobs next r
begins_at db table label dbs tables txns jobs next t r known found fits free is =
    let here : used (label_of db (label_for label next) txns) ≡ None = used_free (label_of db (label_for label next) txns) (subst (λ (d : List ℕ). used_by (label_of d (label_for label next) txns) ≡ None) (db_of_named db table tables t found) free) in
    rw (known, found, fits, here) (inr is)

pub begin_refused : (db table : List ℕ) (label : Option (List ℕ)) (dbs : List (List ℕ)) (tables : List Table) (txns : List Txn) (jobs : List JobInfo) (next : ℕ) (t : Table) (e : TxnError) (r : Reply) → has_db db dbs ≡ true → table_named db table tables ≡ Some t → bad_label label ≡ None → RefusesBegin (label_of t.db (label_for label next) txns) e → r ≡ reply_for e → Begins db table label dbs tables txns jobs next r
begin_refused db table label dbs tables txns jobs next t e r known found fits (inl m) is = inl (is ∙ ap reply_for m)
begin_refused db table label dbs tables txns jobs next t e r known found fits (inr u) is =
    let here : used (label_of db (label_for label next) txns) ≡ Some (reply_for e) = used_told (label_of db (label_for label next) txns) e (subst (λ (d : List ℕ). used_by (label_of d (label_for label next) txns) ≡ Some e) (db_of_named db table tables t found) u) in
    rw (known, found, fits, here) (inr is)

-- a Submit that is answered well finds its load
pub takes_at : (o : Option Txn) (id at : ℕ) (rows : List (List Cell)) (sets : List PlacedRows) (old new : View) → submit_fault at o ≡ None → new ≡ with_rows id (placed_for o old.txns old.places) rows sets at old → TakesRows o id rows sets at old new
takes_at None id at rows sets old new free is = absurd (cc)
takes_at (Some t) id at rows sets old new free is = is
