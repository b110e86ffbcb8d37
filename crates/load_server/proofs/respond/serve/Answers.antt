use Rattle.std.proofs.Common.{◌∙◌, refl, sym, ap, ℕ}
use Rattle.front_defs.specs.declared.command.TxnKey.{TxnKey}
use Rattle.load_server.specs.Scripts.{ending, loading, script_of}
use Rattle.load_server.proofs.Going.{answered_now, by_any, by_as}
use Rattle.load_server.proofs.respond.serve.Goals as goal

pub returns-in-Unknown : goal.returns-in-Unknown
returns-in-Unknown g c = λ seen own s.
    by_as _ seen own _ _ _ (λ b. ap (script_of b c.args.at c.args.body.items) c.in-Unknown.is) (by_any _ seen own _ _ (answered_now _ seen own _ _ s (refl, refl)))

pub returns-in-Load : goal.returns-in-Load
returns-in-Load g c = λ seen own s.
    by_as _ seen own _ _ _
    (λ b. ap (script_of b c.args.at c.args.body.items) c.in-Load.is
    ∙ ap (λ (n : ℕ). loading b (record { db = c.in-Load.db; sent = record { label = c.in-Load.label; bytes = n }; two_phase = c.in-Load.two_phase; options = c.in-Load.options; at = c.args.at }) c.in-Load.table c.args.body.items) (sym (c.len-bytes.ensures ∙ c.args.body.ok.0)))
    (c.load.ensures seen own s)

pub returns-in-BadLoad : goal.returns-in-BadLoad
returns-in-BadLoad g c = λ seen own s.
    by_as _ seen own _ _ _ (λ b. ap (script_of b c.args.at c.args.body.items) c.in-BadLoad.is) (by_any _ seen own _ _ (answered_now _ seen own _ _ s c.refused_load.ensures))

pub returns-in-End : goal.returns-in-End
returns-in-End g c = λ seen own s.
    by_as _ seen own _ _ _ (λ b. ap (script_of b c.args.at c.args.body.items) c.in-End.is ∙ ap (λ (x : TxnKey). ending c.in-End.db x c.in-End.commit c.args.at) (sym c.txn_key.ensures)) (by_any _ seen own _ _ (c.end.ensures seen own s))

pub returns-in-BadEnd : goal.returns-in-BadEnd
returns-in-BadEnd g c = λ seen own s.
    by_as _ seen own _ _ _ (λ b. ap (script_of b c.args.at c.args.body.items) c.in-BadEnd.is) (by_any _ seen own _ _ (answered_now _ seen own _ _ s c.refused_end.ensures))

pub returns-in-CreateDb : goal.returns-in-CreateDb
returns-in-CreateDb g c = λ seen own s.
    by_as _ seen own _ _ _ (λ b. ap (script_of b c.args.at c.args.body.items) c.in-CreateDb.is) (by_any _ seen own _ _ (c.create_db.ensures seen own s))

pub returns-in-CreateTable : goal.returns-in-CreateTable
returns-in-CreateTable g c = λ seen own s.
    by_as _ seen own _ _ _ (λ b. ap (script_of b c.args.at c.args.body.items) c.in-CreateTable.is) (by_any _ seen own _ _ (c.create_table.ensures seen own s))

pub returns-in-Select : goal.returns-in-Select
returns-in-Select g c = λ seen own s.
    by_as _ seen own _ _ _ (λ b. ap (script_of b c.args.at c.args.body.items) c.in-Select.is) (by_any _ seen own _ _ (c.select.ensures seen own s))

pub returns-in-BadStatement : goal.returns-in-BadStatement
returns-in-BadStatement g c = λ seen own s.
    by_as _ seen own _ _ _ (λ b. ap (script_of b c.args.at c.args.body.items) c.in-BadStatement.is) (by_any _ seen own _ _ (answered_now _ seen own _ _ s c.bad_statement.ensures))
