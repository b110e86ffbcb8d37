-- The refusals of a label, of a definition and of the transactions.
use Rattle.std.specs.Prelude.{◌≡◌, ℕ, Bool, List, Option, Some, ◌⊎◌}
use Rattle.front_defs.specs.declared.catalogue.Table.{Table}
use Rattle.front_defs.specs.declared.reply.Reply.{Reply}
use Rattle.front_defs.specs.declared.reply.Reply.TheVariants as reply
use Rattle.front_defs.specs.Answer.{refused_def}
use Rattle.sql_text.specs.declared.table_def.TableDef.{TableDef}
use Rattle.txn_core.specs.declared.error.TxnError.{TxnError}
use Rattle.txn_core.specs.declared.error.TxnError.TheVariants as error
use Rattle.txn_core.specs.declared.start.TxnStart.{TxnStart}

-- what a load of a table begins with
abbrev pub start_of : Table → Option (List ℕ) → Bool → ℕ → TxnStart
start_of t label two_phase at = record { db = t.db; table = t.number; label = label; two_phase = two_phase; schema = t.schema; at = at }

-- the reply that tells a refusal
abbrev pub reply_for : TxnError → Reply
reply_for (error.Used txn s) = reply.Used txn s
reply_for error.NoSuchTxn = reply.NoSuchTxn
reply_for (error.WrongState s) = reply.WrongState s
reply_for (error.Expired since) = reply.Expired since
reply_for error.NothingToPublish = reply.NothingToPublish
reply_for error.NothingToSweep = reply.NothingToSweep
reply_for error.NoMemory = reply.NoMemory

-- want of memory, or the refusal of this definition
abbrev pub RefusesDef : List ℕ → TableDef → Reply → Type 0
RefusesDef table def r = (r ≡ reply.NoMemory) ⊎ (refused_def table def ≡ Some r)
