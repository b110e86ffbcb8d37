-- Reading SHOW, DESC and ADMIN.
use Rattle.std.specs.Prelude.{codes}
use Rattle.sql_tokens.specs.declared.token.Sign.TheVariants as sign
use Rattle.sql_text.specs.declared.stmt.Stmt.{Stmt}
use Rattle.sql_text.specs.declared.stmt.Stmt.TheVariants as stmt
use Rattle.sql_text.specs.declared.stmt.AdminTask.{AdminTask}
use Rattle.sql_text.specs.declared.stmt.AdminTask.TheVariants as task
use Rattle.sql_text.specs.declared.stmt.TransactionKey.{TransactionKey}
use Rattle.sql_text.specs.declared.stmt.TransactionKey.TheVariants as key
use Rattle.sql_grammar.specs.Marks.{marked_word}
use Rattle.sql_grammar.specs.Reading.{Reader, is, either, one, word_at, sign_at, name_at, count_at, text_at, means_at, ◌>>=◌, ◌>>◌}
use Rattle.sql_text.specs.ReadNames.{word_or}
use Rattle.sql_text.specs.ReadAlter.{kind_at}

-- behind SHOW PARTITIONS
unfoldable pub partitions_at : Reader Stmt
partitions_at = do
  word_at (codes "FROM")
  n ← name_at
  is (stmt.ShowPartitions n)

unfoldable pub show_partitions_at : Reader Stmt
show_partitions_at = word_at (codes "PARTITIONS") >> partitions_at

-- behind SHOW ALTER
unfoldable pub alter_jobs_at : Reader Stmt
alter_jobs_at = do
  word_at (codes "TABLE")
  k ← kind_at
  is (stmt.ShowAlter k)

unfoldable pub show_alter_at : Reader Stmt
show_alter_at = word_at (codes "ALTER") >> alter_jobs_at

-- behind ID
unfoldable pub id_at : Reader TransactionKey
id_at = do
  sign_at sign.Equal
  n ← count_at
  is (key.Id n)

unfoldable pub by_id_at : Reader TransactionKey
by_id_at = word_at (codes "ID") >> id_at

unfoldable pub by_label_at : Reader TransactionKey
by_label_at = do
  word_at (codes "LABEL")
  sign_at sign.Equal
  t ← text_at
  is (key.Label t)

unfoldable pub key_at : Reader TransactionKey
key_at = either (one (marked_word (codes "ID"))) by_id_at by_label_at

unfoldable pub show_transaction_at : Reader Stmt
show_transaction_at = do
  word_at (codes "TRANSACTION")
  word_at (codes "WHERE")
  k ← key_at
  is (stmt.ShowTransaction k)

-- behind SHOW
unfoldable pub shown_at : Reader Stmt
shown_at =
    word_or (codes "TABLES") stmt.ShowTables
    (either (one (marked_word (codes "PARTITIONS"))) show_partitions_at
    (either (one (marked_word (codes "ALTER"))) show_alter_at show_transaction_at))

unfoldable pub show_at : Reader Stmt
show_at = word_at (codes "SHOW") >> shown_at

-- behind DESC
unfoldable pub described_at : Reader Stmt
described_at = do
  n ← name_at
  word_at (codes "ALL")
  is (stmt.Describe n)

unfoldable pub describe_at : Reader Stmt
describe_at = word_at (codes "DESC") >> described_at

unfoldable pub task_at : Reader AdminTask
task_at =
    word_or (codes "PUBLISH") task.Publish
    (word_or (codes "ADVANCE") task.Advance
    (word_or (codes "CONVERT") task.Convert
    (word_or (codes "SWEEP") task.Sweep
    (word_or (codes "COMPACT") task.Compact
    (word_or (codes "CHECKPOINT") task.Checkpoint (means_at (codes "RESTART") task.Restart))))))

-- behind ADMIN AUDIT
unfoldable pub audit_at : Reader Stmt
audit_at = do
  word_at (codes "DROP")
  n ← count_at
  is (stmt.AuditDrop n)

unfoldable pub audit_drop_at : Reader Stmt
audit_drop_at = word_at (codes "AUDIT") >> audit_at

unfoldable pub admin_at : Reader Stmt
admin_at = word_at (codes "ADMIN") >> either (one (marked_word (codes "AUDIT"))) audit_drop_at (task_at >>= λ t. is (stmt.Admin t))
