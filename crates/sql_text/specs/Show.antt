-- SHOW, DESC and ADMIN (Apache Doris documentation, "SHOW ALTER TABLE", "SHOW PARTITIONS", "SHOW TABLES",
-- "SHOW TRANSACTION", "DESCRIBE"; the tasks of ADMIN are this project's own).
use Rattle.std.specs.Prelude.{codes}
use Rattle.sql_tokens.specs.declared.token.Sign.TheVariants as sign
use Rattle.sql_text.specs.declared.stmt.Stmt.{Stmt}
use Rattle.sql_text.specs.declared.stmt.Stmt.TheVariants as stmt
use Rattle.sql_text.specs.declared.stmt.AdminTask.{AdminTask}
use Rattle.sql_text.specs.declared.stmt.AdminTask.TheVariants as task
use Rattle.sql_text.specs.declared.stmt.TransactionKey.{TransactionKey}
use Rattle.sql_text.specs.declared.stmt.TransactionKey.TheVariants as key
use Rattle.sql_grammar.specs.Lang.{Lang, Is, Or, Word, Sign_, Means, ◌>>=◌, ◌>>◌}
use Rattle.sql_text.specs.Names.{Name, Count, String}
use Rattle.sql_text.specs.Alter.{Kind}

-- PARTITIONS FROM name
unfoldable pub ShowPartitions : Lang Stmt
ShowPartitions = do
  Word (codes "PARTITIONS")
  Word (codes "FROM")
  n ← Name
  Is (stmt.ShowPartitions n)

-- ALTER TABLE (COLUMN | ROLLUP)
unfoldable pub ShowAlter : Lang Stmt
ShowAlter = do
  Word (codes "ALTER")
  Word (codes "TABLE")
  k ← Kind
  Is (stmt.ShowAlter k)

-- ID '=' integer | LABEL '=' string
unfoldable pub ById : Lang TransactionKey
ById = do
  Word (codes "ID")
  Sign_ sign.Equal
  n ← Count
  Is (key.Id n)

unfoldable pub ByLabel : Lang TransactionKey
ByLabel = do
  Word (codes "LABEL")
  Sign_ sign.Equal
  t ← String
  Is (key.Label t)

-- TRANSACTION WHERE (ID '=' integer | LABEL '=' string)
unfoldable pub ShowTransaction : Lang Stmt
ShowTransaction = do
  Word (codes "TRANSACTION")
  Word (codes "WHERE")
  k ← Or ById ByLabel
  Is (stmt.ShowTransaction k)

-- SHOW (TABLES | PARTITIONS .. | ALTER TABLE .. | TRANSACTION ..)
unfoldable pub Show : Lang Stmt
Show = Word (codes "SHOW") >> Or (Means (codes "TABLES") stmt.ShowTables) (Or ShowPartitions (Or ShowAlter ShowTransaction))

-- DESC name ALL
unfoldable pub Describe : Lang Stmt
Describe = do
  Word (codes "DESC")
  n ← Name
  Word (codes "ALL")
  Is (stmt.Describe n)

-- PUBLISH | ADVANCE | CONVERT | SWEEP | COMPACT | CHECKPOINT | RESTART
unfoldable pub Task : Lang AdminTask
Task =
    Or (Means (codes "PUBLISH") task.Publish)
    (Or (Means (codes "ADVANCE") task.Advance)
    (Or (Means (codes "CONVERT") task.Convert)
    (Or (Means (codes "SWEEP") task.Sweep)
    (Or (Means (codes "COMPACT") task.Compact)
    (Or (Means (codes "CHECKPOINT") task.Checkpoint) (Means (codes "RESTART") task.Restart))))))

-- AUDIT DROP integer
unfoldable pub AuditDrop : Lang Stmt
AuditDrop = do
  Word (codes "AUDIT")
  Word (codes "DROP")
  n ← Count
  Is (stmt.AuditDrop n)

-- ADMIN (PUBLISH | .. | AUDIT DROP integer)
unfoldable pub Admin : Lang Stmt
Admin = Word (codes "ADMIN") >> Or AuditDrop (Task >>= λ t. Is (stmt.Admin t))
