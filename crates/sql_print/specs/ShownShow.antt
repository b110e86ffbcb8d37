-- The tokens of SHOW, DESC and ADMIN.
use Rattle.std.specs.Prelude.{ℕ, pos, List, [], ◌∷◌, codes}
use Rattle.sql_tokens.specs.declared.token.Sign.TheVariants as sign
use Rattle.sql_tokens.specs.declared.token.TokenKind.{TokenKind}
use Rattle.sql_tokens.specs.declared.token.TokenKind.TheVariants as kind
use Rattle.sql_text.specs.declared.stmt.AlterKind.{AlterKind}
use Rattle.sql_text.specs.declared.stmt.AdminTask.{AdminTask}
use Rattle.sql_text.specs.declared.stmt.AdminTask.TheVariants as task
use Rattle.sql_text.specs.declared.stmt.TransactionKey.{TransactionKey}
use Rattle.sql_text.specs.declared.stmt.TransactionKey.TheVariants as key
use Rattle.sql_print.specs.ShownAlter.{kind_tokens}

unfoldable pub show_tables_tokens : List TokenKind
show_tables_tokens = kind.Word (codes "SHOW") ∷ kind.Word (codes "TABLES") ∷ []

unfoldable pub show_partitions_tokens : List ℕ → List TokenKind
show_partitions_tokens n = kind.Word (codes "SHOW") ∷ kind.Word (codes "PARTITIONS") ∷ kind.Word (codes "FROM") ∷ kind.Quoted n ∷ []

unfoldable pub show_alter_tokens : AlterKind → List TokenKind
show_alter_tokens k = kind.Word (codes "SHOW") ∷ kind.Word (codes "ALTER") ∷ kind.Word (codes "TABLE") ∷ kind_tokens k

unfoldable pub transaction_tokens : TransactionKey → List TokenKind
transaction_tokens (key.Id n) = kind.Word (codes "ID") ∷ kind.Sign sign.Equal ∷ kind.Int (pos n) ∷ []
transaction_tokens (key.Label t) = kind.Word (codes "LABEL") ∷ kind.Sign sign.Equal ∷ kind.Text t ∷ []

unfoldable pub show_transaction_tokens : TransactionKey → List TokenKind
show_transaction_tokens k = kind.Word (codes "SHOW") ∷ kind.Word (codes "TRANSACTION") ∷ kind.Word (codes "WHERE") ∷ transaction_tokens k

unfoldable pub describe_tokens : List ℕ → List TokenKind
describe_tokens n = kind.Word (codes "DESC") ∷ kind.Quoted n ∷ kind.Word (codes "ALL") ∷ []

unfoldable pub task_word : AdminTask → List ℕ
task_word task.Publish = codes "PUBLISH"
task_word task.Advance = codes "ADVANCE"
task_word task.Convert = codes "CONVERT"
task_word task.Sweep = codes "SWEEP"
task_word task.Compact = codes "COMPACT"
task_word task.Checkpoint = codes "CHECKPOINT"
task_word task.Restart = codes "RESTART"

unfoldable pub admin_tokens : AdminTask → List TokenKind
admin_tokens t = kind.Word (codes "ADMIN") ∷ kind.Word (task_word t) ∷ []

unfoldable pub audit_drop_tokens : ℕ → List TokenKind
audit_drop_tokens n = kind.Word (codes "ADMIN") ∷ kind.Word (codes "AUDIT") ∷ kind.Word (codes "DROP") ∷ kind.Int (pos n) ∷ []
