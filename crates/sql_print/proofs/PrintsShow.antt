-- SHOW, DESC and ADMIN are written so that they are read again.
use Rattle.std.proofs.Common.{◌≡◌, [], ◌∷◌, refl, codes}
use Rattle.sql_tokens.specs.declared.token.Sign.TheVariants as sign
use Rattle.sql_tokens.specs.declared.token.TokenKind.TheVariants as kind
use Rattle.sql_text.specs.declared.stmt.Stmt.TheVariants as stmt
use Rattle.sql_text.specs.declared.stmt.AdminTask.TheVariants as task
use Rattle.sql_text.specs.declared.stmt.TransactionKey.TheVariants as key
use Rattle.sql_text.specs.Show.{ShowPartitions, ShowAlter, ById, ByLabel, ShowTransaction, Show, Describe, Task, AuditDrop, Admin}
use Rattle.sql_print.specs.Parts.{keyword}
use Rattle.sql_print.specs.ShownShow.{show_tables_tokens, show_partitions_tokens, show_alter_tokens, transaction_tokens, show_transaction_tokens, describe_tokens, task_word, admin_tokens, audit_drop_tokens}
use Rattle.sql_print.specs.Shown.{shown}
use Rattle.sql_print.proofs.Prints.{Prints, By, is, part, last, or}
use Rattle.sql_print.proofs.PrintsTokens.{word, sign_then, means, name_prints, count_prints, string_prints}
use Rattle.sql_print.proofs.PrintsAlter.{kind_prints}

partitions_print : Prints ShowPartitions (λ s ks. kind.Word (codes "SHOW") ∷ ks ≡ shown s)
unfolding ShowPartitions shown show_partitions_tokens
partitions_print = word (codes "PARTITIONS") (refl, refl) (word (codes "FROM") (refl, refl) (last stmt.ShowPartitions name_prints (λ n. refl)))

show_alter_prints : Prints ShowAlter (λ s ks. kind.Word (codes "SHOW") ∷ ks ≡ shown s)
unfolding ShowAlter shown show_alter_tokens
show_alter_prints = word (codes "ALTER") (refl, refl) (word (codes "TABLE") (refl, refl) (last stmt.ShowAlter kind_prints (λ k. refl)))

by_id_prints : Prints ById (By transaction_tokens)
unfolding ById transaction_tokens
by_id_prints = word (codes "ID") (refl, refl) (sign_then sign.Equal (last key.Id count_prints (λ n. refl)))

by_label_prints : Prints ByLabel (By transaction_tokens)
unfolding ByLabel transaction_tokens
by_label_prints = word (codes "LABEL") (refl, refl) (sign_then sign.Equal (last key.Label string_prints (λ t. refl)))

transaction_prints : Prints ShowTransaction (λ s ks. kind.Word (codes "SHOW") ∷ ks ≡ shown s)
unfolding ShowTransaction shown show_transaction_tokens
transaction_prints = word (codes "TRANSACTION") (refl, refl) (word (codes "WHERE") (refl, refl) (last stmt.ShowTransaction (or by_id_prints by_label_prints) (λ k. refl)))

tables_print : kind.Word (codes "SHOW") ∷ kind.Word (codes "TABLES") ∷ [] ≡ shown stmt.ShowTables
unfolding shown show_tables_tokens
tables_print = refl

pub show_prints : Prints Show (By shown)
unfolding Show
show_prints =
    word (codes "SHOW") (refl, refl)
    (or (means (codes "TABLES") (refl, refl) stmt.ShowTables tables_print) (or partitions_print (or show_alter_prints transaction_prints)))

pub describe_prints : Prints Describe (By shown)
unfolding Describe shown describe_tokens
describe_prints = word (codes "DESC") (refl, refl) (part name_prints (λ n. word (codes "ALL") (refl, refl) (is _ (stmt.Describe n) refl)))

task_prints : Prints Task (By (λ t. keyword (task_word t)))
unfolding Task task_word
task_prints =
    or (means (codes "PUBLISH") (refl, refl) task.Publish refl)
    (or (means (codes "ADVANCE") (refl, refl) task.Advance refl)
    (or (means (codes "CONVERT") (refl, refl) task.Convert refl)
    (or (means (codes "SWEEP") (refl, refl) task.Sweep refl)
    (or (means (codes "COMPACT") (refl, refl) task.Compact refl)
    (or (means (codes "CHECKPOINT") (refl, refl) task.Checkpoint refl) (means (codes "RESTART") (refl, refl) task.Restart refl))))))

audit_prints : Prints AuditDrop (λ s ks. kind.Word (codes "ADMIN") ∷ ks ≡ shown s)
unfolding AuditDrop shown audit_drop_tokens
audit_prints = word (codes "AUDIT") (refl, refl) (word (codes "DROP") (refl, refl) (last stmt.AuditDrop count_prints (λ n. refl)))

pub admin_prints : Prints Admin (By shown)
unfolding Admin shown admin_tokens
admin_prints = word (codes "ADMIN") (refl, refl) (or audit_prints (last stmt.Admin task_prints (λ t. refl)))
