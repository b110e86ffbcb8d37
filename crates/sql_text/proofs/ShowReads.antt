-- SHOW, DESC and ADMIN are read by their readers.
use Rattle.std.proofs.Common.{false, List, [], ◌∷◌, codes, refl}
use Rattle.sql_tokens.specs.declared.token.Sign.TheVariants as sign
use Rattle.sql_text.specs.declared.stmt.Stmt.TheVariants as stmt
use Rattle.sql_text.specs.declared.stmt.AdminTask.TheVariants as task
use Rattle.sql_text.specs.declared.stmt.TransactionKey.TheVariants as key
use Rattle.sql_grammar.specs.Marks.{Mark, marked_word}
use Rattle.sql_grammar.specs.Lang.{Or}
use Rattle.sql_grammar.proofs.Laws.{Reads, is_reads, next_reads, either_reads}
use Rattle.sql_grammar.proofs.Singles.{word_reads, sign_reads, means_reads, name_reads, count_reads, text_reads}
use Rattle.sql_text.specs.Names.{Name, Count, String}
use Rattle.sql_text.specs.Show.{ShowPartitions, ShowAlter, ById, ByLabel, ShowTransaction, Show, Describe, Task, AuditDrop, Admin}
use Rattle.sql_text.specs.ReadShow.{partitions_at, show_partitions_at, alter_jobs_at, show_alter_at, id_at, by_id_at, by_label_at, key_at, show_transaction_at, shown_at, show_at, described_at, describe_at, task_at, audit_at, audit_drop_at, admin_at}
use Rattle.sql_text.proofs.NamesReads.{word}
use Rattle.sql_text.proofs.AlterReads.{kind_reads}

show_partitions_read : Reads ShowPartitions show_partitions_at (word (codes "PARTITIONS")) [] false
unfolding show_partitions_at partitions_at ShowPartitions Name
show_partitions_read = next_reads (word_reads (codes "PARTITIONS") refl) (λ _. next_reads (word_reads (codes "FROM") refl) (λ _. next_reads name_reads (λ n. is_reads (stmt.ShowPartitions n)) refl) refl) refl

show_alter_reads : Reads ShowAlter show_alter_at (word (codes "ALTER")) [] false
unfolding show_alter_at alter_jobs_at ShowAlter
show_alter_reads = next_reads (word_reads (codes "ALTER") refl) (λ _. next_reads (word_reads (codes "TABLE") refl) (λ _. next_reads kind_reads (λ k. is_reads (stmt.ShowAlter k)) refl) refl) refl

key_reads : Reads (Or ById ByLabel) key_at (marked_word (codes "ID") ∷ word (codes "LABEL")) [] false
unfolding key_at by_id_at id_at by_label_at ById ByLabel Count String
key_reads = either_reads
    (next_reads (word_reads (codes "ID") refl) (λ _. next_reads (sign_reads sign.Equal refl) (λ _. next_reads count_reads (λ n. is_reads (key.Id n)) refl) refl) refl)
    (next_reads (word_reads (codes "LABEL") refl) (λ _. next_reads (sign_reads sign.Equal refl) (λ _. next_reads text_reads (λ t. is_reads (key.Label t)) refl) refl) refl) refl

show_transaction_reads : Reads ShowTransaction show_transaction_at (word (codes "TRANSACTION")) [] false
unfolding show_transaction_at ShowTransaction
show_transaction_reads = next_reads (word_reads (codes "TRANSACTION") refl) (λ _. next_reads (word_reads (codes "WHERE") refl) (λ _. next_reads key_reads (λ k. is_reads (stmt.ShowTransaction k)) refl) refl) refl

pub show_reads : Reads Show show_at (word (codes "SHOW")) [] false
unfolding show_at shown_at Show
show_reads = next_reads (word_reads (codes "SHOW") refl) (λ _. either_reads (means_reads (codes "TABLES") stmt.ShowTables refl) (either_reads show_partitions_read (either_reads show_alter_reads show_transaction_reads refl) refl) refl) refl

pub describe_reads : Reads Describe describe_at (word (codes "DESC")) [] false
unfolding describe_at described_at Describe Name
describe_reads = next_reads (word_reads (codes "DESC") refl) (λ _. next_reads name_reads (λ n. next_reads (word_reads (codes "ALL") refl) (λ _. is_reads (stmt.Describe n)) refl) refl) refl

abbrev task_first : List Mark
task_first = marked_word (codes "PUBLISH") ∷ marked_word (codes "ADVANCE") ∷ marked_word (codes "CONVERT") ∷ marked_word (codes "SWEEP") ∷ marked_word (codes "COMPACT") ∷ marked_word (codes "CHECKPOINT") ∷ word (codes "RESTART")

task_reads : Reads Task task_at task_first [] false
unfolding task_at Task
task_reads =
    either_reads (means_reads (codes "PUBLISH") task.Publish refl)
    (either_reads (means_reads (codes "ADVANCE") task.Advance refl)
    (either_reads (means_reads (codes "CONVERT") task.Convert refl)
    (either_reads (means_reads (codes "SWEEP") task.Sweep refl)
    (either_reads (means_reads (codes "COMPACT") task.Compact refl)
    (either_reads (means_reads (codes "CHECKPOINT") task.Checkpoint refl) (means_reads (codes "RESTART") task.Restart refl) refl) refl) refl) refl) refl) refl

audit_drop_reads : Reads AuditDrop audit_drop_at (word (codes "AUDIT")) [] false
unfolding audit_drop_at audit_at AuditDrop Count
audit_drop_reads = next_reads (word_reads (codes "AUDIT") refl) (λ _. next_reads (word_reads (codes "DROP") refl) (λ _. next_reads count_reads (λ n. is_reads (stmt.AuditDrop n)) refl) refl) refl

pub admin_reads : Reads Admin admin_at (word (codes "ADMIN")) [] false
unfolding admin_at Admin
admin_reads = next_reads (word_reads (codes "ADMIN") refl) (λ _. either_reads audit_drop_reads (next_reads task_reads (λ t. is_reads (stmt.Admin t)) refl) refl) refl
