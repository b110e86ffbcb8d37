-- The tokens that a statement is written as (this project's own): each word in capitals, each name in backquotes, and of two ways
-- to write one thing the shorter. No `;` is written.
use Rattle.std.specs.Prelude.{List}
use Rattle.sql_tokens.specs.declared.token.TokenKind.{TokenKind}
use Rattle.sql_text.specs.declared.stmt.Stmt.{Stmt}
use Rattle.sql_text.specs.declared.stmt.Stmt.TheVariants as stmt
use Rattle.sql_print.specs.ShownCreate.{create_database_tokens, create_table_tokens, drop_table_tokens}
use Rattle.sql_print.specs.ShownAlter.{add_partition_tokens, add_rollup_tokens, clauses_tokens, cancel_tokens}
use Rattle.sql_print.specs.ShownShow.{show_tables_tokens, show_partitions_tokens, show_alter_tokens, show_transaction_tokens, describe_tokens, admin_tokens, audit_drop_tokens}
use Rattle.sql_print.specs.ShownSelect.{query_tokens}

unfoldable pub shown : Stmt → List TokenKind
shown (stmt.CreateDatabase quiet name) = create_database_tokens quiet name
shown (stmt.CreateTable quiet name def) = create_table_tokens quiet name def
shown (stmt.DropTable quiet name) = drop_table_tokens quiet name
shown (stmt.AddPartition table part) = add_partition_tokens table part
shown (stmt.AddRollup table name columns) = add_rollup_tokens table name columns
shown (stmt.Alter table clauses) = clauses_tokens table clauses
shown (stmt.CancelAlter kind table) = cancel_tokens kind table
shown stmt.ShowTables = show_tables_tokens
shown (stmt.ShowPartitions table) = show_partitions_tokens table
shown (stmt.Describe table) = describe_tokens table
shown (stmt.ShowAlter kind) = show_alter_tokens kind
shown (stmt.ShowTransaction by) = show_transaction_tokens by
shown (stmt.Select query) = query_tokens query
shown (stmt.Admin task) = admin_tokens task
shown (stmt.AuditDrop place) = audit_drop_tokens place
