-- Reading ALTER TABLE.
use Rattle.std.specs.Prelude.{ℕ, Bool, List, [], ◌∷◌, Option, is_some, codes}
use Rattle.sql_tokens.specs.declared.token.Sign.TheVariants as sign
use Rattle.sql_text.specs.declared.stmt.Stmt.{Stmt}
use Rattle.sql_text.specs.declared.stmt.Stmt.TheVariants as stmt
use Rattle.sql_text.specs.declared.stmt.AlterKind.{AlterKind}
use Rattle.sql_text.specs.declared.stmt.AlterKind.TheVariants as kind
use Rattle.sql_text.specs.declared.clause.Clause.{Clause}
use Rattle.sql_text.specs.declared.clause.Clause.TheVariants as clause
use Rattle.sql_text.specs.declared.clause.AlteredColumn.{AlteredColumn}
use Rattle.sql_text.specs.declared.clause.ColumnPlace.{ColumnPlace}
use Rattle.sql_text.specs.declared.clause.ColumnPlace.TheVariants as place
use Rattle.sql_grammar.specs.Marks.{Mark, marked_word, marked_sign, matches}
use Rattle.sql_grammar.specs.Reading.{Reader, is, either, maybe, one, list_from, word_at, sign_at, name_at, means_at, ◌>>=◌, ◌>>◌}
use Rattle.sql_text.specs.ReadNames.{word_or, names_at, type_at, maybe_agg_at, nullable_at, default_at, comment_at}
use Rattle.sql_text.specs.ReadCreate.{part_at}

unfoldable pub is_key_at : Reader Bool
is_key_at = do
  found ← maybe (one (marked_word (codes "KEY"))) (word_at (codes "KEY"))
  is (is_some found)

unfoldable pub altered_at : Reader AlteredColumn
altered_at = do
  n ← name_at
  t ← type_at
  k ← is_key_at
  a ← maybe_agg_at
  u ← nullable_at
  d ← default_at
  comment_at
  is (record { name = n; kind = t; key = k; agg = a; nullable = u; default = d })

abbrev pub place_first : List Mark
place_first = marked_word (codes "FIRST") ∷ marked_word (codes "AFTER") ∷ []

unfoldable pub place_at : Reader ColumnPlace
place_at = word_or (codes "FIRST") place.First do
  word_at (codes "AFTER")
  n ← name_at
  is (place.After n)

unfoldable pub maybe_place_at : Reader (Option ColumnPlace)
maybe_place_at = maybe (matches place_first) place_at

unfoldable pub added_column_at : Reader Clause
added_column_at = do
  word_at (codes "COLUMN")
  c ← altered_at
  p ← maybe_place_at
  is (clause.Add c p)

-- behind DROP
unfoldable pub dropped_column_at : Reader Clause
dropped_column_at = do
  word_at (codes "COLUMN")
  n ← name_at
  is (clause.Drop n)

unfoldable pub drop_column_at : Reader Clause
drop_column_at = word_at (codes "DROP") >> dropped_column_at

-- behind MODIFY
unfoldable pub modified_column_at : Reader Clause
modified_column_at = do
  word_at (codes "COLUMN")
  c ← altered_at
  is (clause.Modify c)

unfoldable pub modify_column_at : Reader Clause
modify_column_at = word_at (codes "MODIFY") >> modified_column_at

unfoldable pub order_columns_at : Reader Clause
order_columns_at = do
  word_at (codes "ORDER")
  word_at (codes "BY")
  ns ← names_at
  is (clause.Order ns)

-- a clause that is no ADD
unfoldable pub other_clause_at : Reader Clause
other_clause_at = either (one (marked_word (codes "DROP"))) drop_column_at (either (one (marked_word (codes "MODIFY"))) modify_column_at order_columns_at)

unfoldable pub clause_at : Reader Clause
clause_at = either (one (marked_word (codes "ADD"))) (word_at (codes "ADD") >> added_column_at) other_clause_at

-- the clauses of a table, where the first was read
unfoldable pub clauses_from_at : List ℕ → Clause → Reader Stmt
clauses_from_at table c = list_from (marked_sign sign.Comma) (sign_at sign.Comma) clause_at c >>= λ cs. is (stmt.Alter table cs)

-- behind ADD ROLLUP
unfoldable pub added_rollup_at : List ℕ → Reader Stmt
added_rollup_at table = do
  n ← name_at
  ns ← names_at
  is (stmt.AddRollup table n ns)

unfoldable pub rollup_at : List ℕ → Reader Stmt
rollup_at table = word_at (codes "ROLLUP") >> added_rollup_at table

unfoldable pub add_part_at : List ℕ → Reader Stmt
add_part_at table = part_at >>= λ p. is (stmt.AddPartition table p)

unfoldable pub add_column_at : List ℕ → Reader Stmt
add_column_at table = added_column_at >>= λ c. clauses_from_at table c

-- behind the first ADD: a partition, a rollup, or a column and further clauses
unfoldable pub addition_at : List ℕ → Reader Stmt
addition_at table = either (one (marked_word (codes "PARTITION"))) (add_part_at table) (either (one (marked_word (codes "ROLLUP"))) (rollup_at table) (add_column_at table))

-- behind the table's name
unfoldable pub alteration_at : List ℕ → Reader Stmt
alteration_at table = either (one (marked_word (codes "ADD"))) (word_at (codes "ADD") >> addition_at table) (other_clause_at >>= λ c. clauses_from_at table c)

-- behind ALTER
unfoldable pub alter_table_at : Reader Stmt
alter_table_at = do
  word_at (codes "TABLE")
  table ← name_at
  alteration_at table

unfoldable pub alter_at : Reader Stmt
alter_at = word_at (codes "ALTER") >> alter_table_at

unfoldable pub kind_at : Reader AlterKind
kind_at = word_or (codes "COLUMN") kind.Column (means_at (codes "ROLLUP") kind.Rollup)

-- behind CANCEL
unfoldable pub cancelled_at : Reader Stmt
cancelled_at = do
  word_at (codes "ALTER")
  word_at (codes "TABLE")
  k ← kind_at
  word_at (codes "FROM")
  table ← name_at
  is (stmt.CancelAlter k table)

unfoldable pub cancel_at : Reader Stmt
cancel_at = word_at (codes "CANCEL") >> cancelled_at
