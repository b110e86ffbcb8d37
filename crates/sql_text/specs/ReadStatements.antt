-- Reading statements.
use Rattle.std.specs.Prelude.{ℕ, List, Result, codes}
use Rattle.sql_tokens.specs.declared.token.Token.{Token}
use Rattle.sql_tokens.specs.declared.token.Sign.TheVariants as sign
use Rattle.sql_text.specs.declared.stmt.Stmt.{Stmt}
use Rattle.sql_text.specs.declared.stmt.Stmt.TheVariants as stmt
use Rattle.sql_grammar.specs.Marks.{marked_word, marked_sign}
use Rattle.sql_grammar.specs.Reading.{Reader, is, either, maybe, one, sign_at, to_end, ◌>>=◌, ◌>>◌}
use Rattle.sql_text.specs.ReadCreate.{create_at, drop_at}
use Rattle.sql_text.specs.ReadAlter.{alter_at, cancel_at}
use Rattle.sql_text.specs.ReadShow.{show_at, describe_at, admin_at}
use Rattle.sql_text.specs.ReadSelect.{select_at}

unfoldable pub query_at : Reader Stmt
query_at = select_at >>= λ q. is (stmt.Select q)

unfoldable pub body_at : Reader Stmt
body_at =
    either (one (marked_word (codes "CREATE"))) create_at
    (either (one (marked_word (codes "DROP"))) drop_at
    (either (one (marked_word (codes "ALTER"))) alter_at
    (either (one (marked_word (codes "CANCEL"))) cancel_at
    (either (one (marked_word (codes "SHOW"))) show_at
    (either (one (marked_word (codes "DESC"))) describe_at
    (either (one (marked_word (codes "SELECT"))) query_at admin_at))))))

unfoldable pub statement_at : Reader Stmt
statement_at = do
  s ← body_at
  maybe (one (marked_sign sign.End)) (sign_at sign.End)
  is s

-- all of the tokens
unfoldable pub whole_at : List Token → Result Stmt ℕ
whole_at tokens = to_end (statement_at tokens)
