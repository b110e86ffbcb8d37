-- Statements.
use Rattle.std.specs.Prelude.{ℕ, List}
use Rattle.sql_tokens.specs.Tokens.{tokens_of}
use Rattle.sql_tokens.specs.declared.token.Sign.TheVariants as sign
use Rattle.sql_text.specs.declared.stmt.Stmt.{Stmt}
use Rattle.sql_text.specs.declared.stmt.Stmt.TheVariants as stmt
use Rattle.sql_grammar.specs.Lang.{Lang, Is, Or, Maybe, Sign_, ◌>>=◌, ◌>>◌}
use Rattle.sql_text.specs.Create.{Create, Drop}
use Rattle.sql_text.specs.Alter.{Alter, Cancel}
use Rattle.sql_text.specs.Show.{Show, Describe, Admin}
use Rattle.sql_text.specs.Select.{Select}

unfoldable pub Body : Lang Stmt
Body =
    Or Create
    (Or Drop
    (Or Alter
    (Or Cancel
    (Or Show
    (Or Describe
    (Or (Select >>= λ q. Is (stmt.Select q)) Admin))))))

-- stmt := body [';']
unfoldable pub Statement : Lang Stmt
Statement = do
  s ← Body
  Maybe (Sign_ sign.End)
  Is s

-- the text is the statement's
abbrev pub Spells : Stmt → List ℕ → Type 0
Spells s text = Statement s (tokens_of text)
