-- Steps of writing.
use Rattle.std.specs.Prelude.{ℕ, Bool, List, [], ◌∷◌, ◌++◌}
use Rattle.sql_tokens.specs.declared.token.TokenKind.{TokenKind}
use Rattle.sql_print.specs.Printing.{is_open, behind}

-- whether the next token takes no blank before it
unfoldable pub is_glued : Bool → List TokenKind → Bool
is_glued glued [] = glued
is_glued glued (t ∷ ts) = is_glued (is_open t) ts

-- what is written, and whether the next token takes no blank: then with these tokens behind it
unfoldable pub put : List ℕ × Bool → List TokenKind → List ℕ × Bool
put w ts = (w.0 ++ behind w.1 ts, is_glued w.1 ts)
