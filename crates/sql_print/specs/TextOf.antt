-- The text that tokens are written as.
use Rattle.std.specs.Prelude.{◌≡◌, ℕ, List, map}
use Rattle.std.specs.Str.Lossy.{utf8_lossy}
use Rattle.sql_tokens.specs.Tokens.{tokens_of}
use Rattle.sql_tokens.specs.declared.token.TokenKind.{TokenKind}
use Rattle.sql_print.specs.Printing.{printed}
use Rattle.sql_print.specs.Writable.{AreWritable}

pub record IsTextOf (ts : List TokenKind) (text : List ℕ) : Type 0 where
  -- with U+FFFD in place of what is not UTF-8
  pub lossy : text ≡ utf8_lossy (printed ts)
  pub plain : AreWritable ts → text ≡ printed ts
  -- it has these tokens, and no others
  pub again : AreWritable ts → map (λ t. t.kind) (tokens_of text) ≡ ts
