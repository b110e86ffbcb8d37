-- The tokens that a text can have.
use Rattle.std.specs.Prelude.{List, [], ◌∷◌}
use Rattle.sql_tokens.specs.declared.token.Token.{Token}
use Rattle.sql_tokens.specs.declared.token.TokenKind.{TokenKind}
use Rattle.sql_tokens.specs.declared.token.TokenKind.TheVariants as kind
use Rattle.sql_print.specs.Writable.{IsWritable}

-- it can be written, or is no token of a statement
abbrev pub IsFit : TokenKind → Type 0
IsFit kind.Beyond = Unit {0}
IsFit kind.Stray = Unit {0}
IsFit k = IsWritable k

unfoldable pub AreFit : List Token → Type 0
AreFit [] = Unit {0}
AreFit (t ∷ ts) = IsFit t.kind × AreFit ts
