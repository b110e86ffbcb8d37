-- The first fault of a text that is no statement.
use Rattle.std.specs.Prelude.{◌≡◌, ℕ, Bool, true, false, Option, Some, None, pos, negsuc, List, [], ◌∷◌, ◌++◌, length, ◌⊎◌}
use Rattle.sql_tokens.specs.Tokens.{tokens_of}
use Rattle.sql_tokens.specs.declared.token.Token.{Token}
use Rattle.sql_tokens.specs.declared.token.TokenKind.{TokenKind}
use Rattle.sql_tokens.specs.declared.token.TokenKind.TheVariants as token
use Rattle.sql_text.specs.declared.sql_error.SqlKind.{SqlKind}
use Rattle.sql_text.specs.declared.sql_error.SqlKind.TheVariants as fault
use Rattle.sql_grammar.specs.Lang.{Begins, IsFaultAt}
use Rattle.sql_text.specs.Statements.{Statement}

abbrev pub zero_token : Token
zero_token = record { at = 0; kind = token.Int (pos 0) }

-- an integer from 0 on may stand behind these tokens: some statement goes on with 0
abbrev pub TakesZero : List Token → Type 0
TakesZero front = Begins Statement (front ++ zero_token ∷ [])

-- a negative integer is out of range where one from 0 on may stand, and else out of place
abbrev pub IsNegativeKind : List Token → SqlKind → Type 0
IsNegativeKind front kind = (TakesZero front × (kind ≡ fault.Range)) ⊎ ((TakesZero front → ⊥) × (kind ≡ fault.Syntax))

-- What is wrong with a token behind others: no token begins there; or it is an integer beyond 64 signed bits, or a
-- negative one where one from 0 on may stand; or else it is out of place.
abbrev pub IsKindOf : List Token → TokenKind → SqlKind → Type 0
IsKindOf front token.Stray kind = kind ≡ fault.Lex
IsKindOf front token.Beyond kind = kind ≡ fault.Range
IsKindOf front (token.Int (negsuc n)) kind = IsNegativeKind front kind
IsKindOf front t kind = kind ≡ fault.Syntax

-- the end of the tokens is out of place too
abbrev pub IsKind : List Token → List Token → SqlKind → Type 0
IsKind front [] kind = kind ≡ fault.Syntax
IsKind front (t ∷ rest) kind = IsKindOf front t.kind kind

-- where the next token of a text begins, or its length
abbrev pub place : List ℕ → List Token → ℕ
place text [] = length text
place text (t ∷ rest) = t.at

-- the fault stands at the first token that no statement has after the tokens before it
pub record IsFault (text : List ℕ) (at : ℕ) (kind : SqlKind) : Type 0 where
  pub front : List Token
  pub rest : List Token
  pub first : IsFaultAt Statement (tokens_of text) front rest
  pub stands : at ≡ place text rest
  pub is_so : IsKind front rest kind

-- ---- the parts of the kind

-- what is wrong with a token alone, or none with a negative integer
abbrev pub kind_alone : TokenKind → Option SqlKind
kind_alone token.Stray = Some fault.Lex
kind_alone token.Beyond = Some fault.Range
kind_alone (token.Int (negsuc n)) = None
kind_alone t = Some fault.Syntax

-- the answer to a question
abbrev pub Tells : Bool → Type 0 → Type 0
Tells true asked = asked
Tells false asked = asked → ⊥
