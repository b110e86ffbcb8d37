-- The tokens that can be written: those that a text can have, but for what begins no token and for integers beyond 64 bits.
use Rattle.std.specs.Prelude.{◌≡◌, ◌<◌, ℕ, true, List, [], ◌∷◌, length}
use Rattle.std.specs.List.{list_all}
use Rattle.std.specs.Str.{IsUtf8}
use Rattle.dl_values.specs.Read.{is_within}
use Rattle.sql_tokens.specs.Bytes.{begins_word, in_word, in_quotes}
use Rattle.sql_tokens.specs.declared.token.TokenKind.{TokenKind}
use Rattle.sql_tokens.specs.declared.token.TokenKind.TheVariants as kind

-- a letter or `_`, then letters, digits and `_`
abbrev pub IsWord : List ℕ → Type 0
IsWord [] = ⊥
IsWord (b ∷ bs) = (begins_word b ≡ true) × (list_all in_word bs ≡ true)

-- one or more characters other than a backquote
pub record IsQuotable (name : List ℕ) : Type 0 where
  pub some : 0 < length name
  pub plain : list_all in_quotes name ≡ true
  pub text : IsUtf8 name

abbrev pub IsWritable : TokenKind → Type 0
IsWritable (kind.Word word) = IsWord word
IsWritable (kind.Quoted name) = IsQuotable name
IsWritable (kind.Int z) = is_within 9223372036854775808 z ≡ true
IsWritable (kind.Text text) = IsUtf8 text
IsWritable (kind.Sign s) = Unit {0}
IsWritable kind.Beyond = ⊥
IsWritable kind.Stray = ⊥

-- each of them can
unfoldable pub AreWritable : List TokenKind → Type 0
AreWritable [] = Unit {0}
AreWritable (t ∷ ts) = IsWritable t × AreWritable ts
