-- Parts that many statements have are written so that they are read again.
use Rattle.std.proofs.Common.{true, false, None, List, [], refl, codes}
use Rattle.sql_tokens.specs.declared.token.Token.{Token}
use Rattle.sql_tokens.specs.declared.token.Sign.TheVariants as sign
use Rattle.sql_tokens.specs.declared.token.TokenKind.{TokenKind}
use Rattle.sql_tokens.specs.declared.token.TokenKind.TheVariants as kind
use Rattle.dl_values.specs.declared.agg_kind.AggKind.TheVariants as agg
use Rattle.sql_text.specs.declared.query.Literal.TheVariants as literal
use Rattle.sql_text.specs.declared.table_def.ColumnType.TheVariants as type
use Rattle.sql_text.specs.declared.table_def.DefaultText.TheVariants as default
use Rattle.sql_grammar.specs.Lang.{Commas, Then, Word, Means}
use Rattle.sql_text.specs.Names.{Names, Literal_, Varchar, Type_, Agg, Nullable, Default, Comment}
use Rattle.sql_print.specs.Parts.{maybe, commas, names, literal_tokens, type_tokens, agg_word, agg_tokens, nullable_tokens, default_tokens}
use Rattle.sql_print.proofs.Prints.{Prints, By, is, part, last, or, list, optional, usual}
use Rattle.sql_print.proofs.PrintsTokens.{word, sign_then, means, sign_prints, name_prints, count_prints, integer_prints, string_prints}

-- parts, with commas between them
pub commas_print : {A : Type 0} {P : A → List Token → Type 0} {show : A → List TokenKind} → Prints P (By show) → Prints (Commas P) (By (commas show))
commas_print p = list (kind.Sign sign.Comma) (sign_prints sign.Comma) p (λ x xs. refl)

pub names_prints : Prints Names (By names)
unfolding Names names
names_prints = sign_then sign.Open (part (commas_print name_prints) (λ ns. sign_then sign.Close (is _ ns refl)))

pub literal_prints : Prints Literal_ (By literal_tokens)
unfolding Literal_ literal_tokens
literal_prints = or (last literal.Int integer_prints (λ n. refl)) (last literal.Text string_prints (λ t. refl))

varchar_prints : Prints Varchar (By type_tokens)
unfolding Varchar type_tokens
varchar_prints = word (codes "VARCHAR") (refl, refl) (sign_then sign.Open (part count_prints (λ n. sign_then sign.Close (is _ (type.Varchar n) refl))))

pub type_prints : Prints Type_ (By type_tokens)
unfolding Type_ type_tokens
type_prints =
    or (means (codes "TINYINT") (refl, refl) type.TinyInt refl)
    (or (means (codes "SMALLINT") (refl, refl) type.SmallInt refl)
    (or (means (codes "INT") (refl, refl) type.Int refl)
    (or (means (codes "BIGINT") (refl, refl) type.BigInt refl)
    (or (means (codes "DATE") (refl, refl) type.Date refl) varchar_prints))))

pub agg_prints : Prints Agg (By agg_tokens)
unfolding Agg agg_tokens agg_word
agg_prints =
    or (means (codes "SUM") (refl, refl) agg.Sum refl)
    (or (means (codes "MIN") (refl, refl) agg.Min refl)
    (or (means (codes "MAX") (refl, refl) agg.Max refl)
    (or (means (codes "REPLACE") (refl, refl) agg.Replace refl) (means (codes "REPLACE_IF_NOT_NULL") (refl, refl) agg.ReplaceIfNotNull refl))))

-- the two words of NOT NULL
not_null : Prints (Then (Word (codes "NOT")) (λ _. Means (codes "NULL") false)) (By nullable_tokens)
unfolding nullable_tokens
not_null = word (codes "NOT") (refl, refl) (means (codes "NULL") (refl, refl) false refl)

pub nullable_prints : Prints Nullable (By nullable_tokens)
unfolding Nullable nullable_tokens
nullable_prints = usual true refl (λ x ts h. h.second.1) not_null

pub default_prints : Prints Default (By (maybe default_tokens))
unfolding Default default_tokens
default_prints = optional (word (codes "DEFAULT") (refl, refl) (or (means (codes "NULL") (refl, refl) default.Null refl) (last default.Value literal_prints (λ l. refl))))

-- a comment may be left out
pub no_comment : Comment tt []
unfolding Comment
no_comment = record { value = None; front = []; back = []; parts = refl; first = refl; second = (refl, refl) }
