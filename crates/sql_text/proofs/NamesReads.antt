-- Names, literals, types and defaults are read by their readers.
use Rattle.std.proofs.Common.{ℕ, true, false, List, [], ◌∷◌, codes, refl}
use Rattle.sql_tokens.specs.declared.token.Sign.TheVariants as sign
use Rattle.dl_values.specs.declared.agg_kind.AggKind.TheVariants as agg
use Rattle.sql_text.specs.declared.query.Literal.TheVariants as literal
use Rattle.sql_text.specs.declared.table_def.ColumnType.TheVariants as type
use Rattle.sql_text.specs.declared.table_def.DefaultText.TheVariants as default
use Rattle.sql_grammar.specs.Marks.{Mark, marked_word, marked_sign, marked_integer, marked_text}
use Rattle.sql_grammar.specs.Lang.{Is, Then, Or, Maybe, Means, or_else}
use Rattle.sql_grammar.proofs.Laws.{Reads, is_reads, next_reads, either_reads, maybe_reads}
use Rattle.sql_grammar.proofs.Singles.{word_reads, sign_reads, means_reads, name_reads, integer_reads, count_reads, text_reads, commas_read}
use Rattle.sql_text.specs.Names.{Name, Count, String, Names, Literal_, Varchar, Type_, Agg, Nullable, Default, Comment}
use Rattle.sql_text.specs.ReadNames.{names_at, literal_at, varchar_at, type_at, agg_first, agg_at, maybe_agg_at, null_first, nullable_at, default_text_at, default_at, comment_at}

abbrev pub word : List ℕ → List Mark
word w = marked_word w ∷ []

pub names_read : Reads Names names_at (marked_sign sign.Open ∷ []) [] false
unfolding names_at Names Name
names_read = next_reads (sign_reads sign.Open refl) (λ _. next_reads (commas_read name_reads refl refl) (λ names. next_reads (sign_reads sign.Close refl) (λ _. is_reads names) refl) refl) refl

pub literal_reads : Reads Literal_ literal_at (marked_integer ∷ marked_text ∷ []) [] false
unfolding literal_at Literal_ String
literal_reads = either_reads (next_reads integer_reads (λ n. is_reads (literal.Int n)) refl) (next_reads text_reads (λ t. is_reads (literal.Text t)) refl) refl

varchar_reads : Reads Varchar varchar_at (word (codes "VARCHAR")) [] false
unfolding varchar_at Varchar Count
varchar_reads = next_reads (word_reads (codes "VARCHAR") refl) (λ _. next_reads (sign_reads sign.Open refl) (λ _. next_reads count_reads (λ n. next_reads (sign_reads sign.Close refl) (λ _. is_reads (type.Varchar n)) refl) refl) refl) refl

abbrev pub type_first : List Mark
type_first = marked_word (codes "TINYINT") ∷ marked_word (codes "SMALLINT") ∷ marked_word (codes "INT") ∷ marked_word (codes "BIGINT") ∷ marked_word (codes "DATE") ∷ marked_word (codes "VARCHAR") ∷ []

pub type_reads : Reads Type_ type_at type_first [] false
unfolding type_at Type_
type_reads =
    either_reads (means_reads (codes "TINYINT") type.TinyInt refl)
    (either_reads (means_reads (codes "SMALLINT") type.SmallInt refl)
    (either_reads (means_reads (codes "INT") type.Int refl)
    (either_reads (means_reads (codes "BIGINT") type.BigInt refl)
    (either_reads (means_reads (codes "DATE") type.Date refl) varchar_reads refl) refl) refl) refl) refl

agg_reads : Reads Agg agg_at agg_first [] false
unfolding agg_at Agg
agg_reads =
    either_reads (means_reads (codes "SUM") agg.Sum refl)
    (either_reads (means_reads (codes "MIN") agg.Min refl)
    (either_reads (means_reads (codes "MAX") agg.Max refl)
    (either_reads (means_reads (codes "REPLACE") agg.Replace refl) (means_reads (codes "REPLACE_IF_NOT_NULL") agg.ReplaceIfNotNull refl) refl) refl) refl) refl

pub maybe_agg_reads : Reads (Maybe Agg) maybe_agg_at agg_first agg_first true
unfolding maybe_agg_at
maybe_agg_reads = maybe_reads agg_reads

pub nullable_reads : Reads Nullable nullable_at null_first null_first true
unfolding nullable_at Nullable
nullable_reads = next_reads (maybe_reads (either_reads (means_reads (codes "NULL") true refl) (next_reads (word_reads (codes "NOT") refl) (λ _. means_reads (codes "NULL") false refl) refl) refl)) (λ o. is_reads (or_else true o)) refl

default_text_reads : Reads (Or (Means (codes "NULL") default.Null) (Then Literal_ (λ l. Is (default.Value l)))) default_text_at (marked_word (codes "NULL") ∷ marked_integer ∷ marked_text ∷ []) [] false
unfolding default_text_at
default_text_reads = either_reads (means_reads (codes "NULL") default.Null refl) (next_reads literal_reads (λ l. is_reads (default.Value l)) refl) refl

pub default_reads : Reads Default default_at (word (codes "DEFAULT")) (word (codes "DEFAULT")) true
unfolding default_at Default
default_reads = maybe_reads (next_reads (word_reads (codes "DEFAULT") refl) (λ _. default_text_reads) refl)

pub comment_reads : Reads Comment comment_at (word (codes "COMMENT")) (word (codes "COMMENT")) true
unfolding comment_at Comment String
comment_reads = next_reads (maybe_reads (next_reads (word_reads (codes "COMMENT") refl) (λ _. text_reads) refl)) (λ _. is_reads tt) refl
