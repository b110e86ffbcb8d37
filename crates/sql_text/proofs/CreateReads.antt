-- CREATE and DROP are read by their readers.
use Rattle.std.proofs.Common.{◌<◌, true, false, List, [], ◌∷◌, length, Some, None, is_some, Result, codes, refl}
use Rattle.std.specs.Prelude.{IfOk}
use Rattle.schema_models.specs.declared.model.Model.TheVariants as model
use Rattle.sql_tokens.specs.declared.token.Token.{Token}
use Rattle.sql_tokens.specs.declared.token.Sign.TheVariants as sign
use Rattle.sql_text.specs.declared.part.Part.{Part}
use Rattle.sql_text.specs.declared.part.PartBounds.TheVariants as bounds
use Rattle.sql_text.specs.declared.table_def.Property.{Property}
use Rattle.sql_text.specs.declared.table_def.ColumnText.{ColumnText}
use Rattle.sql_grammar.specs.declared.stop.Stop.{Stop}
use Rattle.sql_grammar.specs.Marks.{Mark, marked_word, marked_sign, marked_name, marked_integer, marked_text, is_reserved}
use Rattle.sql_grammar.specs.Lang.{Is, Then, Or, Maybe, Means, or_else}
use Rattle.sql_grammar.specs.Reading.{Gives}
use Rattle.sql_grammar.proofs.Laws.{Reads, is_reads, next_reads, either_reads, maybe_reads, leaves_less}
use Rattle.sql_grammar.proofs.Singles.{word_reads, sign_reads, means_reads, name_reads, count_reads, text_reads, commas_read}
use Rattle.sql_text.specs.Names.{Name, Count, String, Literal_}
use Rattle.sql_text.specs.Create.{IfNotExists, IfExists, CreateDatabase, Column, Engine, KeyModel, KeyPart, HighEnd, LessThan, InBrackets, FromTo, Part_, Ranges_, Distributed, Buckets, Property_, PropertyList, Properties, Definition, CreateTable, Create, Drop}
use Rattle.sql_text.specs.ReadNames.{agg_first}
use Rattle.sql_text.specs.ReadCreate.{if_not_exists_at, if_exists_at, database_at, create_database_at, column_at, engine_at, key_model_at, key_first, key_part_at, maybe_key_at, end_in_at, high_end_at, less_than_at, in_brackets_at, from_to_at, bounds_at, part_at, range_parts_at, partitioned_at, ranges_at, maybe_ranges_at, distributed_at, buckets_at, property_at, property_list_at, properties_at, options_at, definition_at, create_table_at, created_at, create_at, dropped_at, drop_at}
use Rattle.sql_text.proofs.NamesReads.{word, names_read, literal_reads, type_reads, maybe_agg_reads, nullable_reads, default_reads, comment_reads}

abbrev opening : List Mark
opening = marked_sign sign.Open ∷ []

-- ---- CREATE DATABASE

if_not_exists_reads : Reads IfNotExists if_not_exists_at (word (codes "IF")) (word (codes "IF")) true
unfolding if_not_exists_at IfNotExists
if_not_exists_reads = next_reads (maybe_reads (next_reads (word_reads (codes "IF") refl) (λ _. next_reads (word_reads (codes "NOT") refl) (λ _. word_reads (codes "EXISTS") refl) refl) refl)) (λ o. is_reads (is_some o)) refl

if_exists_reads : Reads IfExists if_exists_at (word (codes "IF")) (word (codes "IF")) true
unfolding if_exists_at IfExists
if_exists_reads = next_reads (maybe_reads (next_reads (word_reads (codes "IF") refl) (λ _. word_reads (codes "EXISTS") refl) refl)) (λ o. is_reads (is_some o)) refl

create_database_reads : Reads CreateDatabase create_database_at (word (codes "DATABASE")) [] false
unfolding create_database_at database_at CreateDatabase Name is_reserved
create_database_reads = next_reads (word_reads (codes "DATABASE") refl) (λ _. next_reads if_not_exists_reads (λ quiet. next_reads name_reads (λ n. is_reads _) refl) refl) refl

-- ---- columns and keys

abbrev pub column_more : List Mark
column_more = marked_word (codes "COMMENT") ∷ marked_word (codes "DEFAULT") ∷ marked_word (codes "NULL") ∷ marked_word (codes "NOT") ∷ agg_first

column_reads : Reads Column column_at (marked_name ∷ []) column_more false
unfolding column_at Column Name
column_reads = next_reads name_reads (λ n. next_reads type_reads (λ t. next_reads maybe_agg_reads (λ a. next_reads nullable_reads (λ u. next_reads default_reads (λ d. next_reads comment_reads (λ _. is_reads _) refl) refl) refl) refl) refl) refl

pub column_leaves_less : {B : Type 0} (view : B → ColumnText × List Token) (tokens : List Token) (r : Result B Stop) → Gives view r (column_at tokens) → IfOk r (λ x. length (view x).1 < length tokens)
column_leaves_less view tokens r given = leaves_less column_reads view tokens r given

engine_reads : Reads Engine engine_at (word (codes "ENGINE")) (word (codes "ENGINE")) true
unfolding engine_at Engine
engine_reads = next_reads (maybe_reads (next_reads (word_reads (codes "ENGINE") refl) (λ _. next_reads (sign_reads sign.Equal refl) (λ _. word_reads (codes "OLAP") refl) refl) refl)) (λ _. is_reads tt) refl

key_model_reads : Reads KeyModel key_model_at key_first [] false
unfolding key_model_at KeyModel
key_model_reads = either_reads (means_reads (codes "DUPLICATE") model.Duplicate refl) (either_reads (means_reads (codes "UNIQUE") model.Unique refl) (means_reads (codes "AGGREGATE") model.Aggregate refl) refl) refl

key_part_reads : Reads KeyPart key_part_at key_first [] false
unfolding key_part_at KeyPart
key_part_reads = next_reads key_model_reads (λ m. next_reads (word_reads (codes "KEY") refl) (λ _. next_reads names_read (λ ns. is_reads _) refl) refl) refl

maybe_key_reads : Reads (Maybe KeyPart) maybe_key_at key_first key_first true
unfolding maybe_key_at
maybe_key_reads = maybe_reads key_part_reads

-- ---- partitions

end_in_reads : Reads (Or (Means (codes "MAXVALUE") None) (Then Literal_ (λ l. Is (Some l)))) end_in_at (marked_word (codes "MAXVALUE") ∷ marked_integer ∷ marked_text ∷ []) [] false
unfolding end_in_at
end_in_reads = either_reads (means_reads (codes "MAXVALUE") None refl) (next_reads literal_reads (λ l. is_reads (Some l)) refl) refl

high_end_reads : Reads HighEnd high_end_at (marked_word (codes "MAXVALUE") ∷ opening) [] false
unfolding high_end_at HighEnd
high_end_reads = either_reads (means_reads (codes "MAXVALUE") None refl) (next_reads (sign_reads sign.Open refl) (λ _. next_reads end_in_reads (λ e. next_reads (sign_reads sign.Close refl) (λ _. is_reads e) refl) refl) refl) refl

less_than_reads : Reads LessThan less_than_at (word (codes "LESS")) [] false
unfolding less_than_at LessThan
less_than_reads = next_reads (word_reads (codes "LESS") refl) (λ _. next_reads (word_reads (codes "THAN") refl) (λ _. next_reads high_end_reads (λ e. is_reads (bounds.Less e)) refl) refl) refl

in_brackets_reads : Reads InBrackets in_brackets_at opening [] false
unfolding in_brackets_at InBrackets
in_brackets_reads = next_reads (sign_reads sign.Open refl) (λ _. next_reads literal_reads (λ l. next_reads (sign_reads sign.Close refl) (λ _. is_reads l) refl) refl) refl

from_to_reads : Reads FromTo from_to_at (marked_sign sign.OpenRange ∷ []) [] false
unfolding from_to_at FromTo
from_to_reads = next_reads (sign_reads sign.OpenRange refl) (λ _. next_reads in_brackets_reads (λ low. next_reads (sign_reads sign.Comma refl) (λ _. next_reads in_brackets_reads (λ high. next_reads (sign_reads sign.Close refl) (λ _. is_reads (bounds.Between low high)) refl) refl) refl) refl) refl

bounds_read : Reads (Or LessThan FromTo) bounds_at (marked_word (codes "LESS") ∷ marked_sign sign.OpenRange ∷ []) [] false
unfolding bounds_at
bounds_read = either_reads less_than_reads from_to_reads refl

pub part_reads : Reads Part_ part_at (word (codes "PARTITION")) [] false
unfolding part_at Part_ Name
part_reads = next_reads (word_reads (codes "PARTITION") refl) (λ _. next_reads name_reads (λ n. next_reads (word_reads (codes "VALUES") refl) (λ _. next_reads bounds_read (λ b. is_reads _) refl) refl) refl) refl

pub part_leaves_less : {B : Type 0} (view : B → Part × List Token) (tokens : List Token) (r : Result B Stop) → Gives view r (part_at tokens) → IfOk r (λ x. length (view x).1 < length tokens)
part_leaves_less view tokens r given = leaves_less part_reads view tokens r given

ranges_read : Reads Ranges_ ranges_at (word (codes "PARTITION")) [] false
unfolding ranges_at partitioned_at range_parts_at Ranges_ Name
ranges_read = next_reads (word_reads (codes "PARTITION") refl) (λ _. next_reads (word_reads (codes "BY") refl) (λ _. next_reads (word_reads (codes "RANGE") refl) (λ _. next_reads (sign_reads sign.Open refl) (λ _. next_reads name_reads (λ n. next_reads (sign_reads sign.Close refl) (λ _. next_reads (sign_reads sign.Open refl) (λ _. next_reads (commas_read part_reads refl refl) (λ ps. next_reads (sign_reads sign.Close refl) (λ _. is_reads _) refl) refl) refl) refl) refl) refl) refl) refl) refl

maybe_ranges_read : Reads (Maybe Ranges_) maybe_ranges_at (word (codes "PARTITION")) (word (codes "PARTITION")) true
unfolding maybe_ranges_at
maybe_ranges_read = maybe_reads ranges_read

-- ---- buckets and properties

distributed_reads : Reads Distributed distributed_at (word (codes "DISTRIBUTED")) [] false
unfolding distributed_at Distributed
distributed_reads = next_reads (word_reads (codes "DISTRIBUTED") refl) (λ _. next_reads (word_reads (codes "BY") refl) (λ _. next_reads (word_reads (codes "HASH") refl) (λ _. next_reads names_read (λ ns. is_reads ns) refl) refl) refl) refl

buckets_read : Reads Buckets buckets_at (word (codes "BUCKETS")) (word (codes "BUCKETS")) true
unfolding buckets_at Buckets Count
buckets_read = maybe_reads (next_reads (word_reads (codes "BUCKETS") refl) (λ _. count_reads) refl)

property_reads : Reads Property_ property_at (marked_text ∷ []) [] false
unfolding property_at Property_ String
property_reads = next_reads text_reads (λ n. next_reads (sign_reads sign.Equal refl) (λ _. next_reads text_reads (λ v. is_reads _) refl) refl) refl

pub property_leaves_less : {B : Type 0} (view : B → Property × List Token) (tokens : List Token) (r : Result B Stop) → Gives view r (property_at tokens) → IfOk r (λ x. length (view x).1 < length tokens)
property_leaves_less view tokens r given = leaves_less property_reads view tokens r given

property_list_reads : Reads PropertyList property_list_at (word (codes "PROPERTIES")) [] false
unfolding property_list_at PropertyList
property_list_reads = next_reads (word_reads (codes "PROPERTIES") refl) (λ _. next_reads (sign_reads sign.Open refl) (λ _. next_reads (commas_read property_reads refl refl) (λ ps. next_reads (sign_reads sign.Close refl) (λ _. is_reads ps) refl) refl) refl) refl

properties_read : Reads Properties properties_at (word (codes "PROPERTIES")) (word (codes "PROPERTIES")) true
unfolding properties_at Properties
properties_read = next_reads (maybe_reads property_list_reads) (λ o. is_reads (or_else [] o)) refl

-- ---- CREATE TABLE

abbrev pub definition_more : List Mark
definition_more = marked_word (codes "PROPERTIES") ∷ marked_word (codes "BUCKETS") ∷ []

definition_reads : Reads Definition definition_at opening definition_more false
unfolding definition_at options_at Definition
definition_reads = next_reads (sign_reads sign.Open refl) (λ _. next_reads (commas_read column_reads refl refl) (λ cs. next_reads (sign_reads sign.Close refl) (λ _. next_reads engine_reads (λ _. next_reads maybe_key_reads (λ k. next_reads comment_reads (λ _. next_reads maybe_ranges_read (λ r. next_reads distributed_reads (λ h. next_reads buckets_read (λ b. next_reads properties_read (λ p. is_reads _) refl) refl) refl) refl) refl) refl) refl) refl) refl) refl

create_table_reads : Reads CreateTable create_table_at (word (codes "TABLE")) definition_more false
unfolding create_table_at CreateTable Name is_reserved
create_table_reads = next_reads (word_reads (codes "TABLE") refl) (λ _. next_reads if_not_exists_reads (λ quiet. next_reads name_reads (λ n. next_reads definition_reads (λ d. is_reads _) refl) refl) refl) refl

pub create_reads : Reads Create create_at (word (codes "CREATE")) definition_more false
unfolding create_at created_at Create
create_reads = next_reads (word_reads (codes "CREATE") refl) (λ _. either_reads create_database_reads create_table_reads refl) refl

pub drop_reads : Reads Drop drop_at (word (codes "DROP")) [] false
unfolding drop_at dropped_at Drop Name is_reserved
drop_reads = next_reads (word_reads (codes "DROP") refl) (λ _. next_reads (word_reads (codes "TABLE") refl) (λ _. next_reads if_exists_reads (λ quiet. next_reads name_reads (λ n. is_reads _) refl) refl) refl) refl
