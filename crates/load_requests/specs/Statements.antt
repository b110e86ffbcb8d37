-- The statements that are served (this project's own choice of the Apache Doris documentation, "CREATE DATABASE", "CREATE
-- TABLE", "SELECT"): what tokens are one, and what it asks for.
--
--     CREATE DATABASE name [;]
--     CREATE TABLE name (name TYPE, ..) DUPLICATE KEY (name, ..) DISTRIBUTED BY HASH (name, ..) BUCKETS integer [;]
--     SELECT * FROM name [;]
use Rattle.std.specs.Prelude.{◌≡◌, ℕ, ◌&&◌, Bool, true, false, not, List, [], ◌∷◌, codes, Option, Some, None, Result, Ok, Err, if◌then◌else◌}
use Rattle.std.specs.List.{list_any}
use Rattle.std.specs.Str.{str_eq_ignore_ascii_case}
use Rattle.dl_values.specs.declared.col_type.ColType.{ColType}
use Rattle.dl_values.specs.declared.col_type.ColType.TheVariants as type
use Rattle.schema_models.specs.declared.model.Model.TheVariants as model
use Rattle.sql_text.specs.declared.plain_def.PlainColumn.{PlainColumn}
use Rattle.sql_text.specs.declared.key_clause.KeyClause.{KeyClause}
use Rattle.sql_text.specs.declared.plain_def.PlainDef.{PlainDef}
use Rattle.load_requests.specs.declared.token.Kind.TheVariants as kind
use Rattle.load_requests.specs.declared.statement.Statement.{Statement}
use Rattle.load_requests.specs.declared.statement.Statement.TheVariants as statement
use Rattle.load_requests.specs.declared.stop.Stop.{Stop}
use Rattle.load_requests.specs.declared.stop.Stop.TheVariants as stop
use Rattle.load_requests.specs.Bytes.{begins_word}
use Rattle.load_requests.specs.Ends.{number_of}
use Rattle.load_requests.specs.Tokens.{Token, tokens_of}

-- the words that are no names
abbrev pub reserved : List (List ℕ)
reserved =
    codes "ADD" ∷ codes "ALTER" ∷ codes "AND" ∷ codes "ASC" ∷ codes "BY" ∷ codes "COLUMN" ∷ codes "CREATE" ∷ codes "DATABASE"
    ∷ codes "DEFAULT" ∷ codes "DESC" ∷ codes "DISTRIBUTED" ∷ codes "DROP" ∷ codes "EXISTS" ∷ codes "FROM" ∷ codes "GROUP"
    ∷ codes "IF" ∷ codes "IS" ∷ codes "KEY" ∷ codes "LESS" ∷ codes "LIMIT" ∷ codes "MODIFY" ∷ codes "NOT" ∷ codes "NULL"
    ∷ codes "ORDER" ∷ codes "PARTITION" ∷ codes "PROPERTIES" ∷ codes "RANGE" ∷ codes "SELECT" ∷ codes "SHOW" ∷ codes "TABLE"
    ∷ codes "THAN" ∷ codes "VALUES" ∷ codes "WHERE" ∷ []

abbrev pub is_reserved : List ℕ → Bool
is_reserved word = list_any (λ r. str_eq_ignore_ascii_case word r) reserved

abbrev pub is_word : List ℕ → Bool
is_word [] = false
is_word (b ∷ bs) = begins_word b

-- a word or a sign, in any case
abbrev pub is_plain : List ℕ → Token → Bool
is_plain word (kind.Plain, bytes) = str_eq_ignore_ascii_case bytes word
is_plain word (kind.Quoted, bytes) = false
is_plain word (kind.Number, bytes) = false

-- a name: a word that is not reserved, or what stands in backquotes
abbrev pub is_name : Token → Bool
is_name (kind.Plain, bytes) = is_word bytes && not (is_reserved bytes)
is_name (kind.Quoted, bytes) = true
is_name (kind.Number, bytes) = false

-- the number that a token of 1 to 19 digits writes
abbrev pub count_of : Token → Option ℕ
count_of (kind.Plain, bytes) = None
count_of (kind.Quoted, bytes) = None
count_of (kind.Number, bytes) = number_of bytes

-- ---- reading from left to right: a value, and the tokens behind what says it

abbrev pub Reader : Type 0 → Type 0
Reader A = List Token → Option (A × List Token)

abbrev pub bind : {A B : Type 0} → Option (A × List Token) → (A → Reader B) → Option (B × List Token)
bind None next = None
bind (Some x) next = next x.0 x.1

infixl 10 ◌>>=◌
abbrev pub ◌>>=◌ : {A B : Type 0} → Reader A → (A → Reader B) → Reader B
f >>= next = λ tokens. bind (f tokens) next

infixl 10 ◌>>◌
abbrev pub ◌>>◌ : {A B : Type 0} → Reader A → Reader B → Reader B
f >> next = f >>= (λ x. next)

-- nothing is read for it
abbrev pub is : {A : Type 0} → A → Reader A
is x tokens = Some (x, tokens)

-- this word or sign
unfoldable pub plain_at : List ℕ → Reader (Unit {0})
plain_at word [] = None
plain_at word (t ∷ ts) = if is_plain word t then Some (tt, ts) else None

unfoldable pub name_at : Reader (List ℕ)
name_at [] = None
name_at (t ∷ ts) = if is_name t then Some (t.1, ts) else None

unfoldable pub type_at : Reader ColType
type_at [] = None
type_at (t ∷ ts) = if is_plain (codes "INT") t then Some (type.Int, ts) else if is_plain (codes "BIGINT") t then Some (type.BigInt, ts) else None

unfoldable pub column_at : Reader PlainColumn
column_at = do
  name ← name_at
  kind ← type_at
  is (record { name = name; kind = kind; nullable = true })

abbrev pub counted : Option ℕ → Reader ℕ
counted None rest = None
counted (Some n) rest = Some (n, rest)

unfoldable pub count_at : Reader ℕ
count_at [] = None
count_at (t ∷ ts) = counted (count_of t) ts

-- whether a comma comes, or else the closing parenthesis
unfoldable pub comma_at : Reader Bool
comma_at [] = None
comma_at (t ∷ ts) = if is_plain (codes ",") t then Some (true, ts) else if is_plain (codes ")") t then Some (false, ts) else None

-- one of a list: others stand behind a comma, and none behind the closing parenthesis
abbrev pub one_more : {A : Type 0} → Option (A × List Token) → Token → List Token → Option (List A × List Token) → Option (List A × List Token)
one_more None sign rest others = None
one_more (Some x) sign rest others =
    if is_plain (codes ",") sign then bind others (λ xs. is (x.0 ∷ xs))
    else if is_plain (codes ")") sign then Some (x.0 ∷ [], rest) else None

-- names with commas between them, up to the closing parenthesis
unfoldable pub names_at : Reader (List (List ℕ))
names_at [] = None
names_at (name ∷ []) = None
names_at (name ∷ sign ∷ rest) = one_more (name_at (name ∷ [])) sign rest (names_at rest)

-- columns with commas between them, up to the closing parenthesis
unfoldable pub columns_at : Reader (List PlainColumn)
columns_at [] = None
columns_at (name ∷ []) = None
columns_at (name ∷ kind ∷ []) = None
columns_at (name ∷ kind ∷ sign ∷ rest) = one_more (column_at (name ∷ kind ∷ [])) sign rest (columns_at rest)

-- nothing more, or a `;`
unfoldable pub is_end : List Token → Bool
is_end [] = true
is_end (t ∷ []) = is_plain (codes ";") t
is_end (t ∷ u ∷ rest) = false

-- ---- the statements

unfoldable pub create_db_at : Reader Statement
create_db_at = do
  plain_at (codes "CREATE")
  plain_at (codes "DATABASE")
  name ← name_at
  is (statement.CreateDb name)

unfoldable pub key_clause_at : Reader KeyClause
key_clause_at = do
  plain_at (codes "DUPLICATE")
  plain_at (codes "KEY")
  plain_at (codes "(")
  names ← names_at
  is (record { model = model.Duplicate; names = names })

unfoldable pub hash_at : Reader (List (List ℕ))
hash_at = do
  plain_at (codes "DISTRIBUTED")
  plain_at (codes "BY")
  plain_at (codes "HASH")
  plain_at (codes "(")
  names_at

-- what stands behind the name of a table
unfoldable pub table_def_at : Reader PlainDef
table_def_at = do
  plain_at (codes "(")
  columns ← columns_at
  key ← key_clause_at
  hash ← hash_at
  plain_at (codes "BUCKETS")
  buckets ← count_at
  is (record { columns = columns; key = Some key; hash = hash; buckets = Some buckets })

unfoldable pub create_table_at : Reader Statement
create_table_at = do
  plain_at (codes "CREATE")
  plain_at (codes "TABLE")
  name ← name_at
  def ← table_def_at
  is (statement.CreateTable name def)

unfoldable pub select_at : Reader Statement
select_at = do
  plain_at (codes "SELECT")
  plain_at (codes "*")
  plain_at (codes "FROM")
  name ← name_at
  is (statement.Select name)

-- what was read, where the statement ends behind it
abbrev pub ended : {A : Type 0} → Option (A × List Token) → Option A
ended None = None
ended (Some x) = if is_end x.1 then Some x.0 else None

abbrev pub or_else : Option Statement → Option Statement → Option Statement
or_else None other = other
or_else (Some statement) other = Some statement

-- the statement that tokens are
unfoldable pub statement_at : List Token → Option Statement
statement_at tokens = or_else (ended (create_db_at tokens)) (or_else (ended (create_table_at tokens)) (ended (select_at tokens)))

-- the statement of a text
abbrev pub statement_of : List ℕ → Option Statement
statement_of text = statement_at (tokens_of text)

-- ---- what a reader of the code returned, seen by view, is what reading gives, unless memory ran out

abbrev pub Fails : {Y : Type 0} → Stop → Option Y → Type 0
Fails stop.Memory read = Unit {0}
Fails stop.Absent read = read ≡ None

abbrev pub Gives : {X Y : Type 0} → (X → Y) → Result X Stop → Option Y → Type 0
Gives view (Ok x) read = read ≡ Some (view x)
Gives view (Err e) read = Fails e read
