-- Worked queries over a table of two keys and a sum, and over one of texts and days.
use Rattle.std.specs.Prelude.{◌≡◌, ℕ, pos, true, false, List, [], ◌∷◌, None, Ok, Err, codes}
use Rattle.dl_values.specs.declared.agg_kind.AggKind.TheVariants as agg
use Rattle.dl_values.specs.declared.cell.Cell.{Cell}
use Rattle.dl_values.specs.declared.cell.Cell.TheVariants as cell
use Rattle.dl_values.specs.declared.col_type.ColType.{ColType}
use Rattle.dl_values.specs.declared.col_type.ColType.TheVariants as kind
use Rattle.schema_models.specs.Folds.{fold_of}
use Rattle.schema_models.specs.ShapeView.{ShapeView}
use Rattle.schema_models.specs.declared.column_def.ColumnDef.{ColumnDef}
use Rattle.schema_models.specs.declared.model.Model.TheVariants as model
use Rattle.schema_models.specs.declared.role.Role.{Role}
use Rattle.schema_models.specs.declared.role.Role.TheVariants as role
use Rattle.sql_text.specs.declared.query.AggFn.TheVariants as fn
use Rattle.sql_text.specs.declared.query.Check.TheVariants as check
use Rattle.sql_text.specs.declared.query.CompareOp.{CompareOp}
use Rattle.sql_text.specs.declared.query.Filter.{Filter}
use Rattle.sql_text.specs.declared.query.Item.{Item}
use Rattle.sql_text.specs.declared.query.Item.TheVariants as item
use Rattle.sql_text.specs.declared.query.Literal.{Literal}
use Rattle.sql_text.specs.declared.query.Literal.TheVariants as literal
use Rattle.sql_text.specs.declared.query.OrderBy.{OrderBy}
use Rattle.sql_text.specs.declared.query.OrderKey.{OrderKey}
use Rattle.sql_text.specs.declared.query.Query.{Query}
use Rattle.select_defs.specs.Eval.{Answer, Eval}
use Rattle.select_defs.specs.Laws.{is_served_by_folds}
use Rattle.select_defs.specs.declared.select_error.SelectError.{SelectError}

-- `t (k INT, c INT, v BIGINT SUM) AGGREGATE KEY(k, c)`
abbrev pub k : List ℕ
k = codes "k"

abbrev pub c : List ℕ
c = codes "c"

abbrev pub v : List ℕ
v = codes "v"

abbrev pub column : List ℕ → ColType → Role → ColumnDef
column name t r = record { name = name; kind = t; nullable = true; role = r; default = None }

abbrev pub t : ShapeView
t = record { model = model.Aggregate; columns = column k kind.Int role.Key ∷ column c kind.Int role.Key ∷ column v kind.BigInt (role.Agg agg.Sum) ∷ [] }

-- `u (k VARCHAR(16), c DATE)` of the Duplicate model
abbrev pub u : ShapeView
u = record { model = model.Duplicate; columns = column k (kind.Varchar 16) role.Key ∷ column c kind.Date role.Plain ∷ [] }

abbrev pub int : ℕ → Cell
int n = cell.Int (pos n)

abbrev pub null : Cell
null = cell.Null

-- four rows of t: two of one k, one with a null, one with a null k
abbrev pub rows : List (List Cell)
rows = (int 1 ∷ int 1 ∷ int 10 ∷ []) ∷ (int 1 ∷ int 2 ∷ int 5 ∷ []) ∷ (int 2 ∷ int 1 ∷ null ∷ []) ∷ (null ∷ int 1 ∷ int 7 ∷ []) ∷ []

-- three rows of t as they are loaded: two of one key
abbrev pub loaded : List (List Cell)
loaded = (int 1 ∷ int 1 ∷ int 10 ∷ []) ∷ (int 1 ∷ int 1 ∷ int 5 ∷ []) ∷ (int 2 ∷ int 1 ∷ int 7 ∷ []) ∷ []

-- ---- queries

-- `SELECT .. FROM t`
abbrev pub select : List Item → Query
select items = record { table = codes "t"; star = false; items = items; filters = []; group = []; order = []; limit = None }

-- `SELECT * FROM t`
abbrev pub all : Query
all = record (select []) { star = true }

abbrev pub sum : List ℕ → Item
sum name = item.Agg fn.Sum name

-- a test of a column
abbrev pub that : List ℕ → CompareOp → Literal → Filter
that name o l = record { column = name; check = check.Compare o l }

abbrev pub is_null : List ℕ → Filter
is_null name = record { column = name; check = check.IsNull }

abbrev pub number : ℕ → Literal
number n = literal.Int (pos n)

-- a key of an order
abbrev pub ascending : OrderBy → OrderKey
ascending key = record { by = key; descending = false }

abbrev pub descending : OrderBy → OrderKey
descending key = record { by = key; descending = true }

-- what a query answers over rows of t
abbrev pub Answers : Query → List (List Cell) → List (List ℕ) → List (List ℕ) → List (List Cell) → Type 0
Answers q rows names types answer = Eval t t q rows ≡ Ok (record { names = names; types = types; rows = answer })

-- the rows that it answers, whatever the columns
abbrev pub Gives : ShapeView → Query → List (List Cell) → List (List Cell) → Type 0
Gives s q rows answer = (a : Answer) × (Eval s s q rows ≡ Ok a) × (a.rows ≡ answer)

abbrev pub Refuses : ShapeView → Query → SelectError → Type 0
Refuses s q e = Eval s s q [] ≡ Err e

-- a query that folds serve: what it gives over the loaded rows it gives over their fold
abbrev pub Serves : Query → List (List Cell) → Type 0
Serves q answer = (is_served_by_folds t t q ≡ true) × Gives t q loaded answer × Gives t q (fold_of t loaded) answer

-- one that they do not serve, with what it gives over the loaded rows and over their fold
abbrev pub Differs : Query → List (List Cell) → List (List Cell) → Type 0
Differs q answer other = (is_served_by_folds t t q ≡ false) × Gives t q loaded answer × Gives t q (fold_of t loaded) other
