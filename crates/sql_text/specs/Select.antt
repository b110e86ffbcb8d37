-- Queries over one table (Apache Doris documentation, "SELECT").
use Rattle.std.specs.Prelude.{ℕ, Bool, true, false, List, [], Option, codes}
use Rattle.sql_tokens.specs.declared.token.Sign.TheVariants as sign
use Rattle.sql_text.specs.declared.query.Query.{Query}
use Rattle.sql_text.specs.declared.query.Item.{Item}
use Rattle.sql_text.specs.declared.query.Item.TheVariants as item
use Rattle.sql_text.specs.declared.query.AggFn.{AggFn}
use Rattle.sql_text.specs.declared.query.AggFn.TheVariants as function
use Rattle.sql_text.specs.declared.query.Filter.{Filter}
use Rattle.sql_text.specs.declared.query.Check.{Check}
use Rattle.sql_text.specs.declared.query.Check.TheVariants as check
use Rattle.sql_text.specs.declared.query.CompareOp.{CompareOp}
use Rattle.sql_text.specs.declared.query.CompareOp.TheVariants as op
use Rattle.sql_text.specs.declared.query.OrderKey.{OrderKey}
use Rattle.sql_text.specs.declared.query.OrderBy.{OrderBy}
use Rattle.sql_text.specs.declared.query.OrderBy.TheVariants as by
use Rattle.sql_grammar.specs.Marks.{an_integer, a_word}
use Rattle.sql_grammar.specs.Lang.{Lang, Tok, Is, Or, Maybe, ListOf, Commas, Word, Sign_, Means, Stands, or_else, ◌>>=◌, ◌>>◌}
use Rattle.sql_text.specs.Names.{Name, Count, Literal_}

-- item := name | (SUM | MIN | MAX | COUNT) '(' name ')' | COUNT '(' '*' ')'
unfoldable pub Function : Lang AggFn
Function =
    Or (Means (codes "SUM") function.Sum)
    (Or (Means (codes "MIN") function.Min)
    (Or (Means (codes "MAX") function.Max) (Means (codes "COUNT") function.Count)))

unfoldable pub Aggregate : Lang Item
Aggregate = do
  f ← Function
  Sign_ sign.Open
  n ← Name
  Sign_ sign.Close
  Is (item.Agg f n)

unfoldable pub CountAll : Lang Item
CountAll = do
  Word (codes "COUNT")
  Sign_ sign.Open
  Sign_ sign.Star
  Sign_ sign.Close
  Is item.CountAll

unfoldable pub Item_ : Lang Item
Item_ = Or (Name >>= λ n. Is (item.Column n)) (Or Aggregate CountAll)

-- '*' | item {',' item}
unfoldable pub SelectList : Lang (Bool × List Item)
SelectList = Or (Stands sign.Star (true, [])) (Commas Item_ >>= λ xs. Is (false, xs))

-- test := name ('=' | '<>' | '!=' | '<' | '<=' | '>' | '>=') literal | name IS [NOT] NULL
unfoldable pub Operator : Lang CompareOp
Operator =
    Or (Stands sign.Equal op.Eq)
    (Or (Stands sign.Unequal op.Ne)
    (Or (Stands sign.Less op.Lt)
    (Or (Stands sign.AtMost op.Le)
    (Or (Stands sign.Greater op.Gt) (Stands sign.AtLeast op.Ge)))))

unfoldable pub Comparison : Lang Check
Comparison = do
  o ← Operator
  l ← Literal_
  Is (check.Compare o l)

unfoldable pub NullCheck : Lang Check
NullCheck = do
  Word (codes "IS")
  found ← Or (Means (codes "NULL") check.IsNull) (Word (codes "NOT") >> Means (codes "NULL") check.IsNotNull)
  Is found

unfoldable pub Test : Lang Filter
Test = do
  n ← Name
  c ← Or Comparison NullCheck
  Is (record { column = n; check = c })

-- [WHERE test {AND test}]
unfoldable pub Filters : Lang (List Filter)
Filters = do
  found ← Maybe (Word (codes "WHERE") >> ListOf (a_word (codes "AND")) Test)
  Is (or_else [] found)

-- [GROUP BY name {',' name}]
unfoldable pub Group : Lang (List (List ℕ))
Group = do
  found ← Maybe (Word (codes "GROUP") >> (Word (codes "BY") >> Commas Name))
  Is (or_else [] found)

-- key := (item | integer) [ASC | DESC]
unfoldable pub OrderBy_ : Lang OrderBy
OrderBy_ = Or (Item_ >>= λ i. Is (by.Item i)) (Tok an_integer >>= λ n. Is (by.Position n))

unfoldable pub Descending : Lang Bool
Descending = do
  found ← Maybe (Or (Means (codes "ASC") false) (Means (codes "DESC") true))
  Is (or_else false found)

unfoldable pub Key : Lang OrderKey
Key = do
  b ← OrderBy_
  d ← Descending
  Is (record { by = b; descending = d })

-- [ORDER BY key {',' key}]
unfoldable pub Order : Lang (List OrderKey)
Order = do
  found ← Maybe (Word (codes "ORDER") >> (Word (codes "BY") >> Commas Key))
  Is (or_else [] found)

-- [LIMIT integer]
unfoldable pub Limit : Lang (Option ℕ)
Limit = Maybe (Word (codes "LIMIT") >> Count)

-- SELECT ('*' | item {',' item}) FROM name [WHERE test {AND test}] [GROUP BY name {',' name}]
--   [ORDER BY key {',' key}] [LIMIT integer]
unfoldable pub Select : Lang Query
Select = do
  Word (codes "SELECT")
  list ← SelectList
  Word (codes "FROM")
  n ← Name
  filters ← Filters
  group ← Group
  order ← Order
  limit ← Limit
  Is (record { table = n; star = list.0; items = list.1; filters = filters; group = group; order = order; limit = limit })
