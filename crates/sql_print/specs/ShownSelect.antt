-- The tokens of queries.
use Rattle.std.specs.Prelude.{ℕ, pos, Bool, true, false, List, [], ◌∷◌, ◌++◌, codes}
use Rattle.sql_tokens.specs.declared.token.Sign.TheVariants as sign
use Rattle.sql_tokens.specs.declared.token.TokenKind.{TokenKind}
use Rattle.sql_tokens.specs.declared.token.TokenKind.TheVariants as kind
use Rattle.sql_text.specs.declared.query.Query.{Query}
use Rattle.sql_text.specs.declared.query.Item.{Item}
use Rattle.sql_text.specs.declared.query.Item.TheVariants as item
use Rattle.sql_text.specs.declared.query.AggFn.{AggFn}
use Rattle.sql_text.specs.declared.query.AggFn.TheVariants as function
use Rattle.sql_text.specs.declared.query.Filter.{Filter}
use Rattle.sql_text.specs.declared.query.Check.{Check}
use Rattle.sql_text.specs.declared.query.Check.TheVariants as check
use Rattle.sql_text.specs.declared.query.CompareOp.{CompareOp}
use Rattle.sql_text.specs.declared.query.CompareOp.TheVariants as op
use Rattle.sql_text.specs.declared.query.OrderKey.{OrderKey}
use Rattle.sql_text.specs.declared.query.OrderBy.{OrderBy}
use Rattle.sql_text.specs.declared.query.OrderBy.TheVariants as by
use Rattle.sql_print.specs.Parts.{maybe, when, separated, commas, keyword, name, literal_tokens}

unfoldable pub function_tokens : AggFn → List TokenKind
function_tokens function.Sum = keyword (codes "SUM")
function_tokens function.Min = keyword (codes "MIN")
function_tokens function.Max = keyword (codes "MAX")
function_tokens function.Count = keyword (codes "COUNT")

unfoldable pub item_tokens : Item → List TokenKind
item_tokens (item.Column n) = name n
item_tokens (item.Agg f n) = function_tokens f ++ (kind.Sign sign.Open ∷ kind.Quoted n ∷ kind.Sign sign.Close ∷ [])
item_tokens item.CountAll = kind.Word (codes "COUNT") ∷ kind.Sign sign.Open ∷ kind.Sign sign.Star ∷ kind.Sign sign.Close ∷ []

-- of the select list
unfoldable pub list_tokens : Bool → List Item → List TokenKind
list_tokens true items = kind.Sign sign.Star ∷ []
list_tokens false items = commas item_tokens items

unfoldable pub operator_tokens : CompareOp → List TokenKind
operator_tokens op.Eq = kind.Sign sign.Equal ∷ []
operator_tokens op.Ne = kind.Sign sign.Unequal ∷ []
operator_tokens op.Lt = kind.Sign sign.Less ∷ []
operator_tokens op.Le = kind.Sign sign.AtMost ∷ []
operator_tokens op.Gt = kind.Sign sign.Greater ∷ []
operator_tokens op.Ge = kind.Sign sign.AtLeast ∷ []

unfoldable pub check_tokens : Check → List TokenKind
check_tokens (check.Compare o l) = operator_tokens o ++ literal_tokens l
check_tokens check.IsNull = kind.Word (codes "IS") ∷ kind.Word (codes "NULL") ∷ []
check_tokens check.IsNotNull = kind.Word (codes "IS") ∷ kind.Word (codes "NOT") ∷ kind.Word (codes "NULL") ∷ []

unfoldable pub filter_tokens : Filter → List TokenKind
filter_tokens f = kind.Quoted f.column ∷ check_tokens f.check

unfoldable pub where_tokens : List Filter → List TokenKind
where_tokens [] = []
where_tokens (f ∷ fs) = kind.Word (codes "WHERE") ∷ separated (kind.Word (codes "AND")) filter_tokens (f ∷ fs)

unfoldable pub group_tokens : List (List ℕ) → List TokenKind
group_tokens [] = []
group_tokens (n ∷ ns) = kind.Word (codes "GROUP") ∷ kind.Word (codes "BY") ∷ commas name (n ∷ ns)

unfoldable pub by_tokens : OrderBy → List TokenKind
by_tokens (by.Item i) = item_tokens i
by_tokens (by.Position n) = kind.Int n ∷ []

-- ASC is not written
unfoldable pub key_tokens : OrderKey → List TokenKind
key_tokens k = by_tokens k.by ++ when k.descending (keyword (codes "DESC"))

unfoldable pub order_tokens : List OrderKey → List TokenKind
order_tokens [] = []
order_tokens (k ∷ ks) = kind.Word (codes "ORDER") ∷ kind.Word (codes "BY") ∷ commas key_tokens (k ∷ ks)

unfoldable pub limit_tokens : ℕ → List TokenKind
limit_tokens n = kind.Word (codes "LIMIT") ∷ kind.Int (pos n) ∷ []

-- what stands behind the name of the table
unfoldable pub query_end : Query → List TokenKind
query_end q = where_tokens q.filters ++ (group_tokens q.group ++ (order_tokens q.order ++ maybe limit_tokens q.limit))

unfoldable pub query_tokens : Query → List TokenKind
query_tokens q = kind.Word (codes "SELECT") ∷ (list_tokens q.star q.items ++ (kind.Word (codes "FROM") ∷ kind.Quoted q.table ∷ query_end q))
