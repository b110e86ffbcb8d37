-- Reading queries.
use Rattle.std.specs.Prelude.{ℕ, Bool, true, false, List, [], ◌∷◌, Option, Some, None, codes, if◌then◌else◌}
use Rattle.std.specs.Str.{bytes_eq}
use Rattle.sql_tokens.specs.declared.token.Token.{Token}
use Rattle.sql_tokens.specs.declared.token.TokenKind.{TokenKind}
use Rattle.sql_tokens.specs.declared.token.TokenKind.TheVariants as kind
use Rattle.sql_tokens.specs.declared.token.Sign.{Sign}
use Rattle.sql_tokens.specs.declared.token.Sign.TheVariants as sign
use Rattle.sql_text.specs.declared.query.Query.{Query}
use Rattle.sql_text.specs.declared.query.Item.{Item}
use Rattle.sql_text.specs.declared.query.Item.TheVariants as item
use Rattle.sql_text.specs.declared.query.AggFn.{AggFn}
use Rattle.sql_text.specs.declared.query.AggFn.TheVariants as function
use Rattle.sql_text.specs.declared.query.Filter.{Filter}
use Rattle.sql_text.specs.declared.query.Check.{Check}
use Rattle.sql_text.specs.declared.query.Check.TheVariants as check
use Rattle.sql_text.specs.declared.query.CompareOp.{CompareOp}
use Rattle.sql_text.specs.declared.query.CompareOp.TheVariants as op
use Rattle.sql_text.specs.declared.query.OrderKey.{OrderKey}
use Rattle.sql_text.specs.declared.query.OrderBy.{OrderBy}
use Rattle.sql_text.specs.declared.query.OrderBy.TheVariants as by
use Rattle.sql_grammar.specs.Marks.{Mark, marked_word, marked_sign, marked_name, matches, is_reserved, lower}
use Rattle.sql_grammar.specs.Lang.{or_else}
use Rattle.sql_grammar.specs.Reading.{Reader, is, either, maybe, tok, one, list_of, word_at, sign_at, name_at, integer_at, count_at, means_at, stands_at, commas_at, ◌>>=◌, ◌>>◌}
use Rattle.sql_text.specs.ReadNames.{word_or, literal_at}

-- the sign with its value, or else another reader
abbrev pub sign_or : {A : Type 0} → Sign → A → Reader A → Reader A
sign_or s x other = either (one (marked_sign s)) (stands_at s x) other

-- the function that a word in lower case names
unfoldable pub function_of : List ℕ → Option AggFn
function_of w =
    if bytes_eq w (lower (codes "SUM")) then Some function.Sum
    else if bytes_eq w (lower (codes "MIN")) then Some function.Min
    else if bytes_eq w (lower (codes "MAX")) then Some function.Max
    else if bytes_eq w (lower (codes "COUNT")) then Some function.Count
    else None

-- a name, and the function that it names out of backquotes
abbrev pub head_in : TokenKind → Option (List ℕ × Option AggFn)
head_in (kind.Word v) = if is_reserved (lower v) then None else Some (v, function_of (lower v))
head_in (kind.Quoted v) = Some (v, None)
head_in k = None

abbrev pub a_head : Token → Option (List ℕ × Option AggFn)
a_head t = head_in t.kind

unfoldable pub head_at : Reader (List ℕ × Option AggFn)
head_at = tok a_head

-- what stands in the parentheses of a function
unfoldable pub column_in_at : AggFn → Reader Item
column_in_at f = do
  n ← name_at
  sign_at sign.Close
  is (item.Agg f n)

unfoldable pub star_in_at : Reader Item
star_in_at = do
  sign_at sign.Star
  sign_at sign.Close
  is item.CountAll

unfoldable pub inside_at : AggFn → Reader Item
inside_at function.Count = either (one (marked_sign sign.Star)) star_in_at (column_in_at function.Count)
inside_at f = column_in_at f

unfoldable pub call_at : AggFn → Reader Item
call_at f = sign_at sign.Open >> inside_at f

unfoldable pub after_head_at : List ℕ × Option AggFn → Reader Item
after_head_at (n, Some f) = either (one (marked_sign sign.Open)) (call_at f) (is (item.Column n))
after_head_at (n, None) = is (item.Column n)

unfoldable pub item_at : Reader Item
item_at = head_at >>= after_head_at

unfoldable pub select_list_at : Reader (Bool × List Item)
select_list_at = sign_or sign.Star (true, []) (commas_at item_at >>= λ xs. is (false, xs))

unfoldable pub operator_at : Reader CompareOp
operator_at =
    sign_or sign.Equal op.Eq
    (sign_or sign.Unequal op.Ne
    (sign_or sign.Less op.Lt
    (sign_or sign.AtMost op.Le
    (sign_or sign.Greater op.Gt (stands_at sign.AtLeast op.Ge)))))

abbrev pub operator_first : List Mark
operator_first = marked_sign sign.Equal ∷ marked_sign sign.Unequal ∷ marked_sign sign.Less ∷ marked_sign sign.AtMost ∷ marked_sign sign.Greater ∷ marked_sign sign.AtLeast ∷ []

unfoldable pub comparison_at : Reader Check
comparison_at = do
  o ← operator_at
  l ← literal_at
  is (check.Compare o l)

unfoldable pub null_check_at : Reader Check
null_check_at = do
  word_at (codes "IS")
  found ← word_or (codes "NULL") check.IsNull (word_at (codes "NOT") >> means_at (codes "NULL") check.IsNotNull)
  is found

unfoldable pub check_at : Reader Check
check_at = either (matches operator_first) comparison_at null_check_at

unfoldable pub test_at : Reader Filter
test_at = do
  n ← name_at
  c ← check_at
  is (record { column = n; check = c })

unfoldable pub filters_at : Reader (List Filter)
filters_at = do
  found ← maybe (one (marked_word (codes "WHERE"))) (word_at (codes "WHERE") >> list_of (marked_word (codes "AND")) (word_at (codes "AND")) test_at)
  is (or_else [] found)

unfoldable pub group_at : Reader (List (List ℕ))
group_at = do
  found ← maybe (one (marked_word (codes "GROUP"))) (word_at (codes "GROUP") >> (word_at (codes "BY") >> commas_at name_at))
  is (or_else [] found)

unfoldable pub order_by_at : Reader OrderBy
order_by_at = either (one marked_name) (item_at >>= λ i. is (by.Item i)) (integer_at >>= λ n. is (by.Position n))

unfoldable pub descending_at : Reader Bool
descending_at = do
  found ← maybe (matches (marked_word (codes "ASC") ∷ marked_word (codes "DESC") ∷ [])) (word_or (codes "ASC") false (means_at (codes "DESC") true))
  is (or_else false found)

unfoldable pub key_at : Reader OrderKey
key_at = do
  b ← order_by_at
  d ← descending_at
  is (record { by = b; descending = d })

unfoldable pub order_at : Reader (List OrderKey)
order_at = do
  found ← maybe (one (marked_word (codes "ORDER"))) (word_at (codes "ORDER") >> (word_at (codes "BY") >> commas_at key_at))
  is (or_else [] found)

unfoldable pub limit_at : Reader (Option ℕ)
limit_at = maybe (one (marked_word (codes "LIMIT"))) (word_at (codes "LIMIT") >> count_at)

unfoldable pub select_at : Reader Query
select_at = do
  word_at (codes "SELECT")
  list ← select_list_at
  word_at (codes "FROM")
  n ← name_at
  filters ← filters_at
  group ← group_at
  order ← order_at
  limit ← limit_at
  is (record { table = n; star = list.0; items = list.1; filters = filters; group = group; order = order; limit = limit })
