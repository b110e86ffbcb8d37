-- Queries are written so that they are read again.
use Rattle.std.proofs.Common.{◌≡◌, true, false, [], ◌∷◌, refl, ap, codes, ◌∙◌}
use Rattle.std.proofs.lemmas.List.{append-nil}
use Rattle.sql_tokens.specs.declared.token.Sign.TheVariants as sign
use Rattle.sql_tokens.specs.declared.token.TokenKind.TheVariants as kind
use Rattle.sql_text.specs.declared.query.Item.TheVariants as item
use Rattle.sql_text.specs.declared.query.AggFn.TheVariants as function
use Rattle.sql_text.specs.declared.query.Check.TheVariants as check
use Rattle.sql_text.specs.declared.query.CompareOp.TheVariants as op
use Rattle.sql_text.specs.declared.query.OrderBy.TheVariants as by
use Rattle.sql_text.specs.Select.{Function, Aggregate, CountAll, Item_, SelectList, Operator, Comparison, NullCheck, Test, Filters, Group, OrderBy_, Descending, Key, Order, Limit, Select}
use Rattle.sql_print.specs.Parts.{maybe, when, keyword}
use Rattle.sql_print.specs.ShownSelect.{function_tokens, item_tokens, list_tokens, operator_tokens, check_tokens, filter_tokens, where_tokens, group_tokens, by_tokens, key_tokens, order_tokens, limit_tokens, query_end, query_tokens}
use Rattle.sql_print.proofs.Prints.{Prints, By, is, part, last, or, list, optional, usual, or_else_none, bind, whole}
use Rattle.sql_print.proofs.PrintsTokens.{word, sign_then, means, stands, word_prints, sign_prints, name_prints, count_prints, integer_prints}
use Rattle.sql_print.proofs.PrintsParts.{commas_print, literal_prints}

function_prints : Prints Function (By function_tokens)
unfolding Function function_tokens
function_prints =
    or (means (codes "SUM") (refl, refl) function.Sum refl)
    (or (means (codes "MIN") (refl, refl) function.Min refl)
    (or (means (codes "MAX") (refl, refl) function.Max refl) (means (codes "COUNT") (refl, refl) function.Count refl)))

aggregate_prints : Prints Aggregate (By item_tokens)
unfolding Aggregate item_tokens
aggregate_prints = part function_prints (λ f. sign_then sign.Open (part name_prints (λ n. sign_then sign.Close (is _ (item.Agg f n) refl))))

count_all_prints : Prints CountAll (By item_tokens)
unfolding CountAll item_tokens
count_all_prints = word (codes "COUNT") (refl, refl) (sign_then sign.Open (sign_then sign.Star (sign_then sign.Close (is _ item.CountAll refl))))

pub item_prints : Prints Item_ (By item_tokens)
unfolding Item_ item_tokens
item_prints = or (last item.Column name_prints (λ n. refl)) (or aggregate_prints count_all_prints)

pub select_list_prints : Prints SelectList (By (λ l. list_tokens l.0 l.1))
unfolding SelectList list_tokens
select_list_prints = or (stands sign.Star (true, []) refl) (last (λ xs. (false, xs)) (commas_print item_prints) (λ xs. refl))

operator_prints : Prints Operator (By operator_tokens)
unfolding Operator operator_tokens
operator_prints =
    or (stands sign.Equal op.Eq refl)
    (or (stands sign.Unequal op.Ne refl)
    (or (stands sign.Less op.Lt refl)
    (or (stands sign.AtMost op.Le refl)
    (or (stands sign.Greater op.Gt refl) (stands sign.AtLeast op.Ge refl)))))

comparison_prints : Prints Comparison (By check_tokens)
unfolding Comparison check_tokens
comparison_prints = part operator_prints (λ o. last (check.Compare o) literal_prints (λ l. refl))

null_check_prints : Prints NullCheck (By check_tokens)
unfolding NullCheck check_tokens
null_check_prints =
    word (codes "IS") (refl, refl)
    (bind {S = λ c ks. kind.Word (codes "IS") ∷ ks ≡ check_tokens c}
    (or (means (codes "NULL") (refl, refl) check.IsNull refl) (word (codes "NOT") (refl, refl) (means (codes "NULL") (refl, refl) check.IsNotNull refl)))
    (λ c ks e. is _ c (ap (λ x. kind.Word (codes "IS") ∷ x) (append-nil ks) ∙ e)))

test_prints : Prints Test (By filter_tokens)
unfolding Test filter_tokens
test_prints = part name_prints (λ n. last (λ c. record { column = n; check = c }) (or comparison_prints null_check_prints) (λ c. refl))

pub filters_print : Prints Filters (By where_tokens)
unfolding Filters where_tokens
filters_print = or_else_none [] refl (word (codes "WHERE") (refl, refl) (list (kind.Word (codes "AND")) (word_prints (codes "AND") (refl, refl)) test_prints (λ f fs. refl)))

pub group_prints : Prints Group (By group_tokens)
unfolding Group group_tokens
group_prints = or_else_none [] refl (word (codes "GROUP") (refl, refl) (word (codes "BY") (refl, refl) (list (kind.Sign sign.Comma) (sign_prints sign.Comma) name_prints (λ n ns. refl))))

by_prints : Prints OrderBy_ (By by_tokens)
unfolding OrderBy_ by_tokens
by_prints = or (last by.Item item_prints (λ i. refl)) (last by.Position integer_prints (λ n. refl))

descending_prints : Prints Descending (By (λ d. when d (keyword (codes "DESC"))))
unfolding Descending when
descending_prints = usual false refl (λ x ts h. h.second.1) (means (codes "DESC") (refl, refl) true refl)

key_prints : Prints Key (By key_tokens)
unfolding Key key_tokens
key_prints = part by_prints (λ b. last (λ d. record { by = b; descending = d }) descending_prints (λ d. refl))

pub order_prints : Prints Order (By order_tokens)
unfolding Order order_tokens
order_prints = or_else_none [] refl (word (codes "ORDER") (refl, refl) (word (codes "BY") (refl, refl) (list (kind.Sign sign.Comma) (sign_prints sign.Comma) key_prints (λ k ks. refl))))

pub limit_prints : Prints Limit (By (maybe limit_tokens))
unfolding Limit limit_tokens
limit_prints = optional (word (codes "LIMIT") (refl, refl) (whole count_prints (λ n. refl)))

pub select_prints : Prints Select (By query_tokens)
unfolding Select query_tokens query_end
select_prints =
    word (codes "SELECT") (refl, refl)
    (part select_list_prints (λ l.
    word (codes "FROM") (refl, refl)
    (part name_prints (λ n.
    part filters_print (λ fs.
    part group_prints (λ g.
    part order_prints (λ o.
    last (λ m. record { table = n; star = l.0; items = l.1; filters = fs; group = g; order = o; limit = m }) limit_prints (λ m. refl))))))))
