-- CREATE and DROP are written so that they are read again.
use Rattle.std.proofs.Common.{◌≡◌, inl, inr, Option, Some, None, is_some, List, [], ◌∷◌, ◌++◌, refl, codes}
use Rattle.std.proofs.lemmas.List.{append-nil}
use Rattle.schema_models.specs.declared.model.Model.TheVariants as model
use Rattle.sql_tokens.specs.declared.token.Token.{Token}
use Rattle.sql_tokens.specs.declared.token.Sign.TheVariants as sign
use Rattle.sql_tokens.specs.declared.token.TokenKind.{TokenKind}
use Rattle.sql_tokens.specs.declared.token.TokenKind.TheVariants as kind
use Rattle.sql_text.specs.declared.stmt.Stmt.TheVariants as stmt
use Rattle.sql_text.specs.declared.query.Literal.{Literal}
use Rattle.sql_text.specs.declared.part.PartBounds.TheVariants as bounds
use Rattle.sql_grammar.specs.Lang.{Lang, Is, Or, Word, Means, Sign_, ◌>>=◌, ◌>>◌}
use Rattle.sql_text.specs.Names.{Literal_}
use Rattle.sql_text.specs.Create.{IfNotExists, IfExists, CreateDatabase, Column, Engine, KeyModel, KeyPart, HighEnd, LessThan, InBrackets, FromTo, Part_, Ranges_, Distributed, Buckets, Property_, PropertyList, Properties, Definition, CreateTable, Create, Drop}
use Rattle.sql_print.specs.Fit.{AreFit}
use Rattle.sql_print.specs.Parts.{maybe, when, keyword, literal_tokens}
use Rattle.sql_print.specs.ShownCreate.{if_not_exists, if_exists, column_tokens, model_word, key_clause_tokens, bracketed, end_tokens, bounds_tokens, part_tokens, ranges_tokens, distributed_tokens, buckets_tokens, property_tokens, properties_tokens, definition_end, definition_tokens, create_database_tokens, create_table_tokens, drop_table_tokens}
use Rattle.sql_print.specs.Shown.{shown}
use Rattle.sql_print.proofs.Prints.{Prints, Printed, By, is, part, last, or, list, optional, flag, skip, or_else_none, bind, whole}
use Rattle.sql_print.proofs.PrintsTokens.{word, sign_then, means, word_shown, word_prints, sign_prints, name_prints, count_prints, string_prints}
use Rattle.sql_print.proofs.PrintsParts.{commas_print, names_prints, literal_prints, type_prints, agg_prints, nullable_prints, default_prints, no_comment}

three : Prints (Word (codes "IF") >> (Word (codes "NOT") >> Word (codes "EXISTS"))) (By (λ _. if_not_exists))
unfolding if_not_exists
three = word (codes "IF") (refl, refl) (word (codes "NOT") (refl, refl) (whole (word_prints (codes "EXISTS") (refl, refl)) (λ _. refl)))

pub if_not_exists_prints : Prints IfNotExists (By (λ q. when q if_not_exists))
unfolding IfNotExists
if_not_exists_prints = last is_some (flag three) (λ o. refl)

two : Prints (Word (codes "IF") >> Word (codes "EXISTS")) (By (λ _. if_exists))
unfolding if_exists
two = word (codes "IF") (refl, refl) (whole (word_prints (codes "EXISTS") (refl, refl)) (λ _. refl))

if_exists_prints : Prints IfExists (By (λ q. when q if_exists))
unfolding IfExists
if_exists_prints = last is_some (flag two) (λ o. refl)

column_prints : Prints Column (By column_tokens)
unfolding Column column_tokens
column_prints =
    part name_prints (λ n.
    part type_prints (λ t.
    part (optional agg_prints) (λ a.
    part nullable_prints (λ u.
    part default_prints (λ d.
    skip tt no_comment (is _ (record { name = n; kind = t; agg = a; nullable = u; default = d }) (rw (append-nil (maybe _ d)) refl)))))))

model_prints : Prints KeyModel (By (λ m. keyword (model_word m)))
unfolding KeyModel model_word
model_prints =
    or (means (codes "DUPLICATE") (refl, refl) model.Duplicate refl)
    (or (means (codes "UNIQUE") (refl, refl) model.Unique refl) (means (codes "AGGREGATE") (refl, refl) model.Aggregate refl))

key_prints : Prints KeyPart (By key_clause_tokens)
unfolding KeyPart key_clause_tokens
key_prints = part model_prints (λ m. word (codes "KEY") (refl, refl) (last (λ ns. record { model = m; names = ns }) names_prints (λ ns. refl)))

pub bracketed_prints : Prints InBrackets (By bracketed)
unfolding InBrackets bracketed
bracketed_prints = sign_then sign.Open (part literal_prints (λ l. sign_then sign.Close (is _ l refl)))

-- the end in parentheses
inner : Option Literal → List TokenKind
inner None = keyword (codes "MAXVALUE")
inner (Some l) = literal_tokens l

within : Option Literal → List TokenKind
within e = kind.Sign sign.Open ∷ (inner e ++ (kind.Sign sign.Close ∷ []))

InParentheses : Lang (Option Literal)
InParentheses = do
  Sign_ sign.Open
  end ← Or (Means (codes "MAXVALUE") None) (Literal_ >>= λ l. Is (Some l))
  Sign_ sign.Close
  Is end

within_prints : Prints InParentheses (By within)
unfolding InParentheses inner within
within_prints =
    sign_then sign.Open
    (part {show = inner} (or (means (codes "MAXVALUE") (refl, refl) None refl) (last (λ l. Some l) literal_prints (λ l. refl)))
    (λ e. sign_then sign.Close (is _ e refl)))

end_prints : Prints HighEnd (By end_tokens)
unfolding HighEnd end_tokens bracketed InParentheses within literal_tokens inner
end_prints = record { law = go }
  where
    go : (y : Option Literal) (ts : List Token) → HighEnd y ts → AreFit ts → Printed HighEnd (By end_tokens) y
    go None ts h fit = let r = word_shown {R = By end_tokens} (codes "MAXVALUE") (refl, refl) None refl in record { tokens = r.tokens; right = r.right; writable = r.writable; spelled = λ us e. inl (r.spelled us e) }
    go (Some l) ts (inl h) fit = let e : None ≡ Some l = h.second.1 in absurd cc
    go (Some l) ts (inr h) fit = let r = within_prints.law (Some l) ts h fit in record { tokens = r.tokens; right = r.right; writable = r.writable; spelled = λ us e. inr (r.spelled us e) }

less_prints : Prints LessThan (By bounds_tokens)
unfolding LessThan bounds_tokens
less_prints = word (codes "LESS") (refl, refl) (word (codes "THAN") (refl, refl) (last bounds.Less end_prints (λ e. refl)))

from_to_prints : Prints FromTo (By bounds_tokens)
unfolding FromTo bounds_tokens
from_to_prints =
    sign_then sign.OpenRange
    (part bracketed_prints (λ low.
    sign_then sign.Comma
    (part bracketed_prints (λ high. sign_then sign.Close (is _ (bounds.Between low high) refl)))))

pub part_prints : Prints Part_ (By part_tokens)
unfolding Part_ part_tokens
part_prints =
    word (codes "PARTITION") (refl, refl)
    (part name_prints (λ n.
    word (codes "VALUES") (refl, refl)
    (last (λ b. record { name = n; bounds = b }) (or less_prints from_to_prints) (λ b. refl))))

ranges_print : Prints Ranges_ (By ranges_tokens)
unfolding Ranges_ ranges_tokens
ranges_print =
    word (codes "PARTITION") (refl, refl)
    (word (codes "BY") (refl, refl)
    (word (codes "RANGE") (refl, refl)
    (sign_then sign.Open
    (part name_prints (λ n.
    sign_then sign.Close
    (sign_then sign.Open
    (part (commas_print part_prints) (λ ps. sign_then sign.Close (is _ (record { column = n; parts = ps }) refl)))))))))

distributed_prints : Prints Distributed (By distributed_tokens)
unfolding Distributed distributed_tokens
distributed_prints =
    word (codes "DISTRIBUTED") (refl, refl)
    (word (codes "BY") (refl, refl)
    (word (codes "HASH") (refl, refl) (last (λ ns. ns) names_prints (λ ns. refl))))

buckets_print : Prints Buckets (By (maybe buckets_tokens))
unfolding Buckets buckets_tokens
buckets_print = optional (word (codes "BUCKETS") (refl, refl) (whole count_prints (λ n. refl)))

property_prints : Prints Property_ (By property_tokens)
unfolding Property_ property_tokens
property_prints = part string_prints (λ n. sign_then sign.Equal (last (λ v. record { name = n; value = v }) string_prints (λ v. refl)))

property_list_prints : Prints PropertyList (By properties_tokens)
unfolding PropertyList properties_tokens
property_list_prints =
    word (codes "PROPERTIES") (refl, refl)
    (sign_then sign.Open
    (bind {S = λ ps ks. kind.Word (codes "PROPERTIES") ∷ kind.Sign sign.Open ∷ (ks ++ (kind.Sign sign.Close ∷ [])) ≡ properties_tokens ps}
    (list (kind.Sign sign.Comma) (sign_prints sign.Comma) property_prints (λ p ps. refl))
    (λ ps ks e. sign_then sign.Close (is _ ps e))))

properties_print : Prints Properties (By properties_tokens)
unfolding Properties properties_tokens
properties_print = or_else_none [] refl property_list_prints

no_engine : Engine tt []
unfolding Engine
no_engine = record { value = None; front = []; back = []; parts = refl; first = refl; second = (refl, refl) }

pub definition_prints : Prints Definition (By definition_tokens)
unfolding Definition definition_tokens definition_end
definition_prints =
    sign_then sign.Open
    (part (commas_print column_prints) (λ cs.
    sign_then sign.Close
    (skip tt no_engine
    (part (optional key_prints) (λ k.
    skip tt no_comment
    (part (optional ranges_print) (λ r.
    part distributed_prints (λ h.
    part buckets_print (λ b.
    last (λ ps. record { columns = cs; key = k; ranges = r; hash = h; buckets = b; properties = ps }) properties_print (λ ps. refl))))))))))

create_database_prints : Prints CreateDatabase (λ s ks. kind.Word (codes "CREATE") ∷ ks ≡ shown s)
unfolding CreateDatabase shown create_database_tokens
create_database_prints = word (codes "DATABASE") (refl, refl) (part if_not_exists_prints (λ q. last (stmt.CreateDatabase q) name_prints (λ n. refl)))

create_table_prints : Prints CreateTable (λ s ks. kind.Word (codes "CREATE") ∷ ks ≡ shown s)
unfolding CreateTable shown create_table_tokens
create_table_prints =
    word (codes "TABLE") (refl, refl)
    (part if_not_exists_prints (λ q.
    part name_prints (λ n. last (stmt.CreateTable q n) definition_prints (λ d. refl))))

pub create_prints : Prints Create (By shown)
unfolding Create
create_prints = word (codes "CREATE") (refl, refl) (or create_database_prints create_table_prints)

pub drop_prints : Prints Drop (By shown)
unfolding Drop shown drop_table_tokens
drop_prints =
    word (codes "DROP") (refl, refl)
    (word (codes "TABLE") (refl, refl)
    (part if_exists_prints (λ q. last (stmt.DropTable q) name_prints (λ n. refl))))
