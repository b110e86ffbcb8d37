-- What an answer shows of rows of which some were left out.
use Rattle.std.proofs.Common.{◌≡◌, ℕ, List, [], ◌∷◌, ◌++◌, Option, Some, take, sym, ap, ◌∙◌, append_assoc, append-nil}
use Rattle.dl_values.specs.declared.cell.Cell.{Cell}
use Rattle.sql_text.specs.declared.query.Item.{Item}
use Rattle.sql_text.specs.declared.query.Query.{Query}
use Rattle.select_defs.specs.Orders.{limited, ordered}
use Rattle.select_defs.proofs.OrderLaws.{order_same, order_total}
use Rattle.select_eval.specs.Shown.{ShowAlike, shown}
use Rattle.select_eval.proofs.FirstRows.{first_rows}

-- the first rows in the order of the answer, where so many are asked for
pub trimmed : (items : List Item) (q : Query) (n : ℕ) (xs new : List (List Cell)) → q.limit ≡ Some n → new ≡ take n (ordered items q.order xs) → ShowAlike items q new xs
trimmed items q n xs new l e = λ rest.
    ap (λ (m : Option ℕ). limited m (ordered items q.order (new ++ rest))) l
    ∙ ap (λ ys. take n (ordered items q.order (ys ++ rest))) e
    ∙ first_rows (order_total items q.order) (order_same items q.order) n xs rest
    ∙ ap (λ (m : Option ℕ). limited m (ordered items q.order (xs ++ rest))) (sym l)

-- a row more, and then some left out
pub one_more_shown : (items : List Item) (q : Query) (all more new left rest whole : List (List Cell)) (row made : List Cell) → ShowAlike items q new more → more ≡ all ++ made ∷ [] → made ≡ row → left ≡ row ∷ rest
    → shown items q (all ++ left) ≡ shown items q whole → shown items q (new ++ rest) ≡ shown items q whole
one_more_shown items q all more new left rest whole row made a e r l h =
    a rest ∙ ap (shown items q) (ap (λ x. x ++ rest) e ∙ append_assoc all (made ∷ []) rest ∙ ap (λ x. all ++ x ∷ rest) r ∙ ap (λ x. all ++ x) (sym l)) ∙ h

pub no_more_shown : (items : List Item) (q : Query) (all left whole : List (List Cell)) → left ≡ [] → shown items q (all ++ left) ≡ shown items q whole → shown items q all ≡ shown items q whole
no_more_shown items q all left whole e h = ap (shown items q) (sym (append-nil all) ∙ ap (λ x. all ++ x) (sym e)) ∙ h
