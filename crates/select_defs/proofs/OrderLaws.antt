-- The order of an answer is total, and only equal rows tie.
use Rattle.std.proofs.Common.{◌≡◌, Bool, true, false, List, [], ◌∷◌, sym, ap, ◌∙◌}
use Rattle.std.specs.Cmp.{IsTotalOrder}
use Rattle.std.specs.FinMap.{IsAntisymmetric}
use Rattle.std.specs.Ordering.{on, flip_args, ordering_reverse, ordering_then}
use Rattle.std.specs.declared.cmp.Ordering.{Ordering}
use Rattle.std.specs.declared.cmp.Ordering.TheVariants.{Less, Equal, Greater}
use Rattle.std.proofs.lemmas.Cmp.{back_total, on_total, then_total}
use Rattle.dl_values.specs.Order.{cell_cmp}
use Rattle.dl_values.specs.OrderLemmas.{cells_total, rows_same, rows_total}
use Rattle.dl_values.specs.declared.cell.Cell.{Cell}
use Rattle.sql_text.specs.declared.query.Item.{Item}
use Rattle.sql_text.specs.declared.query.OrderKey.{OrderKey}
use Rattle.select_defs.specs.Orders.{cell_at, directed, key_cmp, order_cmp, place_by}

reversed_total : (f : List Cell → Cell) → IsTotalOrder (λ x y. ordering_reverse (cell_cmp (f x) (f y)))
reversed_total f = record {
  antisymm = λ x y. sym (e x y) ∙ b.antisymm x y ∙ ap ordering_reverse (e y x);
  trans = λ x y z h g. sym (e x z) ∙ b.trans x y z (e x y ∙ h) (e y z ∙ g);
  congr = λ x y z h. sym (e x z) ∙ b.congr x y z (e x y ∙ h) ∙ e y z;
}
  where
    b : IsTotalOrder (flip_args (on f cell_cmp))
    b = back_total (on_total f cells_total)

    e : (x y : List Cell) → cell_cmp (f y) (f x) ≡ ordering_reverse (cell_cmp (f x) (f y))
    e x y = cells_total.antisymm (f y) (f x)

directed_total : (d : Bool) (f : List Cell → Cell) → IsTotalOrder (λ x y. directed d (cell_cmp (f x) (f y)))
directed_total true f = reversed_total f
directed_total false f = on_total f cells_total

pub order_total : (items : List Item) (keys : List OrderKey) → IsTotalOrder (order_cmp items keys)
order_total items [] = rows_total
order_total items (k ∷ ks) = then_total (directed_total k.descending (λ row. cell_at row (place_by items k.by))) (order_total items ks)

then_equal : (o p : Ordering) → ordering_then o p ≡ Equal → p ≡ Equal
then_equal Less p e = cc
then_equal Equal p e = e
then_equal Greater p e = cc

pub order_same : (items : List Item) (keys : List OrderKey) → IsAntisymmetric (order_cmp items keys)
order_same items [] = rows_same
order_same items (k ∷ ks) = λ a b e. order_same items ks a b (then_equal (key_cmp items k a b) (order_cmp items ks a b) e)
