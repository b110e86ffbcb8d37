-- What is above the greatest of some cells is not below their least.
use Rattle.std.proofs.Common.{◌≡◌, List, true, cond, fold, sym, ap, ◌∙◌}
use Rattle.std.specs.Ordering.{is_gt, is_lt}
use Rattle.dl_values.specs.Order.{cell_cmp}
use Rattle.dl_values.specs.OrderLemmas.{cells_total}
use Rattle.dl_values.specs.declared.cell.Cell.{Cell}
use Rattle.zones.specs.Ends.{higher, lower}
use Rattle.zones.proofs.Bounds.{greater_less, less_greater, up_to_below, up_to_up_to}
use Rattle.zones.proofs.Extremes.{greatest_down, least_up, not_up}

pub least_stays : (first : Cell) (xs : List Cell) (x : Cell) → is_gt (cell_cmp x (fold higher first xs)) ≡ true → lower (fold lower first xs) x ≡ fold lower first xs
least_stays first xs x above = ap (λ b. cond b x low) (less_greater cells_total x low ∙ not_up low x under)
  where
    low : Cell
    low = fold lower first xs

    high : Cell
    high = fold higher first xs

    under : is_lt (cell_cmp low x) ≡ true
    under =
        up_to_below cells_total low high x
        (up_to_up_to cells_total low first high (least_up first xs).0 (greater_less cells_total first high ∙ (greatest_down first xs).0))
        (sym (greater_less cells_total x high) ∙ above)
