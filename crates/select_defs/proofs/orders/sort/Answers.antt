use Rattle.std.proofs.Common.{List, rules}
use Rattle.std.specs.Ordering.{is_lt}
use Rattle.std.proofs.lemmas.List.Sorted.{ranks_by}
use Rattle.std.proofs.lemmas.Fn.{always_returns_same}
use Rattle.dl_values.specs.declared.cell.Cell.{Cell}
use Rattle.fold_laws.proofs.Streams.{sort_is}
use Rattle.select_defs.specs.Orders.{order_cmp}
use Rattle.select_defs.proofs.OrderLaws.{order_same, order_total}
use Rattle.select_defs.proofs.orders.sort.Goals as goal

pub returns : goal.returns
returns c =
    let items = c.args.list.now in
    let keys = c.args.keys.now in
    let total = order_total items keys in
    let less = λ (x y : List Cell). is_lt (order_cmp items keys x y) in
    let row = λ (x : List Cell). x in
    let sorted = c.in_ok-sort_by.ensures.sorted less (ranks_by total row) (always_returns_same _ _ _ (λ a r g h. (search rules, search rules))) in
    let stable = c.sort_by.ensures.stable less (ranks_by total row) (always_returns_same _ _ _ (λ a r g h. (search rules, search rules))) in
    sort_is total row (order_same items keys) c.args.rows.now.items c.sort_by.new.self.items sorted stable
