-- Which of the heads of several lists comes first: the one of the least key, and of one key that of the oldest list.
use Rattle.std.specs.Prelude.{List, take}
use Rattle.std.specs.Cmp.{IsTotalOrder}
use Rattle.std.specs.Ordering.{flip_args, nat_cmp, on, then_cmp}
use Rattle.std.specs.declared.cmp.Ordering.{Ordering}
use Rattle.std.proofs.lemmas.Cmp.{back_total, nat_cmp_total, on_total, then_total}
use Rattle.dl_values.specs.Order.{row_cmp}
use Rattle.dl_values.specs.OrderLemmas.{rows_total}
use Rattle.dl_values.specs.declared.cell.Cell.{Cell}
use Rattle.merge_read.specs.declared.head.Head.{Head}

-- the key of a head
abbrev pub head_key : Head → List Cell
head_key h = take h.width h.row

-- by key, and then by the age of the list
abbrev pub by_age : Head → Head → Ordering
by_age = then_cmp (on head_key row_cmp) (on (λ h. h.list) nat_cmp)

-- a heap gives its greatest first, so that the first is the greatest
abbrev pub head_cmp : Head → Head → Ordering
head_cmp = flip_args by_age

pub heads_total : IsTotalOrder head_cmp
heads_total = back_total (then_total (on_total head_key rows_total) (on_total (λ h. h.list) nat_cmp_total))
