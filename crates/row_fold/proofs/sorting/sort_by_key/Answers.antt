use Rattle.std.proofs.Common.{rules}
use Rattle.std.specs.Ordering.{is_lt}
use Rattle.std.proofs.lemmas.List.Sorted.{ranks_by}
use Rattle.std.proofs.lemmas.Fn.{always_returns_same}
use Rattle.dl_values.specs.OrderLemmas.{rows_total, rows_same}
use Rattle.dl_values.specs.Order.{row_cmp}
use Rattle.fold_laws.proofs.Streams.{ascends_sorted, of_stable}
use Rattle.row_fold.specs.Sorted.{keyed_key}
use Rattle.row_fold.specs.declared.keyed.Keyed.{Keyed}
use Rattle.row_fold.proofs.sorting.sort_by_key.Goals as goal

pub returns-clause-ascends : goal.returns-clause-ascends
returns-clause-ascends c =
    let s = c.args.rule.now.shape.now in
    let sorted = c.in_ok-sort_by.ensures.sorted (λ (x y : Keyed). is_lt (row_cmp (keyed_key s x) (keyed_key s y))) (ranks_by rows_total (λ (k : Keyed). keyed_key s k)) (always_returns_same _ _ _ (λ a r g h. (search rules, search rules))) in
    ascends_sorted rows_total (λ (k : Keyed). keyed_key s k) c.sort_by.new.self.items sorted

pub returns-clause-same : goal.returns-clause-same
returns-clause-same c =
    let s = c.args.rule.now.shape.now in
    let stable = c.sort_by.ensures.stable (λ (x y : Keyed). is_lt (row_cmp (keyed_key s x) (keyed_key s y))) (ranks_by rows_total (λ (k : Keyed). keyed_key s k)) (always_returns_same _ _ _ (λ a r g h. (search rules, search rules))) in
    of_stable rows_total (λ (k : Keyed). keyed_key s k) c.args.rows.now.items c.sort_by.new.self.items rows_same stable
