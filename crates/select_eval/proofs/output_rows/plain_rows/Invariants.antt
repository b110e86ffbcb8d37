-- Of the first rows that pass, those are kept that may be shown.
use Rattle.std.proofs.Common.{◌≡◌, ◌+◌, ◌*◌, ◌≤◌, ◌++◌, IfSome, length, map}
use Rattle.select_eval.specs.Outputs.{cells_in}
use Rattle.select_eval.specs.Passing.{still_passing}
use Rattle.select_eval.specs.Shown.{shown}
use Rattle.select_eval.proofs.output_rows.plain_rows.Given as goal

abbrev pub invariant-rows : goal.invariant-rows
invariant-rows g l = record {
  so_far : shown l.list l.query (l.all.items ++ map (cells_in l.places) (still_passing l.conditions l.merge)) ≡ shown l.list l.query (map (cells_in l.places) (still_passing l.conditions l.initial.merge));
  few : IfSome l.query.limit (λ n. length l.all.items ≤ 2 * n + 16);
  counted : l.steps + l.merge.unread ≡ l.initial.steps + l.initial.merge.unread;
}

abbrev pub decreases-rows : goal.decreases-rows
decreases-rows g l = length (still_passing l.conditions l.merge)
