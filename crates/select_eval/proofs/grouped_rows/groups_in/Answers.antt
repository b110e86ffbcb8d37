use Rattle.std.proofs.Common.{◌∙◌, ap, sym}
use Rattle.select_eval.specs.Grouping.{put, put_all}
use Rattle.select_eval.specs.Passing.{still_passing}
use Rattle.select_eval.proofs.grouped_rows.groups_in.Goals as goal

pub rows-preserved : goal.rows-preserved
rows-preserved g c =
    let by = c.args.grouping.now in
    let rest = still_passing c.args.conditions.now c.next_passing.new.merge in
    record {
      so_far = ap (λ es. put_all by es rest) (c.in_ok-put.ensures ∙ ap (put by c.rows.all.entries) c.present.ensures)
          ∙ ap (put_all by c.rows.all.entries) (sym c.rows-test.ensures.next) ∙ c.rows.invariant.so_far;
      counted = c.rows-test.ensures.counted ∙ c.rows.invariant.counted;
    }
