use Rattle.std.proofs.Common.{◌∙◌, ap, map}
use Rattle.select_eval.specs.Outputs.{cells_in}
use Rattle.select_eval.specs.Passing.{still_passing}
use Rattle.select_eval.proofs.ShownLaws.{one_more_shown}
use Rattle.select_eval.proofs.output_rows.plain_rows.Goals as goal

pub rows-preserved : goal.rows-preserved
rows-preserved g c =
    let cells = cells_in c.args.places.now in
    record {
      so_far = one_more_shown c.args.list.now c.args.query.now c.rows.all.items c.push.new.self.items c.trim.new.rows.items (map cells (still_passing c.args.conditions.now c.rows.merge)) (map cells (still_passing c.args.conditions.now c.next_passing.new.merge))
          (map cells (still_passing c.args.conditions.now c.args.merge.now)) (cells c.next_passing.new.merge.present) c.in_ok-plain_row.field-0
          c.in_ok-trim.ensures.same c.in_ok-push.ensures.items (c.in_ok-plain_row.ensures ∙ ap cells c.present.ensures) (ap (map cells) c.rows-test.ensures.next) c.rows.invariant.so_far;
      few = c.in_ok-trim.ensures.few;
      counted = c.rows-test.ensures.counted ∙ c.rows.invariant.counted;
    }
