use Rattle.std.proofs.Common.{◌∙◌, ap, take}
use Rattle.select_defs.specs.Orders.{ordered}
use Rattle.select_eval.proofs.ShownLaws.{trimmed}
use Rattle.select_eval.proofs.first_rows.trim.Goals as goal

pub returns-clause-same : goal.returns-clause-same
returns-clause-same c =
    trimmed c.args.list.now c.args.query.now c.in-Some.limit c.args.rows.now.items c.truncate.new.self.items c.in-Some.is
    (c.truncate.ensures.items ∙ ap (take c.in-Some.limit) (c.in_ok-sort.ensures ∙ ap (λ keys. ordered c.args.list.now keys c.args.rows.now.items) c.as_slice.ensures))
