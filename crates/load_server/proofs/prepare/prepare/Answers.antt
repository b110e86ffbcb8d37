use Rattle.std.proofs.Common.{subst, sym}
use Rattle.csv_load.specs.declared.parsed.Parsed.{Parsed}
use Rattle.front_defs.specs.Stored.{AreRowsOf}
use Rattle.load_server.proofs.RowsOfBodies.{rows_are_of_plan}
use Rattle.load_server.proofs.prepare.prepare.Goals as goal

pub judge-requires : goal.judge-requires
judge-requires c =
    subst (λ (p : Parsed). AreRowsOf c.args.plan.base c.args.plan.layout p.rows) (sym c.in-Ok.ensures.parsed) (rows_are_of_plan c.args.plan c.args.options.now c.args.body.items)
