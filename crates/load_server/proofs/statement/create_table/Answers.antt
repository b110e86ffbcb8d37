use Rattle.std.proofs.Common.{refl, sym, ap, false}
use Rattle.front_defs.specs.declared.command.Command.TheVariants as command
use Rattle.front_defs.specs.Script.{Asks}
use Rattle.sql_text.specs.declared.table_def.TableDef.{TableDef}
use Rattle.load_server.specs.Scripts.{after_create}
use Rattle.load_server.proofs.Going.{answered_as, answered_done, answered_lacking, answered_now}
use Rattle.load_server.proofs.statement.create_table.Goals as goal

pub returns-in-Ok : goal.returns-in-Ok
returns-in-Ok g c = λ seen own s.
    answered_done _ seen own _ _ _
    (answered_as _ seen own _ _ _ (ap (λ (d : TableDef). Asks (command.CreateTable c.args.db c.args.table d false) after_create) (sym c.in-Ok.ensures)) (c.make_table.ensures seen own s))

pub returns-in-Err : goal.returns-in-Err
returns-in-Err g c = λ seen own s. answered_lacking _ seen own _ _ _ (answered_now _ seen own _ _ s (refl, refl))
