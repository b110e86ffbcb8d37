use Rattle.std.proofs.Common.{rules}
use Rattle.csv_load.proofs.Cells.{int_pushed}
use Rattle.csv_load.proofs.row.push_cell.Goals as goal

pub returns-in-Some : goal.returns-in-Some
returns-in-Some c = search (rules, int_pushed c.args.strict c.args.column.now c.args.field.now c.args.row.now c.in-Some.value c.in-Some.ensures.reads)
