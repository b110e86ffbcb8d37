use Rattle.dl_values.proofs.ViewLemmas.{every-all}
use Rattle.dl_values.proofs.row_view.RowView.of_cells.Goals as goal

pub returns : goal.returns
returns c = every-all c.args.cells.now
