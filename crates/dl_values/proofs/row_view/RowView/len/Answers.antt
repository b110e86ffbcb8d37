use Rattle.std.proofs.Common.{◌∙◌, ap, length, sym}
use Rattle.dl_values.proofs.ViewLemmas.{length-every}
use Rattle.dl_values.proofs.row_view.RowView.len.Goals as goal

pub returns : goal.returns
returns c = sym (length-every c.self.inside.count c.self.inside.step c.self.inside.at c.self.inside.cells.now) ∙ ap length c.self.view_is
