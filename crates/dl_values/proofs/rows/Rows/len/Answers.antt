use Rattle.std.proofs.Common.{◌∙◌, ap, sym, length}
use Rattle.dl_values.proofs.CutLemmas.{length-cut}
use Rattle.dl_values.proofs.rows.Rows.len.Goals as goal

pub returns : goal.returns
returns c = ap length c.as_slice.ensures.value ∙ sym (length-cut 0 c.self.inside.ends.items c.self.inside.cells.items) ∙ ap length c.self.view_is
