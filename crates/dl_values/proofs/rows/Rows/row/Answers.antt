use Rattle.dl_values.proofs.CutLemmas.{length-cut}
use Rattle.dl_values.proofs.rows.Rows.row.Goals as goal

pub row_at-requires-clause-within : goal.row_at-requires-clause-within
row_at-requires-clause-within c = rw (c.as_slice.ensures.value, ← length-cut 0 c.self.inside.ends.items c.self.inside.cells.items, c.self.view_is) c.requires
