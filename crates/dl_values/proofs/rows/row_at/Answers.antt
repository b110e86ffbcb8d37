use Rattle.std.proofs.Common.{◌∙◌}
use Rattle.dl_values.proofs.CutLemmas.{end_within, row_is, length_front}
use Rattle.dl_values.proofs.rows.row_at.Goals as goal

pub split_at-requires : goal.split_at-requires
split_at-requires c = end_within c.args.ends.now c.args.cells.now c.args.place c.requires.cut c.requires.within

pub split_at-requires-2 : goal.split_at-requires-2
split_at-requires-2 c = rw (c.split_at.ensures.front, c.start_at.ensures) (length_front c.args.ends.now c.args.cells.now c.args.place c.requires.cut c.requires.within)

pub returns : goal.returns
returns c = c.split_at-2.ensures.back ∙ rw (c.split_at.ensures.front, c.start_at.ensures) (row_is c.args.ends.now c.args.cells.now c.args.place c.requires.cut c.requires.within)
