use Rattle.std.proofs.Common.{◌∙◌, ap, sym}
use Rattle.dl_values.specs.Cuts.{start_of}
use Rattle.dl_values.proofs.CutLemmas.{start_first, start_later}
use Rattle.dl_values.proofs.rows.start_at.Goals as goal

pub returns-then-place-eq0 : goal.returns-then-place-eq0
returns-then-place-eq0 c = start_first c.args.ends.now ∙ ap (start_of 0 c.args.ends.now) (sym c.if-place-eq0.true)

pub returns : goal.returns
returns c = start_later c.args.ends.now c.args.place c.if-place-eq0.false c.requires
