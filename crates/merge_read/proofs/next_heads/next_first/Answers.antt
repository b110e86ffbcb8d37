use Rattle.std.proofs.Common.{◌<◌, ◌∷◌, length, arith}
use Rattle.merge_read.proofs.HeadLemmas.{read_at}
use Rattle.merge_read.proofs.next_heads.next_first.Goals as goal

pub returns-then-place-len-clause-read : goal.returns-then-place-len-clause-read
returns-then-place-len-clause-read g c =
    let rows = g.R.SortedRows.rows c.args.rows.now in
    let within : c.args.place < length rows = omega (arith, c.if-place-len.true, c.len.ensures.length) in
    read_at c.args.width c.args.list c.args.place rows c.row-row.result c.args.others.now.items (c.first_of.result ∷ c.first_of.new.self.items) c.new.result
    within c.row-row.ensures.row c.new.ensures.row c.new.ensures.width c.new.ensures.list c.first_of.ensures.moved
