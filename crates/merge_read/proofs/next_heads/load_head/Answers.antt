use Rattle.std.proofs.Common.{◌∙◌}
use Rattle.merge_read.proofs.HeadLemmas.{read_one}
use Rattle.merge_read.proofs.next_heads.load_head.Goals as goal

pub returns-clause-read : goal.returns-clause-read
returns-clause-read g c =
    read_one c.args.width c.args.list (g.R.SortedRows.rows c.args.rows.now) c.row-row.result c.args.others.now.items c.put.new.self.items c.new.result
    (λ e. c.if-len-eq0.false (c.len.ensures.length ∙ e)) c.row-row.ensures.row c.new.ensures.row c.new.ensures.width c.new.ensures.list c.put.ensures.moved
