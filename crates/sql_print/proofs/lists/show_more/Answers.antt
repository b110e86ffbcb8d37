use Rattle.std.proofs.Common.{arith}
use Rattle.sql_print.specs.Parts.{separator_token}
use Rattle.sql_print.proofs.Listed.{more_next, more_end}
use Rattle.sql_print.proofs.lists.show_more.Goals as goal

pub loop-item-preserved : goal.loop-item-preserved
loop-item-preserved g c = more_next (separator_token c.args.separator) g.T.ShowTokens.shown c.loop-item.writer c.show_behind.new.writer _ c.args.items.now c.loop-item.item-index c.item-item.result (omega arith) c.item-item.is c.in_ok-show_behind.ensures c.loop-item.invariant

pub returns : goal.returns
returns g c = more_end (separator_token c.args.separator) g.T.ShowTokens.shown c.loop-item.writer _ c.args.items.now c.loop-item.item-index (omega arith) c.loop-item.invariant
