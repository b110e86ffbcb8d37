use Rattle.std.proofs.Common.{arith}
use Rattle.sql_print.specs.Parts.{separator_token}
use Rattle.sql_print.proofs.Listed.{list_shown}
use Rattle.sql_print.proofs.lists.show_list.Goals as goal

pub returns-in_ok-show_more-in-len1-up : goal.returns-in_ok-show_more-in-len1-up
returns-in_ok-show_more-in-len1-up g c = list_shown (separator_token c.args.separator) g.T.ShowTokens.shown c.args.writer.now c.show.new.writer c.show_more.new.writer c.args.items.now c.first-item.result (omega arith) c.first-item.is c.in_ok-show-in-len1-up.ensures c.in_ok-show_more-in-len1-up.ensures
