use Rattle.sql_print.proofs.Puts.{then_put}
use Rattle.sql_print.proofs.create.show_values.Goals as goal

pub returns : goal.returns
returns c = then_put c.args.writer.now c.word.new.self _ _ _ c.in_ok-word.ensures (then_put c.word.new.self c.name.new.self _ _ _ c.in_ok-name.ensures c.in_ok-word-2.ensures)
