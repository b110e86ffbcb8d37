use Rattle.sql_print.proofs.Puts.{then_put}
use Rattle.sql_print.proofs.create.show_by_range.Goals as goal

pub returns : goal.returns
returns c =
    then_put c.args.writer.now c.word.new.self _ _ _ c.in_ok-word.ensures
    (then_put c.word.new.self c.word-2.new.self _ _ _ c.in_ok-word-2.ensures
    (then_put c.word-2.new.self c.word-3.new.self _ _ _ c.in_ok-word-3.ensures
    (then_put c.word-3.new.self c.sign.new.self _ _ _ c.in_ok-sign.ensures
    (then_put c.sign.new.self c.name.new.self _ _ _ c.in_ok-name.ensures c.in_ok-sign-2.ensures))))
