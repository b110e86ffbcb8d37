use Rattle.sql_print.proofs.Again.{read_again}
use Rattle.sql_print.proofs.laws.tokens_are_read_again.Goals as goal

pub returns : goal.returns
returns c = read_again
