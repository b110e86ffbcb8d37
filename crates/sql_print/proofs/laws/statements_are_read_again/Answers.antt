use Rattle.sql_print.proofs.PrintsStatement.{can_be_written, read_as_written}
use Rattle.sql_print.proofs.Fits.{are_fit}
use Rattle.sql_print.proofs.laws.statements_are_read_again.Goals as goal

pub returns : goal.returns
returns c = record {
  writable = λ s text u h. can_be_written s text h (are_fit text u);
  again = λ s text u h. read_as_written s text h (are_fit text u);
}
