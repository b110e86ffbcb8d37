use Rattle.sql_print.proofs.Fits.{are_fit}
use Rattle.sql_print.proofs.laws.tokens_of_texts_can_be_written.Goals as goal

pub returns : goal.returns
returns c = are_fit
