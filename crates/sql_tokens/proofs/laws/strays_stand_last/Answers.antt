use Rattle.sql_tokens.proofs.Strays.{last}
use Rattle.sql_tokens.proofs.laws.strays_stand_last.Goals as goal

pub returns : goal.returns
returns c = last
