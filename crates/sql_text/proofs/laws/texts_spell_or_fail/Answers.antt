use Rattle.sql_text.proofs.FaultLaws.{told}
use Rattle.sql_text.proofs.laws.texts_spell_or_fail.Goals as goal

pub returns : goal.returns
returns c = told
