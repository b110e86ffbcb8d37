use Rattle.sql_tokens.specs.Tokens.{tokens_of}
use Rattle.sql_text.proofs.Parsing.{at_most_one}
use Rattle.sql_text.proofs.laws.statements_are_unique.Goals as goal

pub returns : goal.returns
returns c = λ s t text h k. at_most_one (tokens_of text) s t h k
