use Rattle.sql_tokens.proofs.Longest.{is_longest, is_none}
use Rattle.sql_tokens.proofs.laws.strings_are_longest.Goals as goal

pub returns : goal.returns
returns c = record { longest = is_longest; none = is_none }
