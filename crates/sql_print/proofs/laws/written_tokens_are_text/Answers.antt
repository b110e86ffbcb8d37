use Rattle.sql_print.proofs.Utf8.{printed_text}
use Rattle.sql_print.proofs.laws.written_tokens_are_text.Goals as goal

pub returns : goal.returns
returns c = printed_text
