use Rattle.std.proofs.Common.{◌≡◌, drop, [], true}
use Rattle.sql_print.specs.Steps.{put}
use Rattle.sql_print.proofs.tokens.print_tokens.Given as goal

abbrev pub invariant-loop-token : goal.invariant-loop-token
invariant-loop-token l = put l.writer (drop l.token-index l.tokens) ≡ put ([], true) l.tokens
