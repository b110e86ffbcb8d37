use Rattle.std.proofs.Common.{arith}
use Rattle.sql_print.proofs.Puts.{put_next}
use Rattle.sql_print.proofs.Finished.{at_end}
use Rattle.sql_print.proofs.tokens.print_tokens.Goals as goal

pub loop-token-preserved : goal.loop-token-preserved
loop-token-preserved c = put_next c.loop-token.writer c.add_token.new.writer _ c.args.tokens.now c.loop-token.token-index c.token-item.result (omega arith) c.token-item.is c.in_ok-add_token.ensures c.loop-token.invariant

pub returns : goal.returns
returns c = c.finish.ensures c.args.tokens.now (at_end c.loop-token.writer _ c.args.tokens.now c.loop-token.token-index (omega arith) c.loop-token.invariant)
