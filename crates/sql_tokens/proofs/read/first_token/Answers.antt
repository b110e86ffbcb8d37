use Rattle.sql_tokens.proofs.Fronts.{no_token, a_token, token_shorter}
use Rattle.sql_tokens.proofs.read.first_token.Goals as goal

pub returns-in-None-clause-token : goal.returns-in-None-clause-token
returns-in-None-clause-token c = no_token c.args.all c.args.left.now c.split_at.result.1.now c.run_length.result c.run_length.ensures.count c.split_at.ensures.back (rw c.in-None.is at c.in_ok-front.ensures)

pub returns-in-Some-clause-token : goal.returns-in-Some-clause-token
returns-in-Some-clause-token c = rw c.place-at.ensures (a_token c.args.all c.args.left.now c.split_at.result.1.now c.in-Some.behind.now c.in-Some.kind c.run_length.result c.run_length.ensures.count c.split_at.ensures.back (rw c.in-Some.is at c.in_ok-front.ensures))

pub returns-in-Some-clause-shorter : goal.returns-in-Some-clause-shorter
returns-in-Some-clause-shorter c = token_shorter c.args.left.now c.split_at.result.1.now c.in-Some.behind.now c.in-Some.kind c.run_length.result c.split_at.ensures.back (rw c.in-Some.is at c.in_ok-front.ensures)
