use Rattle.load_requests.specs.Tokens.{front, tokens_of}
use Rattle.load_requests.proofs.Fronts.{starts_at, seen_by}
use Rattle.load_requests.proofs.token.first_token.Goals as goal

pub returns : goal.returns
returns c =
    seen_by (λ x. (x.0, x.1.now, x.2.now)) c.lexeme.result (front c.split_at.result.1.now) (tokens_of c.args.text.now) c.lexeme.ensures
    (starts_at c.args.text.now c.split_at.result.1.now c.run_length.result c.run_length.ensures.count c.split_at.ensures.back)
