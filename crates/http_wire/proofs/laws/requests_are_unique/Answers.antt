use Rattle.http_wire.proofs.Unique.{unique}
use Rattle.http_wire.proofs.laws.requests_are_unique.Goals as goal

pub returns : goal.returns
returns c = unique
