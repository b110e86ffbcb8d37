use Rattle.sqlite.specs.Held.{state}
use Rattle.keeper_sqlite.proofs.Meaning.{creates}
use Rattle.keeper_sqlite.proofs.statements.create.Goals as goal

pub returns : goal.returns
returns g c = λ clean none. creates _ _ c.execute.result none (c.execute.ensures.runs clean)
