use Rattle.front_laws.proofs.Journals.{journal_twice}
use Rattle.front_laws.proofs.laws.records_are_told_once.Goals as goal

pub returns : goal.returns
returns c = journal_twice
