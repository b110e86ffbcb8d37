use Rattle.desk.proofs.Back.{stayed}
use Rattle.desk_tests.proofs.work.one.Goals as goal

pub returns-clause-back : goal.returns-clause-back
returns-clause-back g c = stayed _ _ c.add-replies.ensures.same
