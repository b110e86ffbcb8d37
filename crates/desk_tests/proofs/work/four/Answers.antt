use Rattle.desk.proofs.Back.{took_in}
use Rattle.desk_tests.proofs.work.four.Goals as goal

pub returns-clause-back : goal.returns-clause-back
returns-clause-back g c =
    let t = c.join-seat in
    took_in _ _ _ _ _ _ c.split-other.ensures.views.0 c.split-other.ensures.views.1 c.join.ensures.view t.result.0.0.idle.2 t.result.1.0.idle.2 t.ensures.first.1 t.ensures.second.1
