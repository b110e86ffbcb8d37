use Rattle.std.proofs.Common.{refl}
use Rattle.load_server.proofs.Going.{answered_now, by_done, by_lacking}
use Rattle.load_server.proofs.loading.load.Goals as goal

pub returns-in-Ok : goal.returns-in-Ok
returns-in-Ok g c = λ seen own s. by_done _ seen own _ _ _ (c.begin.ensures seen own s)

pub returns-in-Err : goal.returns-in-Err
returns-in-Err g c = λ seen own s. by_lacking _ seen own _ _ _ (answered_now _ seen own _ _ s (refl, refl))
