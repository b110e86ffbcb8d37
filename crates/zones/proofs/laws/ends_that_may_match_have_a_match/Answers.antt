use Rattle.zones.proofs.Between.{matched}
use Rattle.zones.proofs.laws.ends_that_may_match_have_a_match.Goals as goal

pub returns : goal.returns
returns c = λ o l e n h. matched l e n o h
