use Rattle.row_map.proofs.Conversion.{admitted_join}
use Rattle.row_map.proofs.laws.admitted_rollups_join.Goals as goal

pub returns : goal.returns
returns c = admitted_join
