use Rattle.desk.proofs.Everyone.{all_split}
use Rattle.desk.proofs.laws.split_seats_are_all.Goals as goal

pub returns : goal.returns
returns g c = all_split
