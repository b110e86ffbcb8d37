use Rattle.partitions.proofs.Places.{place_of_key, place_within, place_stays}
use Rattle.partitions.proofs.Apart.{one_part}
use Rattle.partitions.proofs.laws.a_row_has_one_place.Goals as goal

pub returns-clause-one : goal.returns-clause-one
returns-clause-one c = one_part

pub returns-clause-by_key : goal.returns-clause-by_key
returns-clause-by_key c = place_of_key

pub returns-clause-within : goal.returns-clause-within
returns-clause-within c = place_within

pub returns-clause-stays : goal.returns-clause-stays
returns-clause-stays c = place_stays
