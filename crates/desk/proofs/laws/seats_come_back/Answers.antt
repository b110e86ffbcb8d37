use Rattle.desk.proofs.Back.{took_in, stayed, back_again, all_in_one}
use Rattle.desk.proofs.laws.seats_come_back.Goals as goal

pub returns-clause-taken : goal.returns-clause-taken
returns-clause-taken g c = took_in

pub returns-clause-calls : goal.returns-clause-calls
returns-clause-calls g c = stayed

pub returns-clause-again : goal.returns-clause-again
returns-clause-again g c = back_again

pub returns-clause-all : goal.returns-clause-all
returns-clause-all g c = all_in_one
