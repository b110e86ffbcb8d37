use Rattle.std.proofs.Common.{[], refl, subst, sym}
use Rattle.front_defs.specs.Stands.{Stands, View}
use Rattle.load_server.proofs.solo.Solo.new.Goals as goal

pub returns : goal.returns
returns c = record { stands = subst (λ (v : View). Stands v []) (sym c.new.ensures) c.an_empty_front_stands_for_nothing.ensures; legal = tt; unmarked = tt; same = refl }
