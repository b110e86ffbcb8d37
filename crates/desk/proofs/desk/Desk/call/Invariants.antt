use Rattle.desk.specs.Books.{newest}
use Rattle.desk.specs.Turn.{IsEvent}
use Rattle.desk.proofs.desk.Desk.call.Given as goal

abbrev pub ghosts-record : goal.ghosts-record
ghosts-record g a = let E = g.E.Engine in record { fits = IsEvent E.is_call E.stands E.legal a.place.now.me.0 a.said.now.value a.reply.now a.engine.now }

abbrev pub ghosts-write : goal.ghosts-write
ghosts-write g a = record { entry = newest a.place.now.me.0.held }
