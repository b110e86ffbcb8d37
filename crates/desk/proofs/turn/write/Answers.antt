use Rattle.std.proofs.Common.{ap, ◌∙◌}
use Rattle.desk.specs.Books.{newest}
use Rattle.desk.proofs.turn.write.Goals as goal

pub add-requires : goal.add-requires
add-requires g c = (c.requires.held.0, c.requires.picked ∙ ap newest c.requires.held.2)

pub returns : goal.returns
returns g c e log held = c.add.ensures e (c.requires.picked ∙ ap newest held)
