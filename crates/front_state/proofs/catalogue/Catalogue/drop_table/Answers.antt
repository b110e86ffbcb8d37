use Rattle.std.proofs.Common.{◌≡◌, ◌∙◌}
use Rattle.front_state.proofs.Dropped.{less_catalogued, view_less}
use Rattle.front_state.proofs.catalogue.Catalogue.drop_table.Goals as goal

pub invariant_of-self : goal.invariant_of-self
invariant_of-self c = rw (c.drop_named.ensures, c.drop_stored.ensures) (less_catalogued c.args.table c.self.inside.last_table c.self.inside.tables.entries c.self.inside.tablets.items c.self.invariant)

pub returns : goal.returns
returns c = rw (← c.self.view_is, c.drop_named.ensures, c.drop_stored.ensures) (view_less c.args.table c.self.inside.databases.keys c.self.inside.tables.entries c.self.inside.last_table c.self.inside.tablets.items)
