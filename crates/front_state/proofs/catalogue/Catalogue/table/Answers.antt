use Rattle.std.proofs.Common.{◌∙◌, ◌&&◌}
use Rattle.std.specs.Map.{lookup}
use Rattle.std.specs.Str.{bytes_eq}
use Rattle.front_state.proofs.Named.{lookup_plain, plain_in, table_is}
use Rattle.front_state.proofs.catalogue.Catalogue.table.Goals as goal

pub returns-clause-is : goal.returns-clause-is
returns-clause-is c = rw (← c.self.view_is) (c.get.ensures.value ∙ table_is c.args.db.now c.args.name.now c.self.inside.tables.entries c.self.invariant.keyed)

pub returns-clause-plain : goal.returns-clause-plain
returns-clause-plain c = plain_in c.get.result (lookup (λ k. bytes_eq c.args.db.now k.db && bytes_eq c.args.name.now k.name) c.self.inside.tables.entries) c.get.ensures.value (λ t e. lookup_plain (λ k. bytes_eq c.args.db.now k.db && bytes_eq c.args.name.now k.name) c.self.inside.tables.entries t c.self.invariant.plain e)
