use Rattle.std.proofs.Common.{◌≤◌, subst}
use Rattle.front_state.specs.Catalogued.{IsPlainTable}
use Rattle.front_state.specs.Parts.{CatalogueView}
use Rattle.front_state.proofs.Named.{each_plain}
use Rattle.front_state.proofs.Tablets.{each_seen}
use Rattle.front_laws.specs.Tidy.{Each}
use Rattle.front_state.proofs.catalogue.Catalogue.vouch.Goals as goal

pub returns-clause-known : goal.returns-clause-known
returns-clause-known c = subst (λ (v : CatalogueView). Each (λ k. k.table ≤ v.last_table) v.tablets) c.self.view_is (each_seen c.self.inside.last_table c.self.inside.tablets.items c.self.invariant.known)

pub returns-clause-plain : goal.returns-clause-plain
returns-clause-plain c = subst (λ (v : CatalogueView). Each IsPlainTable v.tables) c.self.view_is (each_plain c.self.inside.tables.entries c.self.invariant.plain)
