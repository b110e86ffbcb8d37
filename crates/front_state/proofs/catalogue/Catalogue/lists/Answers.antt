use Rattle.std.proofs.Common.{◌≡◌, ◌∙◌, IfOk, Option, Some, ap, find, map, nat_eq, rules, subst, sym}
use Rattle.std.specs.Option.{option_map}
use Rattle.front_defs.specs.Stands.{TableTablets, stored_for}
use Rattle.rowsets.specs.RowsetView.{rowset_rows}
use Rattle.front_state.specs.Parts.{CatalogueView}
use Rattle.front_state.specs.Tablets.{base_lists, table_seen}
use Rattle.front_state.specs.declared.stored_table.StoredTable.{StoredTable}
use Rattle.front_state.proofs.Tablets.{seen_found}
use Rattle.front_state.proofs.catalogue.Catalogue.lists.Goals as goal

pub returns-in-Some : goal.returns-in-Some
returns-in-Some c =
    let f : Some c.in-Some.stored.now ≡ find (λ (k : StoredTable). nat_eq k.table c.args.table.now.number) c.self.inside.tablets.items = search rules in
    let e : Some (table_seen c.in-Some.stored.now) ≡ stored_for c.args.table.now.number c.args.self.now.tablets =
    ap (λ (o : Option StoredTable). option_map (λ (k : StoredTable). table_seen k) o) f
    ∙ (sym (seen_found c.args.table.now.number c.self.inside.tablets.items) ∙ ap (λ (v : CatalogueView). stored_for c.args.table.now.number v.tablets) c.self.view_is) in
    subst (λ (o : Option TableTablets). IfOk c.shared_lists.result (λ lists. map (λ l. rowset_rows l.value) lists ≡ base_lists c.args.table.now.layout o)) e c.shared_lists.ensures
