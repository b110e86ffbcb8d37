use Rattle.std.proofs.Common.{◌≡◌, ◌∙◌, ◌+◌, ◌++◌, ◌∷◌, [], None, refl, rules, subst, sym}
use Rattle.std.specs.Map.{values_of}
use Rattle.front_defs.specs.Catalogue.{table_named}
use Rattle.front_defs.specs.declared.catalogue.Table.{Table}
use Rattle.front_state.specs.Catalogued.{IsPlainTable, key_of}
use Rattle.front_state.specs.Parts.{table_of}
use Rattle.front_state.proofs.Named.{table_is, table_more}
use Rattle.front_state.proofs.catalogue.Catalogue.add_table.Goals as goal

pub put_table-requires : goal.put_table-requires
put_table-requires c =
    let k : c.in_ok-key.key ≡ record { db = c.args.db; name = c.args.name } = search rules in
    let r : table_named c.args.db c.args.name (values_of c.self.inside.tables.entries) ≡ None = rw (← c.self.view_is) at c.requires.new in
    rw k (table_is c.args.db c.args.name c.self.inside.tables.entries c.self.invariant.keyed ∙ r)

pub invariant_of-self-2 : goal.invariant_of-self-2
invariant_of-self-2 c =
    let e : c.put_table.new.tables.entries ≡ c.self.inside.tables.entries ++ (c.in_ok-key.key, c.in_ok-table.table) ∷ [] = search rules in
    let p : c.push.new.self.items ≡ c.self.inside.tablets.items ++ c.in_ok-tablets.tablets ∷ [] = search rules in
    let n : c.in-Some.number ≡ c.self.inside.last_table + 1 = search rules in
    let t : c.in_ok-tablets.tablets.table ≡ c.in-Some.number = search rules in
    let k : c.in_ok-key.key ≡ key_of c.in_ok-table.table = search rules in
    let made : c.in_ok-table.table ≡ table_of c.args.db c.args.name c.args.shape c.args.layout c.in-Some.number = search rules in
    let plain : IsPlainTable c.in_ok-table.table = subst (λ (x : Table). IsPlainTable x) (sym made) (record { laid = c.requires.laid; rollups = refl }) in
    rw (e, p) (table_more c.self.inside.tables.entries c.self.inside.tablets.items c.self.inside.last_table c.in-Some.number c.in_ok-key.key c.in_ok-table.table c.in_ok-tablets.tablets k n t plain c.self.invariant)
