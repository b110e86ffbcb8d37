use Rattle.std.proofs.Common.{rules, not, nat_eq}
use Rattle.std.proofs.lemmas.Fn.{filter_same}
use Rattle.front_state.specs.declared.stored_table.StoredTable.{StoredTable}
use Rattle.front_state.proofs.catalogue.drop_stored.Goals as goal

pub returns : goal.returns
returns c = filter_same _ (λ (k : StoredTable). not (nat_eq k.table c.args.table)) _ (λ x b f k. search rules) _ _ c.retain.ensures.filtered
