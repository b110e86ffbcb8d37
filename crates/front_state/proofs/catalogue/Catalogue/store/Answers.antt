use Rattle.front_state.proofs.catalogue.Catalogue.store.Goals as goal

pub invariant_of-self : goal.invariant_of-self
invariant_of-self c = record {
  keyed = c.self.invariant.keyed;
  known = c.store_in.ensures.known c.self.inside.last_table c.self.invariant.known;
  ascends = c.store_in.ensures.ascends;
  plain = c.self.invariant.plain;
}
