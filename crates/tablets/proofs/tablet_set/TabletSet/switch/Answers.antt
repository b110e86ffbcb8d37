use Rattle.tablets.proofs.tablet_set.TabletSet.switch.Goals as goal

pub invariant_of-self : goal.invariant_of-self
invariant_of-self c = record { marks = c.switch_shadows.ensures.marks; indexes = c.switch_shadows.ensures.sized c.self.inside.parts c.self.inside.buckets c.self.invariant.indexes }
