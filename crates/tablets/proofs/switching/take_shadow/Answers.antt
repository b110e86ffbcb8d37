use Rattle.tablets.proofs.Loops.{taken}
use Rattle.tablets.proofs.switching.take_shadow.Goals as goal

pub returns-in-Some : goal.returns-in-Some
returns-in-Some c = taken c.deref.result.now c.args.indexes.now.items c.remove.new.self.items c.in-Some.place c.args.job c.in-Some.number c.remove.result c.deref.ensures.value c.in-Some.ensures c.remove.ensures.value c.remove.ensures.items
