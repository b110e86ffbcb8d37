use Rattle.std.proofs.Common.{◌≡◌, Some, rules}
use Rattle.front_defs.specs.Stands.{waiting_for}
use Rattle.front_defs.specs.Transactions.{due}
use Rattle.front_core.specs.Parts.{StoresSets}
use Rattle.txn_core.specs.Seen.{seen, sets_in}
use Rattle.front_core.proofs.Texts.{published_by}
use Rattle.front_core.proofs.front.Front.publish.Goals as goal

pub returns-in-Ok-clause-well : goal.returns-in-Ok-clause-well
returns-in-Ok-clause-well c = λ _.
    let k = c.in-Some.load.now in
    let old = c.args.self.now in
    let f : Some (seen k) ≡ due old.txns = search rules in
    let w : waiting_for k.id 0 old.waiting ≡ sets_in k.held = search rules in
    let t : StoresSets k.table (sets_in k.held) old.tablets c.store_held.new.catalogue.tablets = search rules in
    published_by c.args.at old k c.store_held.new.catalogue.tablets _ f w t (search rules)
