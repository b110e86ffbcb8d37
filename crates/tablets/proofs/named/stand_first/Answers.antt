use Rattle.std.proofs.Common.{◌≤◌, length, sym, ◌∙◌, arith}
use Rattle.tablets.proofs.Merging.{none_left}
use Rattle.tablets.proofs.named.stand_first.Goals as goal

pub returns-in-None : goal.returns-in-None
returns-in-None c =
    let past : length c.args.lists.now ≤ c.loop-i.i = c.in-None.ensures.lookup.3 in
    sym (none_left c.args.versions.now c.args.lists.now c.loop-i.i (omega arith) past) ∙ c.loop-i.invariant
