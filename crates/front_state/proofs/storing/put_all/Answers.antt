use Rattle.std.proofs.Common.{◌≡◌, ◌∷◌, length, ap, subst, arith}
use Rattle.std.specs.Vec.Iter.{into_iter_items}
use Rattle.front_state.proofs.Putting.{ArePut, one_put}
use Rattle.front_state.proofs.storing.put_all.Goals as goal

pub loop-list-preserved : goal.loop-list-preserved
loop-list-preserved c =
    let all = into_iter_items c.into_iter-list-iterator.result in
    let rest = into_iter_items c.next.new.self in
    let steps : into_iter_items c.loop-list.list-iterator ≡ c.in-Some.list ∷ rest = c.in-Some.ensures.steps.0 in
    let was = c.loop-list.invariant.many in
    let gone = c.in-Some.ensures.steps.1 in
    let short = ap length steps in
    record {
      put = one_put all rest c.in-Some.list c.args.set.now c.loop-list.set c.put.new.self c.put.ensures (subst (λ ls. ArePut all ls c.args.set.now c.loop-list.set) steps c.loop-list.invariant.put);
      many = omega (arith, was, gone, short);
    }
