use Rattle.std.proofs.Common.{◌≡◌, List, refl, map, sym, subst, true}
use Rattle.std.specs.Prelude.{is_some}
use Rattle.tablets.specs.Parting.{IsOnTheWay, put_for}
use Rattle.tablets.specs.SetView.{IndexView, index_at}
use Rattle.tablets.specs.Shadows.{AreApart, marks_of, numbers}
use Rattle.tablets.proofs.Loops.{placed, refill_map}
use Rattle.tablets.proofs.Switch.{index_is_there, marks_without}
use Rattle.tablets.proofs.switching.replace_one.Goals as goal

pub put_in_place-requires : goal.put_in_place-requires
put_in_place-requires c =
    let mid = c.take_shadow.new.indexes.items in
    let h = c.in-Some.ensures {u = tt} in
    let k = marks_without c.args.job c.in-Some.number c.in-Some.shadow c.args.indexes.now.items mid h.1 h.0 c.requires in
    record {
      there = subst (λ (is : List IndexView). is_some (index_at c.in-Some.number is) ≡ true) (sym c.deref_mut.ensures.value) (index_is_there c.in-Some.number mid k.1);
      apart = subst (λ (is : List IndexView). AreApart (numbers (marks_of is))) (sym c.deref_mut.ensures.value) k.0.numbers_apart;
    }

pub returns-in-Some-clause-step : goal.returns-in-Some-clause-step
returns-in-Some-clause-step c =
    let mid = c.take_shadow.new.indexes.items in
    let h = c.in-Some.ensures {u = tt} in
    let f = put_for c.in-Some.number c.in-Some.shadow in
    subst (λ (is : List IndexView). IsOnTheWay c.args.job c.args.indexes.now.items is) (sym (refill_map c.take_shadow.new.indexes.len f mid c.deref_mut.result.now c.put_in_place.new.indexes _ c.deref_mut.ensures.value c.deref_mut.ensures.len c.put_in_place.ensures))
    (placed c.args.job c.in-Some.number c.in-Some.shadow c.args.indexes.now.items mid (map f mid) h.0 h.1 c.requires refl)
