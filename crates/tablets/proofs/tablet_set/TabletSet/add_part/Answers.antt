use Rattle.std.proofs.Common.{◌≡◌, ◌+◌, ℕ, List, ◌++◌, length, take, drop, map, sym, ap, ◌∙◌, subst, arith}
use Rattle.tablets.specs.SetView.{IndexView, with_part}
use Rattle.tablets.specs.Shadows.{IsTabletSet}
use Rattle.tablets.specs.contracts.tablet_set.TabletSet.{the_view}
use Rattle.tablets.proofs.Changes.{parts_more}
use Rattle.tablets.proofs.Loops.{cut_all, put_back, refill_map}
use Rattle.tablets.proofs.tablet_set.TabletSet.add_part.Goals as goal

pub invariant_of-self : goal.invariant_of-self
invariant_of-self c =
    let s = the_view c.self.inside in
    let new = c.add_parts.new.indexes in
    let rest = drop (length new) s.indexes in
    let whole = take c.self.inside.indexes.len (new ++ rest) in
    let all : whole ≡ map (with_part s.buckets) s.indexes = refill_map c.self.inside.indexes.len (with_part s.buckets) s.indexes c.deref_mut.result.now new rest c.deref_mut.ensures.value c.deref_mut.ensures.len c.in-Ok.ensures.ok in
    let more : c.in-Some.parts ≡ s.parts + 1 = (let x = c.in-Some.ensures in omega (arith, x)) in
    subst (λ (n : ℕ). IsTabletSet (record { indexes = whole; parts = n; buckets = s.buckets })) (sym more)
    (subst (λ (is : List IndexView). IsTabletSet (record { indexes = is; parts = s.parts + 1; buckets = s.buckets })) (sym all) (parts_more s c.self.invariant))

pub invariant_of-self-in-Err : goal.invariant_of-self-in-Err
invariant_of-self-in-Err c =
    let s = the_view c.self.inside in
    let l : length c.add_parts.new.indexes ≡ c.self.inside.indexes.len = (let x = c.add_parts.auto.indexes in let y = c.deref_mut.ensures.len in omega (arith, x, y)) in
    let all = put_back c.self.inside.indexes.len s.parts s.indexes c.deref_mut.result.now c.add_parts.new.indexes c.deref_mut-in-Err.result.now c.cut_parts.new.indexes _ _ c.deref_mut.ensures.value l c.deref_mut-in-Err.ensures.value c.cut_parts.ensures c.in-Err.ensures.err (cut_all s.parts s.buckets s.indexes c.self.invariant.indexes) in
    subst (λ (is : List IndexView). IsTabletSet (record { indexes = is; parts = s.parts; buckets = s.buckets })) (sym all) c.self.invariant

pub returns-in-Err-clause-err : goal.returns-in-Err-clause-err
returns-in-Err-clause-err c =
    let s = the_view c.self.inside in
    let l : length c.add_parts.new.indexes ≡ c.self.inside.indexes.len = (let x = c.add_parts.auto.indexes in let y = c.deref_mut.ensures.len in omega (arith, x, y)) in
    ap (λ (is : List IndexView). record s { indexes = is }) (put_back c.self.inside.indexes.len s.parts s.indexes c.deref_mut.result.now c.add_parts.new.indexes c.deref_mut-in-Err.result.now c.cut_parts.new.indexes _ _ c.deref_mut.ensures.value l c.deref_mut-in-Err.ensures.value c.cut_parts.ensures c.in-Err.ensures.err (cut_all s.parts s.buckets s.indexes c.self.invariant.indexes)) ∙ c.self.view_is
