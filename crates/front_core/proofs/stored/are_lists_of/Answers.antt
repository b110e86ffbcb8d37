use Rattle.std.proofs.Common.{rules, ◌≡◌, ◌+◌, ◌-◌, ◌<◌, ℕ, List, drop, get_or, length, arith, subst, sym}
use Rattle.std.proofs.lemmas.List.{drop_more}
use Rattle.std.specs.List.{AllByRecursion}
use Rattle.rowsets.specs.RowsetView.{IsListOf, RowsetView}
use Rattle.front_core.proofs.stored.are_lists_of.Goals as goal

-- one member more in front
more_in_front : {X : Type 0} (P : X → Type 0) (n m : ℕ) (xs : List X) (x : X) → n ≡ m + 1 → m < length xs → x ≡ get_or xs m x → P x → AllByRecursion P (drop n xs) → AllByRecursion P (drop m xs)
more_in_front P n m xs x step lt is p rest =
    subst (AllByRecursion P) (sym (drop_more xs m x lt)) (subst P is p, subst (λ (k : ℕ). AllByRecursion P (drop k xs)) step rest)

pub loop-place-preserved : goal.loop-place-preserved
loop-place-preserved c = record {
  within = omega (arith, c.loop-place.invariant.within);
  rest = more_in_front (λ x. IsListOf c.args.shape.now x.value) c.loop-place.place (c.loop-place.place - 1) c.args.lists.now c.index-lists-place.result (omega arith) (let w = c.loop-place.invariant.within in omega (arith, w)) c.index-lists-place.is
      (let same : c.deref.result.now ≡ c.index-lists-place.result.value = search rules in
      let p : IsListOf c.args.shape.now c.deref.result.now = record { made = search rules; sorted = search rules } in subst (λ (r : RowsetView). IsListOf c.args.shape.now r) same p)
      c.loop-place.invariant.rest;
}
