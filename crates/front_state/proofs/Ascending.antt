-- Lists of a load by ascending places.
use Rattle.std.proofs.Common.{◌≡◌, ℕ, zero, suc, ◌+◌, ◌<◌, Bool, true, false, List, [], ◌∷◌, length, get_or, map, refl, sym, ◌∙◌, subst, arith}
use Rattle.std.proofs.lemmas.Bool.Decides.{nat_tests}
use Rattle.std.specs.List.{AllAdjacentBelow, IsAllAdjacentAnswer}
use Rattle.partitions.specs.Places.{Place}
use Rattle.shadow_writes.specs.declared.built.TabletRows.{TabletRows}
use Rattle.front_defs.specs.May.{seen_set}
use Rattle.front_laws.proofs.Lists.{each_imp}
use Rattle.front_state.specs.Ready.{AscendByPlace, StandsBefore, is_before}

before_later : (u v w : Place) → is_before u v ≡ true → is_before v w ≡ true → is_before u w ≡ true
before_later u v w e k = grind (arith, nat_tests, e, k)

abbrev pub sets_before : TabletRows → TabletRows → Bool
sets_before a b = is_before (seen_set a).place (seen_set b).place

abbrev Neighbours : List TabletRows → Type 0
Neighbours xs = AllAdjacentBelow (λ x y. true ≡ sets_before x y) xs (length xs)

neighbours_behind : (x : TabletRows) (xs : List TabletRows) → Neighbours (x ∷ xs) → Neighbours xs
neighbours_behind x xs h k d lt =
    let e : suc k + 1 ≡ suc (k + 1) = omega arith in
    subst (λ (n : ℕ). true ≡ sets_before (get_or (x ∷ xs) (suc k) d) (get_or (x ∷ xs) n d)) e (h (suc k) d (omega (arith, lt)))

neighbours_ascend : (xs : List TabletRows) → Neighbours xs → AscendByPlace (map seen_set xs)
neighbours_ascend [] h = tt
neighbours_ascend (x ∷ []) h = (tt, tt)
neighbours_ascend (x ∷ y ∷ ys) h =
    let rest = neighbours_ascend (y ∷ ys) (neighbours_behind x (y ∷ ys) h) in
    let first : is_before (seen_set x).place (seen_set y).place ≡ true = sym (h 0 x (omega arith)) in
    ((first, each_imp (StandsBefore (seen_set y)) (StandsBefore (seen_set x)) (λ z e. before_later (seen_set x).place (seen_set y).place z.place first e) (map seen_set ys) rest.0), rest)

ascend_neighbours : (xs : List TabletRows) (k : ℕ) (d : TabletRows) → k + 1 < length xs → AscendByPlace (map seen_set xs) → sets_before (get_or xs k d) (get_or xs (k + 1) d) ≡ true
ascend_neighbours [] k d lt a = absurd (omega arith)
ascend_neighbours (x ∷ []) k d lt a = absurd (omega arith)
ascend_neighbours (x ∷ y ∷ ys) zero d lt a = a.0.0
ascend_neighbours (x ∷ y ∷ ys) (suc k) d lt a =
    let e : suc k + 1 ≡ suc (k + 1) = omega arith in
    subst (λ (n : ℕ). sets_before (get_or (x ∷ y ∷ ys) (suc k) d) (get_or (x ∷ y ∷ ys) n d) ≡ true) (sym e) (ascend_neighbours (y ∷ ys) k d (omega (arith, lt)) a.1)

pub tells_ascend : (xs : List TabletRows) (r : Bool) → IsAllAdjacentAnswer (λ x y b. b ≡ sets_before x y) xs r → (r ≡ true → AscendByPlace (map seen_set xs)) × (AscendByPlace (map seen_set xs) → r ≡ true)
tells_ascend xs true h = (λ e. neighbours_ascend xs h, λ a. refl)
tells_ascend [] false h = absurd (let lt = h.1 in omega (arith, lt))
tells_ascend (x ∷ xs) false h = (
  λ e. absurd (cc),
  λ a.
      let yes = ascend_neighbours (x ∷ xs) h.0 x h.1 a in
      let no = h.2 x in
      no ∙ yes,
)
