-- What no fault says: of the lists of faults, and of the ranges of partitions.
use Rattle.std.proofs.Common.{◌≡◌, ◌⊎◌, inl, inr, subst, Result, ℕ, Bool, true, false, cond, not, ◌&&◌, List, [], ◌∷◌, ◌++◌, Option, Some, None, find, refl, sym, ap, ◌∙◌}
use Rattle.std.specs.List.{list_all, AllByRecursion}
use Rattle.std.specs.Prelude.{length, nat_le}
use Rattle.schema_models.specs.ShapeView.{ShapeView}
use Rattle.partitions.specs.Columns.{type_of}
use Rattle.partitions.specs.LayoutView.{LayoutView}
use Rattle.std.specs.Option.{option_map}
use Rattle.dl_values.specs.declared.cell.Cell.{Cell}
use Rattle.dl_values.specs.declared.col_type.ColType.{ColType}
use Rattle.schema_models.specs.Faults.{first_of, refuse_if}
use Rattle.partitions.specs.LayoutFaults.{Tests, add_fault, first_beside, first_with, meets, part_faults, ranged_faults, room_faults, written_faults}
use Rattle.partitions.specs.declared.layout_error.LayoutError.{LayoutError}
use Rattle.partitions.specs.declared.layout_error.LayoutError.TheVariants as layout_error
use Rattle.partitions.specs.Places.{is_below, low_end, high_end}
use Rattle.partitions.specs.Ranges.{are_bounds, bounds_after, ends_below, ends_rise, is_end, later_end, low_for, low_with, ranged, with_range}
use Rattle.partitions.specs.declared.part_def.PartDef.{PartDef}
use Rattle.partitions.specs.declared.part_def.Bounds.{Bounds}
use Rattle.partitions.specs.declared.part_def.Bounds.TheVariants.{Less, Between}
use Rattle.partitions.proofs.Ascending.{rises}
use Rattle.partitions.proofs.Bools.{and_left, and_right, both, not_false}

-- ---- lists of faults

pub none_all : {E : Type 0} (os : List (Option E)) → first_of os ≡ None → AllByRecursion (λ o. o ≡ None) os
none_all [] e = tt
none_all (None ∷ os) e = (refl, none_all os e)
none_all (Some x ∷ os) e = absurd (cc)

pub none_mapped : {A E : Type 0} (f : A → E) (o : Option A) → option_map f o ≡ None → o ≡ None
none_mapped f None e = refl
none_mapped f (Some x) e = absurd (cc)

pub none_refused : {E : Type 0} (b : Bool) (x : E) → refuse_if b x ≡ None → b ≡ false
none_refused true x e = absurd (cc)
none_refused false x e = refl

pub none_found : {X : Type 0} (test : X → Bool) (xs : List X) → find (λ x. not (test x)) xs ≡ None → list_all test xs ≡ true
none_found test [] e = refl
none_found test (x ∷ xs) e = go (test x) refl e (λ f. none_found test xs f)
  where
    go : (b : Bool) → test x ≡ b → cond (not b) (Some x) (find (λ y. not (test y)) xs) ≡ None → (find (λ y. not (test y)) xs ≡ None → list_all test xs ≡ true) → (test x && list_all test xs) ≡ true
    go true f g rest = both (test x) (list_all test xs) f (rest g)
    go false f g rest = absurd (cc)

pub front_none : {E : Type 0} (xs ys : List (Option E)) → first_of xs ≡ None → first_of (xs ++ ys) ≡ first_of ys
front_none [] ys e = refl
front_none (None ∷ xs) ys e = front_none xs ys e
front_none (Some x ∷ xs) ys e = absurd (cc)

pub front_some : {E : Type 0} (xs ys : List (Option E)) (x : E) → first_of xs ≡ Some x → first_of (xs ++ ys) ≡ Some x
front_some [] ys x e = absurd (cc)
front_some (None ∷ xs) ys x e = front_some xs ys x e
front_some (Some y ∷ xs) ys x e = e

-- ---- ranges rise

low_rises : (high : Option Cell) (ps : List PartDef) → ends_rise (low_for high ps) high ≡ true
low_rises None [] = refl
low_rises (Some h) [] = refl
low_rises high (p ∷ ps) = go (high_end p.bounds) (low_for high ps) (low_rises high ps)
  where
    later : (o : Option Cell) (x : Cell) → ends_rise o high ≡ true → ends_below high x ≡ true → ends_rise (later_end o x) high ≡ true
    later None x r b = go2 high b
      where
        go2 : (k : Option Cell) → ends_below k x ≡ true → ends_rise (Some x) k ≡ true
        go2 None b = refl
        go2 (Some h) b = b
    later (Some y) x r b = choose (is_below y x)
      where
        self : (k : Option Cell) → ends_below k x ≡ true → ends_rise (Some x) k ≡ true
        self None b = refl
        self (Some h) b = b

        choose : (c : Bool) → ends_rise (cond c (Some x) (Some y)) high ≡ true
        choose true = self high b
        choose false = r

    go : (o low : Option Cell) → ends_rise low high ≡ true → ends_rise (low_with high o low) high ≡ true
    go None low r = r
    go (Some x) low r = choose (ends_below high x) refl
      where
        choose : (c : Bool) → ends_below high x ≡ c → ends_rise (cond c (later_end low x) low) high ≡ true
        choose true e = later low x r e
        choose false e = r

pub range_rises : (t : Option ColType) (before : List PartDef) (p : PartDef) → are_bounds t p.bounds ≡ true → rises (with_range before p).bounds ≡ true
range_rises t before p h = go p.bounds h
  where
    go : (b : Bounds) → are_bounds t b ≡ true → rises (bounds_after before b) ≡ true
    go (Less high) h = low_rises high before
    go (Between low high) h = and_right (is_end t low && is_end t high) (ends_rise low high) h

pub all_more : {X : Type 0} (test : X → Bool) (xs : List X) (x : X) → list_all test xs ≡ true → test x ≡ true → list_all test (xs ++ x ∷ []) ≡ true
all_more test [] x h e = both (test x) true e refl
all_more test (y ∷ ys) x h e = both (test y) (list_all test (ys ++ x ∷ [])) (and_left (test y) (list_all test ys) h) (all_more test ys x (and_right (test y) (list_all test ys) h) e)

ranged_rise : (t : Option ColType) (before ps : List PartDef) → list_all (λ (p : PartDef). rises p.bounds) before ≡ true → list_all (λ (p : PartDef). are_bounds t p.bounds) ps ≡ true → list_all (λ (p : PartDef). rises p.bounds) (ranged before ps) ≡ true
ranged_rise t before [] r h = r
ranged_rise t before (p ∷ ps) r h =
    ranged_rise t (before ++ with_range before p ∷ []) ps
    (all_more (λ (q : PartDef). rises q.bounds) before (with_range before p) r (range_rises t before p (and_left (are_bounds t p.bounds) (list_all (λ (q : PartDef). are_bounds t q.bounds) ps) h)))
    (and_right (are_bounds t p.bounds) (list_all (λ (q : PartDef). are_bounds t q.bounds) ps) h)

-- partitions whose bounds are ranges as they are written have ranges that rise
pub all_rise : (t : Option ColType) (ps : List PartDef) → first_with (λ p. not (are_bounds t p.bounds)) ps ≡ None → list_all (λ (p : PartDef). rises p.bounds) (ranged [] ps) ≡ true
all_rise t ps e = ranged_rise t [] ps refl (none_found (λ (p : PartDef). are_bounds t p.bounds) ps (none_mapped (λ (p : PartDef). p.name) (find (λ (p : PartDef). not (are_bounds t p.bounds)) ps) e))

-- ---- what two tests, one after the other, answer

pub tests_front : (xs ys : List (Option LayoutError)) (e : LayoutError) → (e ≡ layout_error.NoMemory) ⊎ (first_of xs ≡ Some e) → (e ≡ layout_error.NoMemory) ⊎ (first_of (xs ++ ys) ≡ Some e)
tests_front xs ys e (inl n) = inl n
tests_front xs ys e (inr f) = inr (front_some xs ys e f)

pub tests_back : {A : Type 0} (xs ys : List (Option LayoutError)) (r : Result A LayoutError) → first_of xs ≡ None → Tests (first_of ys) r → Tests (first_of (xs ++ ys)) r
tests_back {A} xs ys r n t = subst (λ (f : Option LayoutError). Tests {A = A} f r) (sym (front_none xs ys n)) t

-- no fault among the partitions with their ranges: they lie apart
pub apart_of : (parts : List PartDef) → first_of (ranged_faults parts) ≡ None → first_beside meets [] parts ≡ None
apart_of parts e = none_mapped layout_error.Overlap (first_beside meets [] parts) (none_all (ranged_faults parts) e).0

pub rise_of : (s : ShapeView) (column : Option (List ℕ)) (parts : List PartDef) (hash : List (List ℕ)) (buckets : ℕ) → first_of (written_faults s column parts hash buckets) ≡ None → list_all (λ (p : PartDef). rises p.bounds) (ranged [] parts) ≡ true
rise_of s column parts hash buckets e =
    let bounds = (none_all (written_faults s column parts hash buckets) e).1.1.1.0 in
    all_rise (type_of s.columns column) parts (none_mapped layout_error.BadBound (first_with (λ p. not (are_bounds (type_of s.columns column) p.bounds)) parts) bounds)

pub front_of_none : {E : Type 0} (xs ys : List (Option E)) → first_of (xs ++ ys) ≡ None → first_of xs ≡ None
front_of_none [] ys e = refl
front_of_none (None ∷ xs) ys e = front_of_none xs ys e
front_of_none (Some x ∷ xs) ys e = absurd (cc)

-- where a definition has no fault, its partitions lie apart and have ranges that rise
pub parts_apart : (xs : List (Option LayoutError)) (parts : List PartDef) → first_of (xs ++ ranged_faults parts) ≡ None → first_beside meets [] parts ≡ None
parts_apart xs parts e = apart_of parts (sym (front_none xs (ranged_faults parts) (front_of_none xs (ranged_faults parts) e)) ∙ e)

pub parts_rise : (s : ShapeView) (column : Option (List ℕ)) (parts : List PartDef) (hash : List (List ℕ)) (buckets : ℕ) (ys : List (Option LayoutError)) → first_of (written_faults s column parts hash buckets ++ ys) ≡ None → list_all (λ (p : PartDef). rises p.bounds) (ranged [] parts) ≡ true
parts_rise s column parts hash buckets ys e = rise_of s column parts hash buckets (front_of_none (written_faults s column parts hash buckets) ys e)

-- a partition that is added without a fault, too
pub part_apart : (l : LayoutView) (p : PartDef) → add_fault l p ≡ None → meets l.parts (with_range l.parts p) ≡ false
part_apart l p e =
    let back = sym (front_none (part_faults l p) (room_faults l.parts (with_range l.parts p)) (front_of_none (part_faults l p) (room_faults l.parts (with_range l.parts p)) e)) ∙ e in
    none_refused (meets l.parts (with_range l.parts p)) (layout_error.Overlap p.name) (none_all (room_faults l.parts (with_range l.parts p)) back).0

pub part_rises : (l : LayoutView) (p : PartDef) → add_fault l p ≡ None → rises (with_range l.parts p).bounds ≡ true
part_rises l p e =
    let front = front_of_none (part_faults l p) (room_faults l.parts (with_range l.parts p)) e in
    let bounds = (none_all (part_faults l p) front).1.0 in
    range_rises l.kind l.parts p (not_false (are_bounds l.kind p.bounds) (none_refused (not (are_bounds l.kind p.bounds)) (layout_error.BadBound p.name) bounds))
