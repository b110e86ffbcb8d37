-- A set of tablets, first made, with one tablet changed, and with a partition more.
use Rattle.std.proofs.Common.{◌≡◌, ℕ, zero, suc, ◌+◌, Bool, true, false, cond, List, [], ◌∷◌, ◌++◌, map, set, refl, sym, ap, ◌∙◌, subst, arith, length-append, length-set, get_or, nat_eq}
use Rattle.std.proofs.lemmas.List.{length-replicate}
use Rattle.std.proofs.lemmas.Option.{get_or_from_slice_get}
use Rattle.std.specs.Prelude.{Err, MatchOption, None, Ok, OnErr, OnOk, Option, Result, Some, is_some, option_and_then, slice_get}
use Rattle.schema_models.specs.ShapeView.{ShapeView}
use Rattle.tablets.specs.SetView.{IndexView, OnTablet, SetView, changed, changed_at, changed_in, empty_index, empty_part, empty_tablet, index_at, is_numbered, tablet_at, tablet_in, tablet_of, with_part, with_parts}
use Rattle.tablets.specs.Shadows.{AreApart, AreMarks, ArePartOf, IsIndexOf, IsTabletOf, IsTabletSet, MayCome, mark_of, marks_of, numbers, with_shadow}
use Rattle.tablets.specs.TabletView.{IsTablet, StoredList, TabletView}
use Rattle.tablets.specs.declared.shadow.Shadow.{Shadow}
use Rattle.tablets.proofs.Marks.{all_append, all_at, all_map, all_replicate, all_set, marks_map, marks_push, marks_set}
use Rattle.tablets.proofs.Sets.{found_passes, set_is_changed, set_one}

-- tablets without a rowset

empty_is_tablet : (shape : ShapeView) → IsTabletOf shape (empty_tablet shape)
empty_is_tablet shape = record { same = refl; tablet = record { rising = tt; sorted = tt } }

empty_is_part : (shape : ShapeView) (buckets : ℕ) → ArePartOf shape buckets (empty_part shape buckets)
empty_is_part shape buckets = (length-replicate buckets (empty_tablet shape), all_replicate (IsTabletOf shape) buckets (empty_tablet shape) (empty_is_tablet shape))

pub empty_is_index : (number : ℕ) (shadow : Option Shadow) (shape : ShapeView) (parts buckets : ℕ) → IsIndexOf parts buckets (empty_index number shadow shape parts buckets)
empty_is_index number shadow shape parts buckets = record {
  many = length-replicate parts (empty_part shape buckets);
  each = all_replicate (ArePartOf shape buckets) parts (empty_part shape buckets) (empty_is_part shape buckets);
}

pub base_is_set : (shape : ShapeView) (parts buckets : ℕ) → IsTabletSet (record { indexes = empty_index 0 None shape parts buckets ∷ []; parts = parts; buckets = buckets })
base_is_set shape parts buckets = record {
  marks = record { numbers_apart = (refl, tt); aims_apart = tt; aims_there = tt };
  indexes = (empty_is_index 0 None shape parts buckets, tt);
}

-- one tablet changed: where it stands, by three places
pub record StandsAt (is : List IndexView) (index part bucket place : ℕ) (i : IndexView) (ts : List TabletView) (t : TabletView) : Type 0 where
  pub first : slice_get is place ≡ index_at index is
  pub at_place : slice_get is place ≡ Some i
  pub at_part : slice_get i.parts part ≡ Some ts
  pub at_bucket : slice_get ts bucket ≡ Some t

read_is : {X : Type 0} (xs : List X) (n : ℕ) (x y z : X) → slice_get xs n ≡ Some x → y ≡ get_or xs n y → z ≡ y → slice_get xs n ≡ Some z
read_is xs n x y z h e k = h ∙ ap (λ w. Some w) (sym (k ∙ (e ∙ get_or_from_slice_get xs n x y h)))

pub stands : (is : List IndexView) (index part bucket place : ℕ) (i : IndexView) (ts : List TabletView) (t : TabletView) (j : IndexView) (us : List TabletView) → is_some (tablet_of index part bucket is) ≡ true → slice_get is place ≡ index_at index is → j ≡ get_or is place j → i ≡ j → us ≡ get_or i.parts part us → ts ≡ us → t ≡ get_or ts bucket t → StandsAt is index part bucket place i ts t
stands is index part bucket place i ts t j us has first e k l m n = by_index (index_at index is) refl has
  where
    at_bucket : (o : Option TabletView) → slice_get ts bucket ≡ o → is_some o ≡ true → slice_get ts bucket ≡ Some t
    at_bucket None d h = absurd (cc)
    at_bucket (Some x) d h = read_is ts bucket x t t d n refl

    by_part : slice_get is place ≡ Some i → (o : Option (List TabletView)) → slice_get i.parts part ≡ o → is_some (option_and_then (λ xs. slice_get xs bucket) o) ≡ true → StandsAt is index part bucket place i ts t
    by_part p None d h = absurd (cc)
    by_part p (Some xs) d h =
        let q : slice_get i.parts part ≡ Some ts = read_is i.parts part xs us ts d l m in
        let r : xs ≡ ts = cc in
        record { first = first; at_place = p; at_part = q; at_bucket = at_bucket (slice_get ts bucket) refl (subst (λ (ys : List TabletView). is_some (slice_get ys bucket) ≡ true) r h) }

    by_index : (o : Option IndexView) → index_at index is ≡ o → is_some (option_and_then (λ x. tablet_in part bucket x.parts) o) ≡ true → StandsAt is index part bucket place i ts t
    by_index None d h = absurd (cc)
    by_index (Some x) d h =
        let p : slice_get is place ≡ Some i = read_is is place x j i (first ∙ d) e k in
        let r : x ≡ i = cc in
        by_part p (slice_get i.parts part) refl (subst (λ (y : IndexView). is_some (tablet_in part bucket y.parts) ≡ true) r h)

abbrev pub written : ℕ → ℕ → ℕ → IndexView → List TabletView → TabletView → List IndexView → List IndexView
written place part bucket i ts u is = set is place (record i { parts = set i.parts part (set ts bucket u) })

pub found_tablet : (is : List IndexView) (index part bucket place : ℕ) (i : IndexView) (ts : List TabletView) (t : TabletView) → StandsAt is index part bucket place i ts t → tablet_of index part bucket is ≡ Some t
found_tablet is index part bucket place i ts t h =
    ap (λ (o : Option IndexView). option_and_then (λ x. tablet_in part bucket x.parts) o) (sym h.first ∙ h.at_place)
    ∙ (ap (λ (o : Option (List TabletView)). option_and_then (λ x. slice_get x bucket) o) h.at_part ∙ h.at_bucket)

pub on_tablet : (s : SetView) (index part bucket : ℕ) (t : TabletView) (P : TabletView → Type 0) → tablet_at s index part bucket ≡ Some t → P t → OnTablet s index part bucket P
on_tablet s index part bucket t P e p = subst (λ (o : Option TabletView). MatchOption o ⊥ P) (sym e) p

pub of_tablet : (s : SetView) (index part bucket : ℕ) (t : TabletView) (P : TabletView → Type 0) → tablet_at s index part bucket ≡ Some t → OnTablet s index part bucket P → P t
of_tablet s index part bucket t P e p = subst (λ (o : Option TabletView). MatchOption o ⊥ P) e p

pub has_from_on : (s : SetView) (index part bucket : ℕ) (P : TabletView → Type 0) → OnTablet s index part bucket P → is_some (tablet_at s index part bucket) ≡ true
has_from_on s index part bucket P h = go (tablet_at s index part bucket) h
  where
    go : (o : Option TabletView) → MatchOption o ⊥ P → is_some o ≡ true
    go None k = absurd k
    go (Some t) k = refl

pub written_is_changed : (is : List IndexView) (index part bucket place : ℕ) (i : IndexView) (ts : List TabletView) (t : TabletView) (f : TabletView → TabletView) → AreApart (numbers (marks_of is)) → StandsAt is index part bucket place i ts t → written place part bucket i ts (f t) is ≡ map (changed_in index part bucket f) is
written_is_changed is index part bucket place i ts t f a h =
    let inner : set ts bucket (f t) ≡ changed_at bucket f ts = set_is_changed bucket f ts t h.at_bucket in
    let outer : set i.parts part (changed_at bucket f ts) ≡ changed_at part (changed_at bucket f) i.parts = set_is_changed part (changed_at bucket f) i.parts ts h.at_part in
    ap (λ (us : List TabletView). set is place (record i { parts = set i.parts part us })) inner
    ∙ (ap (λ (ps : List (List TabletView)). set is place (record i { parts = ps })) outer
    ∙ set_one index (λ x. record x { parts = changed_at part (changed_at bucket f) x.parts }) is place i a h.at_place (found_passes (is_numbered index) is i (sym h.first ∙ h.at_place)))

-- the set that is left
pub change_is : (s v : SetView) (index part bucket place : ℕ) (i : IndexView) (ts : List TabletView) (t u : TabletView) (f : TabletView → TabletView) → s ≡ v → IsTabletSet s → StandsAt s.indexes index part bucket place i ts t → u ≡ f t → record s { indexes = written place part bucket i ts u s.indexes } ≡ changed index part bucket f v
change_is s v index part bucket place i ts t u f e m h k =
    ap (λ (w : TabletView). record s { indexes = written place part bucket i ts w s.indexes }) k
    ∙ (ap (λ (is : List IndexView). record s { indexes = is }) (written_is_changed s.indexes index part bucket place i ts t f m.marks.numbers_apart h)
    ∙ ap (λ (w : SetView). changed index part bucket f w) e)

pub written_is_set : (s : SetView) (index part bucket place : ℕ) (i : IndexView) (ts : List TabletView) (t u : TabletView) → IsTabletSet s → StandsAt s.indexes index part bucket place i ts t → u.shape ≡ t.shape → IsTablet u → IsTabletSet (record s { indexes = written place part bucket i ts u s.indexes })
written_is_set s index part bucket place i ts t u m h e k =
    let ix = all_at (IsIndexOf s.parts s.buckets) s.indexes place i m.indexes h.at_place in
    let ps = all_at (ArePartOf i.shape s.buckets) i.parts part ts ix.each h.at_part in
    let old = all_at (IsTabletOf i.shape) ts bucket t ps.1 h.at_bucket in
    record {
      marks = subst AreMarks (sym (marks_set s.indexes place i (record i { parts = set i.parts part (set ts bucket u) }) h.at_place refl)) m.marks;
      indexes = all_set (IsIndexOf s.parts s.buckets) s.indexes place (record i { parts = set i.parts part (set ts bucket u) }) m.indexes (record {
        many = length-set i.parts part (set ts bucket u) ∙ ix.many;
        each = all_set (ArePartOf i.shape s.buckets) i.parts part (set ts bucket u) ix.each (length-set ts bucket u ∙ ps.0, all_set (IsTabletOf i.shape) ts bucket u ps.1 (record { same = e ∙ old.same; tablet = k }));
      });
    }

-- the tablet that is left there
changed_index : (n : ℕ) (g : IndexView → IndexView) → ((i : IndexView) → (g i).number ≡ i.number) → (is : List IndexView) (x : IndexView) → index_at n is ≡ Some x → index_at n (map (λ i. cond (is_numbered n i) (g i) i) is) ≡ Some (g x)
changed_index n g k [] x h = absurd (cc)
changed_index n g k (i ∷ is) x h = go (nat_eq i.number n) refl h (changed_index n g k is x)
  where
    go : (b : Bool) → nat_eq i.number n ≡ b → cond b (Some i) (index_at n is) ≡ Some x → (index_at n is ≡ Some x → index_at n (map (λ j. cond (is_numbered n j) (g j) j) is) ≡ Some (g x)) → index_at n (cond b (g i) i ∷ map (λ j. cond (is_numbered n j) (g j) j) is) ≡ Some (g x)
    go true e f r =
        let s : i ≡ x = cc in
        let t : nat_eq (g i).number n ≡ true = rw (k i) e in
        rw t (ap (λ z. Some (g z)) s)
    go false e f r = rw e (r f)

slice_get_set : {X : Type 0} (xs : List X) (n : ℕ) (x y : X) → slice_get xs n ≡ Some x → slice_get (set xs n y) n ≡ Some y
slice_get_set [] n x y h = absurd (cc)
slice_get_set (z ∷ zs) zero x y h = refl
slice_get_set (z ∷ zs) (suc n) x y h = slice_get_set zs n x y h

pub found_written : (is : List IndexView) (index part bucket place : ℕ) (i : IndexView) (ts : List TabletView) (t u : TabletView) → AreApart (numbers (marks_of is)) → StandsAt is index part bucket place i ts t → tablet_of index part bucket (written place part bucket i ts u is) ≡ Some u
found_written is index part bucket place i ts t u a h =
    let parts = set i.parts part (set ts bucket u) in
    let one = set_one index (λ x. record x { parts = parts }) is place i a h.at_place (found_passes (is_numbered index) is i (sym h.first ∙ h.at_place)) in
    let at = ap (λ (js : List IndexView). index_at index js) one ∙ changed_index index (λ x. record x { parts = parts }) (λ x. refl) is i (sym h.first ∙ h.at_place) in
    ap (λ (o : Option IndexView). option_and_then (λ x. tablet_in part bucket x.parts) o) at
    ∙ (ap (λ (o : Option (List TabletView)). option_and_then (λ x. slice_get x bucket) o) (slice_get_set i.parts part ts (set ts bucket u) h.at_part) ∙ slice_get_set ts bucket t u h.at_bucket)

-- a partition more

part_more : (parts buckets : ℕ) (i : IndexView) → IsIndexOf parts buckets i → IsIndexOf (parts + 1) buckets (with_part buckets i)
part_more parts buckets i h = record {
  many = (let e = h.many in let n = length-append i.parts (empty_part i.shape buckets ∷ []) in omega (arith, e, n));
  each = all_append (ArePartOf i.shape buckets) i.parts (empty_part i.shape buckets ∷ []) h.each (empty_is_part i.shape buckets, tt);
}

pub parts_more : (s : SetView) → IsTabletSet s → IsTabletSet (with_parts s)
parts_more s m = record {
  marks = subst AreMarks (sym (marks_map (with_part s.buckets) (λ i. refl) s.indexes)) m.marks;
  indexes = all_map (IsIndexOf s.parts s.buckets) (IsIndexOf (s.parts + 1) s.buckets) (with_part s.buckets) (λ i h. part_more s.parts s.buckets i h) s.indexes m.indexes;
}

-- an index more

map_append_one : (is : List IndexView) (i : IndexView) → marks_of (is ++ i ∷ []) ≡ marks_of is ++ mark_of i ∷ []
map_append_one [] i = refl
map_append_one (x ∷ is) i = ap (λ ms. mark_of x ∷ ms) (map_append_one is i)

pub shadow_more : (s : SetView) (number : ℕ) (shadow : Shadow) (shape : ShapeView) → IsTabletSet s → MayCome s number shadow.replaces → IsTabletSet (with_shadow number shadow shape s)
shadow_more s number shadow shape m h = record {
  marks = subst AreMarks (sym (map_append_one s.indexes (empty_index number (Some shadow) shape s.parts s.buckets))) (marks_push (marks_of s.indexes) number shadow m.marks h.fresh h.aimed);
  indexes = all_append (IsIndexOf s.parts s.buckets) s.indexes (empty_index number (Some shadow) shape s.parts s.buckets ∷ []) m.indexes (empty_is_index number (Some shadow) shape s.parts s.buckets, tt);
}

-- nothing has changed

set_same : {X : Type 0} (xs : List X) (n : ℕ) (x : X) → slice_get xs n ≡ Some x → set xs n x ≡ xs
set_same [] n x h = absurd (cc)
set_same (y ∷ ys) zero x h = let s : y ≡ x = cc in ap (λ z. z ∷ ys) (sym s)
set_same (y ∷ ys) (suc n) x h = ap (λ zs. y ∷ zs) (set_same ys n x h)

pub written_same : (s v : SetView) (index part bucket place : ℕ) (i : IndexView) (ts : List TabletView) (t u : TabletView) → s ≡ v → StandsAt s.indexes index part bucket place i ts t → u ≡ t → record s { indexes = written place part bucket i ts u s.indexes } ≡ v
written_same s v index part bucket place i ts t u e h k =
    ap (λ (w : TabletView). record s { indexes = written place part bucket i ts w s.indexes }) k
    ∙ (ap (λ (us : List TabletView). record s { indexes = set s.indexes place (record i { parts = set i.parts part us }) }) (set_same ts bucket t h.at_bucket)
    ∙ (ap (λ (ps : List (List TabletView)). record s { indexes = set s.indexes place (record i { parts = ps }) }) (set_same i.parts part ts h.at_part)
    ∙ (ap (λ (is : List IndexView). record s { indexes = is }) (set_same s.indexes place i h.at_place) ∙ e)))

pub either_way : {A E : Type 0} (r : Result A E) (P : Type 0) → OnOk r P → OnErr r P → P
either_way (Ok x) P a b = a
either_way (Err e) P a b = b

pub same_but_room : (t u : TabletView) → u.lists ≡ t.lists → u.shape ≡ t.shape → u ≡ record t { room = u.room }
same_but_room t u e k = ap (λ (ls : List StoredList). record u { lists = ls }) e ∙ ap (λ (z : ShapeView). record { shape = z; lists = t.lists; room = u.room }) k
