-- What contracts see of a set of tablets, after room was made in a tablet of it or a list was put there.
use Rattle.std.proofs.Common.{◌≡◌, ℕ, zero, suc, ◌<◌, Bool, true, false, cond, ◌&&◌, List, [], ◌∷◌, ◌++◌, length, get_or, Option, Some, None, map, refl, sym, ◌∙◌, ap, subst, arith, nat_eq}
use Rattle.std.proofs.lemmas.Bool.Decides.{nat_tests}
use Rattle.std.proofs.lemmas.List.{map_push}
use Rattle.std.specs.List.{AllByRecursion}
use Rattle.std.specs.Option.{option_map}
use Rattle.std.specs.Prelude.{MatchOption, is_some, option_and_then, slice_get}
use Rattle.front_defs.specs.Stands.{HasBuckets, HasTablets, IndexTablets, TableTablets, index_for, lists_by}
use Rattle.front_defs.specs.Stored.{StoredList}
use Rattle.front_defs.specs.declared.catalogue.Table.{Table}
use Rattle.front_laws.proofs.Lists.{eq_is}
use Rattle.partitions.specs.Places.{Place}
use Rattle.rowsets.specs.RowsetView.{RowsetView}
use Rattle.tablets.proofs.Sets.{found_passes}
use Rattle.tablets.specs.SetView.{IndexView, IsRoomier, SetView, changed, changed_at, changed_in, index_at, is_numbered, tablet_in, tablet_of}
use Rattle.tablets.specs.TabletView as tablets
use Rattle.tablets.specs.TabletView.{TabletView, with_list}
use Rattle.front_state.specs.Tablets.{HasList, index_seen, indexes_seen, list_of, list_seen, part_seen, tablet_seen, with_list_at}

-- lists with one place changed, seen member by member

changed_seen : {X Y : Type 0} (v : X → Y) (f : X → X) (g : Y → Y) → ((x : X) → v (f x) ≡ g (v x)) → (n : ℕ) (xs : List X) → map v (changed_at n f xs) ≡ changed_at n g (map v xs)
changed_seen v f g e n [] = refl
changed_seen v f g e zero (x ∷ xs) = ap (λ y. y ∷ map v xs) (e x)
changed_seen v f g e (suc n) (x ∷ xs) = ap (λ ys. v x ∷ ys) (changed_seen v f g e n xs)

changed_unseen : {X Y : Type 0} (v : X → Y) (f : X → X) → ((x : X) → v (f x) ≡ v x) → (n : ℕ) (xs : List X) → map v (changed_at n f xs) ≡ map v xs
changed_unseen v f e n [] = refl
changed_unseen v f e zero (x ∷ xs) = ap (λ y. y ∷ map v xs) (e x)
changed_unseen v f e (suc n) (x ∷ xs) = ap (λ ys. v x ∷ ys) (changed_unseen v f e n xs)

each_seen : {X Y : Type 0} (v : X → Y) (f : X → X) (g : Y → Y) → ((x : X) → v (f x) ≡ g (v x)) → (xs : List X) → map v (map f xs) ≡ map g (map v xs)
each_seen v f g e [] = refl
each_seen v f g e (x ∷ xs) = ap (λ y. y ∷ map v (map f xs)) (e x) ∙ ap (λ ys. g (v x) ∷ ys) (each_seen v f g e xs)

each_unseen : {X Y : Type 0} (v : X → Y) (f : X → X) → ((x : X) → v (f x) ≡ v x) → (xs : List X) → map v (map f xs) ≡ map v xs
each_unseen v f e [] = refl
each_unseen v f e (x ∷ xs) = ap (λ y. y ∷ map v (map f xs)) (e x) ∙ ap (λ ys. v x ∷ ys) (each_unseen v f e xs)

get_changed : {X : Type 0} (f : X → X) (d : X) (n : ℕ) (xs : List X) → n < length xs → get_or (changed_at n f xs) n d ≡ f (get_or xs n d)
get_changed f d n [] lt = absurd (omega arith)
get_changed f d zero (x ∷ xs) lt = refl
get_changed f d (suc n) (x ∷ xs) lt = get_changed f d n xs (omega arith)

get_other : {X : Type 0} (f : X → X) (d : X) (n m : ℕ) (xs : List X) → (n ≡ m → ⊥) → get_or (changed_at n f xs) m d ≡ get_or xs m d
get_other f d n m [] ne = refl
get_other f d zero zero (x ∷ xs) ne = absurd (ne refl)
get_other f d zero (suc m) (x ∷ xs) ne = refl
get_other f d (suc n) zero (x ∷ xs) ne = refl
get_other f d (suc n) (suc m) (x ∷ xs) ne = get_other f d n m xs (λ e. ne (ap suc e))

length-changed : {X : Type 0} (f : X → X) (n : ℕ) (xs : List X) → length (changed_at n f xs) ≡ length xs
length-changed f n [] = refl
length-changed f zero (x ∷ xs) = refl
length-changed f (suc n) (x ∷ xs) = ap suc (length-changed f n xs)

all_changed : {X : Type 0} (P : X → Type 0) (f : X → X) → ((x : X) → P x → P (f x)) → (n : ℕ) (xs : List X) → AllByRecursion P xs → AllByRecursion P (changed_at n f xs)
all_changed P f k n [] a = tt
all_changed P f k zero (x ∷ xs) a = (k x a.0, a.1)
all_changed P f k (suc n) (x ∷ xs) a = (a.0, all_changed P f k n xs a.1)

apart : (n m : ℕ) → nat_eq n m ≡ false → n ≡ m → ⊥
apart n m e i = absurd (grind (arith, nat_tests))

-- room is not seen

index_room : (index part bucket room : ℕ) (i : IndexView) → index_seen (changed_in index part bucket (λ t. record t { room = room }) i) ≡ index_seen i
index_room index part bucket room i = go (is_numbered index i)
  where
    go : (b : Bool) → index_seen (cond b (record i { parts = changed_at part (changed_at bucket (λ t. record t { room = room })) i.parts }) i) ≡ index_seen i
    go true = ap (λ ps. record { number = i.number; parts = ps }) (changed_unseen part_seen (changed_at bucket (λ (t : TabletView). record t { room = room })) (λ ts. changed_unseen tablet_seen (λ (t : TabletView). record t { room = room }) (λ t. refl) bucket ts) part i.parts)
    go false = refl

pub room_unseen : (index part bucket : ℕ) (old new : SetView) → IsRoomier index part bucket old new → indexes_seen new ≡ indexes_seen old
room_unseen index part bucket old new h =
    let room = h.room in
    ap (λ (s : SetView). indexes_seen s) h.rest ∙ each_unseen index_seen (changed_in index part bucket (λ t. record t { room = room })) (λ i. index_room index part bucket room i) old.indexes

-- a list more in a tablet of the base

abbrev in_tablet : ℕ → ℕ → StoredList → List (List (List StoredList)) → List (List (List StoredList))
in_tablet part bucket l ps = changed_at part (changed_at bucket (λ ls. ls ++ l ∷ [])) ps

abbrev with_put : ℕ → ℕ → StoredList → IndexTablets → IndexTablets
with_put part bucket l x = cond (nat_eq x.number 0) (record x { parts = in_tablet part bucket l x.parts }) x

index_put : (part bucket : ℕ) (l : tablets.StoredList) (i : IndexView) → index_seen (changed_in 0 part bucket (with_list l) i) ≡ with_put part bucket (list_seen l) (index_seen i)
index_put part bucket l i = go (nat_eq i.number 0)
  where
    go : (b : Bool) → index_seen (cond b (record i { parts = changed_at part (changed_at bucket (with_list l)) i.parts }) i) ≡ cond b (record { number = i.number; parts = in_tablet part bucket (list_seen l) (map part_seen i.parts) }) (index_seen i)
    go true = ap (λ ps. record { number = i.number; parts = ps }) (changed_seen part_seen (changed_at bucket (with_list l)) (changed_at bucket (λ ls. ls ++ list_seen l ∷ [])) (λ ts. changed_seen tablet_seen (with_list l) (λ ls. ls ++ list_seen l ∷ []) (λ t. map_push list_seen t.lists l) bucket ts) part i.parts)
    go false = refl

number_kept : (part bucket : ℕ) (l : StoredList) (x : IndexTablets) → (with_put part bucket l x).number ≡ x.number
number_kept part bucket l x = go (nat_eq x.number 0)
  where
    go : (b : Bool) → (let y : IndexTablets = cond b (record x { parts = in_tablet part bucket l x.parts }) x in y.number) ≡ x.number
    go true = refl
    go false = refl

found_step : (g : IndexTablets → IndexTablets) (x : IndexTablets) (r s : Option IndexTablets) → s ≡ option_map g r → (b : Bool) → cond b (Some (g x)) s ≡ option_map g (cond b (Some x) r)
found_step g x r s e true = refl
found_step g x r s e false = e

found_put : (part bucket index : ℕ) (l : StoredList) (xs : List IndexTablets) → index_for index (map (with_put part bucket l) xs) ≡ option_map (with_put part bucket l) (index_for index xs)
found_put part bucket index l [] = refl
found_put part bucket index l (x ∷ xs) =
    let w = with_put part bucket l in
    ap (λ (n : ℕ). cond (nat_eq n index) (Some (w x)) (index_for index (map w xs))) (number_kept part bucket l x)
    ∙ found_step w x (index_for index xs) (index_for index (map w xs)) (found_put part bucket index l xs) (nat_eq x.number index)

-- a tablet is there
pub record IsThere {X : Type 0} (part bucket : ℕ) (ps : List (List X)) : Type 0 where
  pub has_part : part < length ps
  pub has_bucket : bucket < length (get_or ps part [])

bucket_there : (bucket : ℕ) (ts : List TabletView) → is_some (slice_get ts bucket) ≡ true → bucket < length (part_seen ts)
bucket_there bucket [] h = absurd (cc)
bucket_there zero (t ∷ ts) h = omega arith
bucket_there (suc bucket) (t ∷ ts) h = let r = bucket_there bucket ts h in omega (arith, r)

part_there : (part bucket : ℕ) (ps : List (List TabletView)) → is_some (tablet_in part bucket ps) ≡ true → IsThere part bucket (map part_seen ps)
part_there part bucket [] h = absurd (cc)
part_there zero bucket (ts ∷ ps) h = record { has_part = omega arith; has_bucket = bucket_there bucket ts h }
part_there (suc part) bucket (ts ∷ ps) h = let r = part_there part bucket ps h in record { has_part = (let lt = r.has_part in omega (arith, lt)); has_bucket = r.has_bucket }

there : (part bucket : ℕ) (is : List IndexView) → is_some (tablet_of 0 part bucket is) ≡ true → MatchOption (index_for 0 (map index_seen is)) ⊥ (λ x. IsThere part bucket x.parts)
there part bucket [] h = absurd (cc)
there part bucket (i ∷ is) h = go (nat_eq i.number 0) h (there part bucket is)
  where
    go : (b : Bool) → is_some (option_and_then (λ x. tablet_in part bucket x.parts) (cond b (Some i) (index_at 0 is))) ≡ true → (is_some (tablet_of 0 part bucket is) ≡ true → MatchOption (index_for 0 (map index_seen is)) ⊥ (λ x. IsThere part bucket x.parts)) → MatchOption (cond b (Some (index_seen i)) (index_for 0 (map index_seen is))) ⊥ (λ x. IsThere part bucket x.parts)
    go true k r = part_there part bucket i.parts k
    go false k r = r k

-- the lists of each place
in_place : (part bucket : ℕ) (l : StoredList) (ps : List (List (List StoredList))) (w : Place) → IsThere part bucket ps → (a b : Bool) → nat_eq part w.part ≡ a → nat_eq bucket w.bucket ≡ b → get_or (get_or (in_tablet part bucket l ps) w.part []) w.bucket [] ≡ cond (a && b) (get_or (get_or ps w.part []) w.bucket [] ++ l ∷ []) (get_or (get_or ps w.part []) w.bucket [])
in_place part bucket l ps w h false b d e = ap (λ (ts : List (List StoredList)). get_or ts w.bucket []) (get_other (changed_at bucket (λ ls. ls ++ l ∷ [])) [] part w.part ps (apart part w.part d))
in_place part bucket l ps w h true b d e =
    let p : part ≡ w.part = eq_is part w.part d in
    subst (λ (q : ℕ). get_or (get_or (in_tablet part bucket l ps) q []) w.bucket [] ≡ cond b (get_or (get_or ps q []) w.bucket [] ++ l ∷ []) (get_or (get_or ps q []) w.bucket [])) p
    (ap (λ (ts : List (List StoredList)). get_or ts w.bucket []) (get_changed (changed_at bucket (λ ls. ls ++ l ∷ [])) [] part ps h.has_part) ∙ in_bucket (get_or ps part []) h.has_bucket b e)
  where
    in_bucket : (ts : List (List StoredList)) → bucket < length ts → (b : Bool) → nat_eq bucket w.bucket ≡ b → get_or (changed_at bucket (λ ls. ls ++ l ∷ []) ts) w.bucket [] ≡ cond b (get_or ts w.bucket [] ++ l ∷ []) (get_or ts w.bucket [])
    in_bucket ts lt true e =
        let q : bucket ≡ w.bucket = eq_is bucket w.bucket e in
        subst (λ (m : ℕ). get_or (changed_at bucket (λ ls. ls ++ l ∷ []) ts) m [] ≡ get_or ts m [] ++ l ∷ []) q (get_changed (λ ls. ls ++ l ∷ []) [] bucket ts lt)
    in_bucket ts lt false e = get_other (λ ls. ls ++ l ∷ []) [] bucket w.bucket ts (apart bucket w.bucket e)

lists_put : (part bucket index : ℕ) (l : StoredList) (xs : List IndexTablets) (w : Place) → MatchOption (index_for 0 xs) ⊥ (λ x. IsThere part bucket x.parts) → lists_by w (index_for index (map (with_put part bucket l) xs)) ≡ with_list_at part bucket l index w (lists_by w (index_for index xs))
lists_put part bucket index l xs w h = ap (λ o. lists_by w o) (found_put part bucket index l xs) ∙ go (index_for index xs) refl (nat_eq index 0) refl
  where
    here : (x : IndexTablets) → index ≡ 0 → index_for index xs ≡ Some x → IsThere part bucket x.parts
    here x z e =
        let f : index_for 0 xs ≡ Some x = subst (λ (n : ℕ). index_for n xs ≡ Some x) z e in
        subst (λ (o : Option IndexTablets). MatchOption o ⊥ (λ x. IsThere part bucket x.parts)) f h

    go : (o : Option IndexTablets) → index_for index xs ≡ o → (b : Bool) → nat_eq index 0 ≡ b → lists_by w (option_map (with_put part bucket l) o) ≡ cond (b && (nat_eq part w.part && nat_eq bucket w.bucket)) (lists_by w o ++ l ∷ []) (lists_by w o)
    go None e true z =
        let f : index_for 0 xs ≡ None = subst (λ (n : ℕ). index_for n xs ≡ None) (eq_is index 0 z) e in
        absurd (subst (λ (o : Option IndexTablets). MatchOption o ⊥ (λ x. IsThere part bucket x.parts)) f h)
    go None e false z = refl
    go (Some x) e true z =
        let i : index ≡ 0 = eq_is index 0 z in
        let n : nat_eq x.number 0 ≡ true = subst (λ (m : ℕ). nat_eq x.number m ≡ true) i (found_passes (λ (y : IndexTablets). nat_eq y.number index) xs x e) in
        ap (λ (c : Bool). lists_by w (Some (cond c (record x { parts = in_tablet part bucket l x.parts }) x))) n
        ∙ in_place part bucket l x.parts w (here x i e) (nat_eq part w.part) (nat_eq bucket w.bucket) refl refl
    go (Some x) e false z =
        let k : x.number ≡ index = eq_is x.number index (found_passes (λ (y : IndexTablets). nat_eq y.number index) xs x e) in
        let n : nat_eq x.number 0 ≡ false = subst (λ (m : ℕ). nat_eq m 0 ≡ false) (sym k) z in
        ap (λ (c : Bool). lists_by w (Some (cond c (record x { parts = in_tablet part bucket l x.parts }) x))) n

-- the grid stays
sized_put : (part bucket : ℕ) (l : StoredList) (t : Table) (k : TableTablets) (x : IndexTablets) → HasTablets t k x → HasTablets t k (with_put part bucket l x)
sized_put part bucket l t k x h = go (nat_eq x.number 0)
  where
    go : (b : Bool) → HasTablets t k (cond b (record x { parts = in_tablet part bucket l x.parts }) x)
    go true = record {
      parts = length-changed (changed_at bucket (λ ls. ls ++ l ∷ [])) part x.parts ∙ h.parts;
      buckets = all_changed (HasBuckets t.layout.buckets) (changed_at bucket (λ ls. ls ++ l ∷ [])) (λ ts e. length-changed (λ ls. ls ++ l ∷ []) bucket ts ∙ e) part x.parts h.buckets;
      versions = h.versions;
    }
    go false = h

grid_put : (part bucket index : ℕ) (l : StoredList) (xs : List IndexTablets) (t : Table) (k : TableTablets) → MatchOption (index_for index xs) ⊥ (HasTablets t k) → MatchOption (index_for index (map (with_put part bucket l) xs)) ⊥ (HasTablets t k)
grid_put part bucket index l xs t k h = subst (λ (o : Option IndexTablets). MatchOption o ⊥ (HasTablets t k)) (sym (found_put part bucket index l xs)) (go (index_for index xs) h)
  where
    go : (o : Option IndexTablets) → MatchOption o ⊥ (HasTablets t k) → MatchOption (option_map (with_put part bucket l) o) ⊥ (HasTablets t k)
    go None e = e
    go (Some x) e = sized_put part bucket l t k x e

pub put_there : (part bucket version : ℕ) (r s : RowsetView) (old mid new : SetView) → r ≡ s → is_some (tablet_of 0 part bucket mid.indexes) ≡ true → indexes_seen mid ≡ indexes_seen old → new ≡ changed 0 part bucket (with_list (record { first = version; last = version; rowset = r })) mid → HasList part bucket (list_of version s) old new
put_there part bucket version r s old mid new same has unseen is =
    let l : StoredList = list_of version r in
    let seen : indexes_seen new ≡ map (with_put part bucket l) (indexes_seen old) =
    ap (λ (v : SetView). indexes_seen v) is
    ∙ (each_seen index_seen (changed_in 0 part bucket (with_list (record { first = version; last = version; rowset = r }))) (with_put part bucket l) (λ i. index_put part bucket (record { first = version; last = version; rowset = r }) i) mid.indexes
    ∙ ap (map (with_put part bucket l)) unseen) in
    let at = subst (λ (xs : List IndexTablets). MatchOption (index_for 0 xs) ⊥ (λ x. IsThere part bucket x.parts)) unseen (there part bucket mid.indexes has) in
    subst (λ (q : RowsetView). HasList part bucket (list_of version q) old new) same (record {
      lists = λ index w. ap (λ (xs : List IndexTablets). lists_by w (index_for index xs)) seen ∙ lists_put part bucket index l (indexes_seen old) w at;
      grid = λ t k index h. subst (λ (xs : List IndexTablets). MatchOption (index_for index xs) ⊥ (HasTablets t k)) (sym seen) (grid_put part bucket index l (indexes_seen old) t k h);
    })
