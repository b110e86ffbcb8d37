-- What holds of one table: its lists fold to what its indexes make of the base.
use Rattle.std.proofs.Common.{◌≡◌, ℕ, zero, suc, Bool, true, false, cond, ◌&&◌, ◌||◌, List, [], ◌∷◌, ◌++◌, Option, Some, None, ◌⊎◌, inl, inr, map, filter, flat_map, refl, sym, ◌∙◌, ap, arith, subst, append_assoc, append-nil}
use Rattle.std.proofs.lemmas.Bool.Decides.{nat_tests}
use Rattle.std.proofs.lemmas.List.Elements.{filter-append}
use Rattle.std.proofs.lemmas.List.{map-append}
use Rattle.std.specs.Prelude.{nat_eq, nat_lt}
use Rattle.std.specs.List.{AllByRecursion, list_any}
use Rattle.dl_values.specs.declared.cell.Cell.{Cell}
use Rattle.fold_laws.specs.Fold.{folded}
use Rattle.fold_laws.proofs.Folds.{fold_left, fold_right, fold_again}
use Rattle.fold_laws.proofs.Unique.{all_append, filter_none}
use Rattle.schema_models.specs.ShapeView.{ShapeView}
use Rattle.schema_models.specs.Folds.{fold_of, key_of}
use Rattle.schema_models.specs.RowRules.{IsOfShape}
use Rattle.schema_models.specs.ShapeRules.{IsShape}
use Rattle.row_map.specs.declared.map.RowMap.{RowMap}
use Rattle.row_map.specs.Maps.{Admits, Converts, Joins, conv, converts_row, mapped_row, rollup_map}
use Rattle.row_map.proofs.Conversion.{admitted_join}
use Rattle.row_map.proofs.Rollups.{rollup_converts}
use Rattle.front_defs.specs.declared.catalogue.Rollup.{Rollup}
use Rattle.front_defs.specs.Indexes.{Index, base_index, conv_by, index_at, mapped_index, nth}
use Rattle.schema_models.proofs.RowMerges.{shape_folding}
use Rattle.partitions.specs.LayoutRules.{IsLayout}
use Rattle.partitions.specs.Places.{AreInside, Place, is_at, is_in, lies_at, lies_in, place_for, rows_at, spread, tablets_of}
use Rattle.partitions.proofs.Places.{inside_fold, parts_alike, place_within, placing, spreading}
use Rattle.partitions.proofs.Carried.{carried_spread}
use Rattle.front_defs.specs.declared.catalogue.Table.{Table}
use Rattle.front_defs.specs.Stored.{AreRowsOf, StoredList, indexed, lists_to, index_lists, list_at, lists_with, rows_in, touches, writes}
use Rattle.front_laws.specs.Tidy.{Each}
use Rattle.front_laws.specs.Laws.{IndexFolds, TabletFolds, joined}

pub left : (s : ShapeView) (xs ys : List (List Cell)) → fold_of s (fold_of s xs ++ ys) ≡ fold_of s (xs ++ ys)
left s xs ys = fold_left (shape_folding s).order (key_of s) (shape_folding s).apart (shape_folding s).gathers xs ys

pub right : (s : ShapeView) (xs ys : List (List Cell)) → fold_of s (xs ++ fold_of s ys) ≡ fold_of s (xs ++ ys)
right s xs ys = fold_right (shape_folding s).order (key_of s) (shape_folding s).apart (shape_folding s).gathers xs ys

pub again : (s : ShapeView) (xs : List (List Cell)) → fold_of s (fold_of s xs) ≡ fold_of s xs
again s xs = fold_again (shape_folding s).order (key_of s) (shape_folding s).apart (shape_folding s).gathers xs

pub fold_none : (s : ShapeView) → fold_of s [] ≡ []
unfolding folded
fold_none s = refl

pub joined_snoc : (lists : List StoredList) (l : StoredList) → joined (rows_in (lists ++ l ∷ [])) ≡ joined (rows_in lists) ++ l.rows
joined_snoc [] l = append-nil l.rows
joined_snoc (x ∷ xs) l = ap (λ (y : List (List Cell)). x.rows ++ y) (joined_snoc xs l) ∙ sym (append_assoc x.rows (joined (rows_in xs)) l.rows)

-- ---- what holds of one table: its base is folded and inside the layout, and its lists fold to the rows of their tablets

pub record Holds (t : Table) (base : List (List Cell)) (lists : ℕ → Place → List StoredList) : Type 0 where
  pub base_is : base ≡ fold_of t.shape base
  pub inside : AreInside t.layout base
  pub converts : (names : List (List ℕ)) → Admits t.shape names → Converts (rollup_map t.shape names) base
  pub tablets : (index : ℕ) (w : Place) → TabletFolds (index_at index t) t w base (lists index w)

-- an index of a table: its base, or an admitted rollup
abbrev pub IsIndex : Table → Index → Type 0
IsIndex t x = (x ≡ base_index t) ⊎ ((names : List (List ℕ)) × (x ≡ mapped_index (rollup_map t.shape names)) × Admits t.shape names)

pub record Admitted (t : Table) : Type 0 where
  pub shape : IsShape t.shape
  pub rollups : Each (λ (r : Rollup). Admits t.shape r.columns) t.rollups

pub rollup_is : (t : Table) (rs : List Rollup) (n : ℕ) (x : Index) → Each (λ (r : Rollup). Admits t.shape r.columns) rs → nth n (map mapped_index (map (λ (r : Rollup). rollup_map t.shape r.columns) rs)) ≡ Some x → IsIndex t x
rollup_is t [] n x a e = absurd (cc)
rollup_is t (r ∷ rs) zero x a e = let i : mapped_index (rollup_map t.shape r.columns) ≡ x = cc in inr (r.columns, sym i, a.0)
rollup_is t (r ∷ rs) (suc n) x a e = rollup_is t rs n x a.1 e

pub index_is : (t : Table) (index : ℕ) (x : Index) → Admitted t → index_at index t ≡ Some x → IsIndex t x
index_is t zero x a e = let i : base_index t ≡ x = cc in inl (sym i)
index_is t (suc n) x a e = rollup_is t t.rollups n x a.rollups e

pub conv_none : (o : Option RowMap) → conv_by o [] ≡ []
conv_none None = refl
conv_none (Some m) = refl

pub indexed_none : (x : Index) → indexed x [] ≡ []
indexed_none x = ap (fold_of x.shape) (conv_none x.map) ∙ fold_none x.shape

pub no_lists : (t : Table) (index : ℕ) (w : Place) (o : Option Index) → TabletFolds o t w [] []
no_lists t index w None = refl
no_lists t index w (Some x) = fold_none x.shape ∙ sym (indexed_none x)

-- a partition that no row touches has none of them in its tablets
pub and_false : (a b : Bool) → a ≡ false → (a && b) ≡ false
and_false a b e = rw e refl

pub or_left : (a b : Bool) → (a || b) ≡ false → a ≡ false
or_left true b h = h
or_left false b h = refl

pub or_right : (a b : Bool) → (a || b) ≡ false → b ≡ false
or_right true b h = absurd (cc)
or_right false b h = h

pub not_at : (w : Place) (o : Option Place) → is_in w.part o ≡ false → is_at w o ≡ false
not_at w None h = refl
not_at w (Some v) h = and_false (nat_eq v.part w.part) (nat_eq v.bucket w.bucket) h

pub untouched : (t : Table) (w : Place) (rows : List (List Cell)) → touches t w.part rows ≡ false → rows_at t.layout w rows ≡ []
untouched t w rows h = filter_none (lies_at t.layout w) rows (all rows h)
  where
    all : (xs : List (List Cell)) → list_any (lies_in t.layout w.part) xs ≡ false → AllByRecursion (λ r. lies_at t.layout w r ≡ false) xs
    all [] k = tt
    all (x ∷ xs) k = (not_at w (place_for t.layout x) (or_left (lies_in t.layout w.part x) (list_any (lies_in t.layout w.part) xs) k), all xs (or_right (lies_in t.layout w.part x) (list_any (lies_in t.layout w.part) xs) k))

-- The rows of the longer base in a tablet: those that were there, and the new ones.
pub rows_more : (t : Table) (w : Place) (base rows : List (List Cell)) → IsLayout t.shape t.layout → rows_at t.layout w (fold_of t.shape (base ++ rows)) ≡ fold_of t.shape (rows_at t.layout w base ++ rows_at t.layout w rows)
rows_more t w base rows v = sym (placing t.shape t.layout v w (base ++ rows)) ∙ ap (fold_of t.shape) (filter-append (lies_at t.layout w) base rows)

pub all_filtered : {X : Type 0} (P : X → Type 0) (p : X → Bool) (xs : List X) → AllByRecursion P xs → AllByRecursion P (filter p xs)
all_filtered P p [] a = tt
all_filtered P p (x ∷ xs) a = go (p x) (all_filtered P p xs a.1)
  where
    go : (b : Bool) → AllByRecursion P (filter p xs) → AllByRecursion P (cond b (x ∷ filter p xs) (filter p xs))
    go true k = (a.0, k)
    go false k = k

-- What an index makes of the longer base in a tablet: its rows of those that were there, and of the new ones.
pub indexed_more : (t : Table) (x : Index) (w : Place) (base rows : List (List Cell)) → IsLayout t.shape t.layout → IsIndex t x → base ≡ fold_of t.shape base → ((names : List (List ℕ)) → Admits t.shape names → Converts (rollup_map t.shape names) base) → AllByRecursion (IsOfShape t.shape) rows
    → indexed x (rows_at t.layout w (fold_of t.shape (base ++ rows))) ≡ fold_of x.shape (conv_by x.map (rows_at t.layout w base) ++ conv_by x.map (rows_at t.layout w rows))
indexed_more t x w base rows v (inl e) b c a =
    subst (λ (y : Index). indexed y (rows_at t.layout w (fold_of t.shape (base ++ rows))) ≡ fold_of y.shape (conv_by y.map (rows_at t.layout w base) ++ conv_by y.map (rows_at t.layout w rows))) (sym e)
    (ap (fold_of t.shape) (rows_more t w base rows v) ∙ again t.shape (rows_at t.layout w base ++ rows_at t.layout w rows))
indexed_more t x w base rows v (inr (names, e, ad)) b c a =
    let s = t.shape in
    let m = rollup_map s names in
    let old = rows_at t.layout w base in
    let new = rows_at t.layout w rows in
    let j : Joins m = admitted_join s names ad in
    let old_is : fold_of s old ≡ old = placing s t.layout v w base ∙ ap (rows_at t.layout w) (sym b) in
    let here : List Cell → Type 0 = λ y. converts_row m y ≡ true in
    let co : Converts m (fold_of s old) = subst (Converts m) (sym old_is) (all_filtered here (lies_at t.layout w) base (c names ad)) in
    let cn : Converts m new = all_filtered here (lies_at t.layout w) rows (rollup_converts s names rows ad.known a) in
    subst (λ (y : Index). indexed y (rows_at t.layout w (fold_of s (base ++ rows))) ≡ fold_of y.shape (conv_by y.map old ++ conv_by y.map new)) (sym e)
    (ap (λ (l : List (List Cell)). fold_of m.to (conv m l)) (rows_more t w base rows v) ∙ j.joins old new co cn ∙ ap (λ (l : List (List Cell)). fold_of m.to (conv m l ++ conv m new)) old_is)

pub more_list : (t : Table) (x : Index) (w : Place) (version : ℕ) (old rows result : List (List Cell)) (lists : List StoredList) → fold_of x.shape (joined (rows_in lists)) ≡ indexed x old → result ≡ fold_of x.shape (conv_by x.map old ++ conv_by x.map (rows_at t.layout w rows))
    → fold_of x.shape (joined (rows_in (lists ++ list_at t x w version rows ∷ []))) ≡ result
more_list t x w version old rows result lists h k =
    let s = x.shape in
    let new = conv_by x.map (rows_at t.layout w rows) in
    ap (fold_of s) (joined_snoc lists (list_at t x w version rows)) ∙ right s (joined (rows_in lists)) new ∙ sym (left s (joined (rows_in lists)) new)
    ∙ ap (λ (l : List (List Cell)). fold_of s (l ++ new)) h ∙ left s (conv_by x.map old) new ∙ sym k

-- a tablet that no list is added to has none of the rows
pub out_of_reach : (t : Table) (w : Place) (rows : List (List Cell)) → IsLayout t.shape t.layout → nat_lt w.bucket t.layout.buckets ≡ false → rows_at t.layout w rows ≡ []
out_of_reach t w rows v h = filter_none (lies_at t.layout w) rows (all rows)
  where
    apart : (r : List Cell) (o : Option Place) → place_for t.layout r ≡ o → is_at w o ≡ false
    apart r None e = refl
    apart r (Some p) e =
        let k = place_within t.shape t.layout v r p e in
        let b = k.1 in
        let f : nat_eq p.bucket w.bucket ≡ false = grind (arith, nat_tests) in
        rw f (and_none (nat_eq p.part w.part))
      where
        and_none : (a : Bool) → (a && false) ≡ false
        and_none true = refl
        and_none false = refl

    all : (xs : List (List Cell)) → AllByRecursion (λ r. lies_at t.layout w r ≡ false) xs
    all [] = tt
    all (x ∷ xs) = (apart x (place_for t.layout x) refl, all xs)

pub unwritten : (t : Table) (w : Place) (rows : List (List Cell)) → IsLayout t.shape t.layout → writes t w rows ≡ false → rows_at t.layout w rows ≡ []
unwritten t w rows v h = go (touches t w.part rows) refl h
  where
    go : (b : Bool) → touches t w.part rows ≡ b → (b && nat_lt w.bucket t.layout.buckets) ≡ false → rows_at t.layout w rows ≡ []
    go true e k = out_of_reach t w rows v k
    go false e k = untouched t w rows e

pub no_list : (t : Table) (x : Index) (w : Place) (old rows result : List (List Cell)) (lists : List StoredList) → rows_at t.layout w rows ≡ [] → fold_of x.shape (joined (rows_in lists)) ≡ indexed x old → result ≡ fold_of x.shape (conv_by x.map old ++ conv_by x.map (rows_at t.layout w rows))
    → fold_of x.shape (joined (rows_in lists)) ≡ result
no_list t x w old rows result lists none h k =
    h ∙ ap (fold_of x.shape) (sym (append-nil (conv_by x.map old))) ∙ ap (λ (l : List (List Cell)). fold_of x.shape (conv_by x.map old ++ l)) (sym (ap (conv_by x.map) none ∙ conv_none x.map)) ∙ sym k

-- one tablet of an index gets a list of a load, or none
pub load_tablet : (t : Table) (o : Option Index) (w : Place) (version : ℕ) (base rows : List (List Cell)) (lists : List StoredList) → IsLayout t.shape t.layout → ((x : Index) → o ≡ Some x → IsIndex t x) → base ≡ fold_of t.shape base → ((names : List (List ℕ)) → Admits t.shape names → Converts (rollup_map t.shape names) base) → AllByRecursion (IsOfShape t.shape) rows → TabletFolds o t w base lists
    → TabletFolds o t w (fold_of t.shape (base ++ rows)) (lists_to t o w version lists rows)
load_tablet t None w version base rows lists v i b c a h = go (writes t w rows)
  where
    go : (y : Bool) → cond y lists lists ≡ []
    go true = h
    go false = h
load_tablet t (Some x) w version base rows lists v i b c a h = go (writes t w rows) refl
  where
    k : indexed x (rows_at t.layout w (fold_of t.shape (base ++ rows))) ≡ fold_of x.shape (conv_by x.map (rows_at t.layout w base) ++ conv_by x.map (rows_at t.layout w rows))
    k = indexed_more t x w base rows v (i x refl) b c a

    go : (y : Bool) → writes t w rows ≡ y → fold_of x.shape (joined (rows_in (cond y (lists ++ list_at t x w version rows ∷ []) lists))) ≡ indexed x (rows_at t.layout w (fold_of t.shape (base ++ rows)))
    go true e = more_list t x w version (rows_at t.layout w base) rows (indexed x (rows_at t.layout w (fold_of t.shape (base ++ rows)))) lists h k
    go false e = no_list t x w (rows_at t.layout w base) rows (indexed x (rows_at t.layout w (fold_of t.shape (base ++ rows)))) lists (unwritten t w rows v e) h k

-- a load of the table becomes visible
pub load_holds : (t : Table) (base rows : List (List Cell)) (version : ℕ → ℕ) (lists : ℕ → Place → List StoredList) → IsLayout t.shape t.layout → Admitted t → AreRowsOf t.shape t.layout rows → Holds t base lists
    → Holds t (fold_of t.shape (base ++ rows)) (λ index w. lists_with (Some t) index w (version w.part) (lists index w) rows)
load_holds t base rows version lists v ad i h = record {
  base_is = sym (again t.shape (base ++ rows));
  inside = inside_fold t.shape t.layout v (base ++ rows) (all_append _ base rows h.inside i.inside);
  converts = λ names a. (admitted_join t.shape names a).longer base rows (subst (Converts (rollup_map t.shape names)) h.base_is (h.converts names a)) (rollup_converts t.shape names rows a.known i.shaped);
  tablets = λ index w. load_tablet t (index_at index t) w (version w.part) base rows (lists index w) v (λ x e. index_is t index x ad e) h.base_is h.converts i.shaped (h.tablets index w);
}

-- a load of another table, or one that brings no rows
pub none_holds : (t : Table) (base : List (List Cell)) (version : ℕ → ℕ) (lists : ℕ → Place → List StoredList) → Holds t base lists → Holds t base (λ index w. lists_with (Some t) index w (version w.part) (lists index w) [])
none_holds t base version lists h = h

pub joined_append : (xs ys : List (List (List Cell))) → joined (xs ++ ys) ≡ joined xs ++ joined ys
joined_append [] ys = refl
joined_append (x ∷ xs) ys = ap (λ (l : List (List Cell)). x ++ l) (joined_append xs ys) ∙ sym (append_assoc x (joined xs) (joined ys))

-- all lists, tablet by tablet
pub lists_flat : (f : Place → List StoredList) (ws : List Place) → joined (flat_map (λ w. rows_in (f w)) ws) ≡ flat_map (λ w. joined (rows_in (f w))) ws
lists_flat f [] = refl
lists_flat f (w ∷ ws) = joined_append (rows_in (f w)) (flat_map (λ x. rows_in (f x)) ws) ∙ ap (λ (l : List (List Cell)). joined (rows_in (f w)) ++ l) (lists_flat f ws)

-- the lists of all tablets of an index fold to what it makes of the base
pub conv_flat : (o : Option RowMap) (t : Table) (base : List (List Cell)) (ws : List Place) → flat_map (λ w. conv_by o (rows_at t.layout w base)) ws ≡ conv_by o (flat_map (λ w. rows_at t.layout w base) ws)
conv_flat None t base ws = refl
conv_flat (Some m) t base [] = refl
conv_flat (Some m) t base (w ∷ ws) = ap (λ (l : List (List Cell)). conv m (rows_at t.layout w base) ++ l) (conv_flat (Some m) t base ws) ∙ sym (map-append (mapped_row m) (rows_at t.layout w base) (flat_map (λ x. rows_at t.layout x base) ws))

pub bool_row : (m : RowMap) (rows : List (List Cell)) → Converts m rows → AllByRecursion (λ r. converts_row m r ≡ true) rows
bool_row m rows c = c

pub spread_index : (t : Table) (x : Index) (base : List (List Cell)) → IsLayout t.shape t.layout → IsIndex t x → AreInside t.layout base → ((names : List (List ℕ)) → Admits t.shape names → Converts (rollup_map t.shape names) base) → fold_of x.shape (conv_by x.map (spread t.layout base)) ≡ indexed x base
spread_index t x base v (inl e) i c = subst (λ (y : Index). fold_of y.shape (conv_by y.map (spread t.layout base)) ≡ indexed y base) (sym e) (spreading t.shape t.layout v base i)
spread_index t x base v (inr (names, e, ad)) i c =
    let m = rollup_map t.shape names in
    subst (λ (y : Index). fold_of y.shape (conv_by y.map (spread t.layout base)) ≡ indexed y base) (sym e)
    (carried_spread t.shape t.layout v (mapped_row m) (fold_of m.to) (converts_row m) (admitted_join t.shape names ad).swaps (right m.to) base i (c names ad))

pub index_folds : (t : Table) (o : Option Index) (base : List (List Cell)) (lists : Place → List StoredList) → IsLayout t.shape t.layout → ((x : Index) → o ≡ Some x → IsIndex t x) → AreInside t.layout base → ((names : List (List ℕ)) → Admits t.shape names → Converts (rollup_map t.shape names) base) → ((w : Place) → TabletFolds o t w base (lists w)) → IndexFolds o base (index_lists (Some t) lists)
index_folds t None base lists v i a c h = go (tablets_of t.layout)
  where
    go : (ws : List Place) → flat_map (λ w. rows_in (lists w)) ws ≡ []
    go [] = refl
    go (w ∷ ws) = ap (λ (l : List StoredList). rows_in l ++ flat_map (λ x. rows_in (lists x)) ws) (h w) ∙ go ws
index_folds t (Some x) base lists v i a c h =
    ap (fold_of x.shape) (lists_flat lists (tablets_of t.layout))
    ∙ parts_alike x.shape (λ w. joined (rows_in (lists w))) (λ w. conv_by x.map (rows_at t.layout w base)) h (tablets_of t.layout)
    ∙ ap (fold_of x.shape) (conv_flat x.map t base (tablets_of t.layout))
    ∙ spread_index t x base v (i x refl) a c

pub all_fold : (t : Table) (index : ℕ) (base : List (List Cell)) (lists : ℕ → Place → List StoredList) → IsLayout t.shape t.layout → Admitted t → Holds t base lists → IndexFolds (index_at index t) base (index_lists (Some t) (lists index))
all_fold t index base lists v ad h = index_folds t (index_at index t) base (lists index) v (λ x e. index_is t index x ad e) h.inside h.converts (h.tablets index)
