-- Whole rows under the map of a rollup: merged rows become the merge of what they become, rows of one key rows of one key, and
-- where no key is lacking rows of different keys stay so.
use Rattle.std.proofs.Common.{◌≡◌, ℕ, Bool, true, false, cond, ◌||◌, List, [], ◌∷◌, ◌++◌, Option, Some, None, find, is_none, take, refl, sym, ap, ap₂, ◌∙◌, subst}
use Rattle.std.specs.List.{AllByRecursion, list_any}
use Rattle.std.specs.Str.{bytes_eq}
use Rattle.dl_values.specs.declared.cell.Cell.{Cell}
use Rattle.schema_models.specs.CellsByName.{cell_under, names_of}
use Rattle.schema_models.specs.Folds.{merged_by_role, merged_row}
use Rattle.schema_models.specs.ShapeRules.{is_key}
use Rattle.schema_models.specs.ShapeView.{key_count}
use Rattle.schema_models.specs.declared.column_def.ColumnDef.{ColumnDef}
use Rattle.row_map.specs.declared.map.Origin.TheVariants as origin
use Rattle.row_map.specs.Maps.{by_names, cell_by, cells_by, column_named, picked, picked_one, put_first}
use Rattle.row_map.proofs.Rollups.{known_cons}
use Rattle.row_map.proofs.ShapeColumns.{Follows, Ordered, bytes_same, named, same_bytes}
use Rattle.row_map.proofs.Picking.{cell_merges, counted, heads, key_under, none_taken, one_more, picked_under, uncounted}

-- the columns that stand under names
abbrev pub Picks : List ColumnDef → List (List ℕ) → List ColumnDef → Type 0
Picks cs [] [] = Unit {0}
Picks cs (n ∷ ns) (d ∷ ds) = (column_named n cs ≡ Some d) × Picks cs ns ds
Picks cs _ _ = ⊥

pub picks : (cs : List ColumnDef) (names : List (List ℕ)) → find (λ n. is_none (column_named n cs)) names ≡ None → Picks cs names (picked cs names)
picks cs [] k = tt
picks cs (n ∷ ns) k =
    let u = known_cons cs n ns (column_named n cs) k in
    subst (λ (o : Option ColumnDef). Picks cs (n ∷ ns) (picked_one o ++ picked cs ns)) (sym u.0.1) (u.0.1, picks cs ns u.1)

-- what a row that converts begins with, and the rest
split : (o : Option Cell) (p : Option (List Cell)) (a : List Cell) → put_first o p ≡ Some a → (u : Cell) × (us : List Cell) × (o ≡ Some u) × (p ≡ Some us) × (a ≡ u ∷ us)
split None p a e = absurd (cc)
split (Some u) None a e = absurd (cc)
split (Some u) (Some us) a e = (u, us, refl, refl, cc)

join : (o : Option Cell) (p : Option (List Cell)) (u : Cell) (us : List Cell) → o ≡ Some u → p ≡ Some us → put_first o p ≡ Some (u ∷ us)
join o p u us e f = rw (e, f) refl

pub some_same : (u v : Cell) → Some u ≡ Some v → u ≡ v
some_same u v e = cc

pub rows_merge_picked : (cs : List ColumnDef) (names : List (List ℕ)) (ds : List ColumnDef) → Picks cs names ds → (x y a b : List Cell) → cells_by cs ds (by_names names) x ≡ Some a → cells_by cs ds (by_names names) y ≡ Some b → cells_by cs ds (by_names names) (merged_row cs x y) ≡ Some (merged_row ds a b)
rows_merge_picked cs [] [] p x y a b e f = refl
rows_merge_picked cs [] (d ∷ ds) p x y a b e f = elim p [ ]
rows_merge_picked cs (n ∷ ns) [] p x y a b e f = elim p [ ]
rows_merge_picked cs (n ∷ ns) (d ∷ ds) p x y a b e f =
    let q = split (cell_by cs d (origin.From n) x) (cells_by cs ds (by_names ns) x) a e in
    let r = split (cell_by cs d (origin.From n) y) (cells_by cs ds (by_names ns) y) b f in
    join (cell_by cs d (origin.From n) (merged_row cs x y)) (cells_by cs ds (by_names ns) (merged_row cs x y)) (merged_by_role d.role q.0 r.0) (merged_row ds q.1 r.1)
    (cell_merges cs n d x y q.0 r.0 p.0 q.2 r.2) (rows_merge_picked cs ns ds p.1 x y q.1 r.1 q.3 r.3)
    ∙ ap₂ (λ (s t : List Cell). Some (merged_row (d ∷ ds) s t)) (sym q.4) (sym r.4)

-- ---- keys

-- rows of one key have one key under the map
pub one_key : (cs : List ColumnDef) → Ordered cs → (names : List (List ℕ)) (ds : List ColumnDef) → Picks cs names ds → (x y a b : List Cell) → take (key_count cs) x ≡ take (key_count cs) y → cells_by cs ds (by_names names) x ≡ Some a → cells_by cs ds (by_names names) y ≡ Some b → take (key_count ds) a ≡ take (key_count ds) b
one_key cs o [] [] p x y a b t e f = none_taken 0 a b refl
one_key cs o [] (d ∷ ds) p x y a b t e f = elim p [ ]
one_key cs o (n ∷ ns) [] p x y a b t e f = elim p [ ]
one_key cs o (n ∷ ns) (d ∷ ds) p x y a b t e f =
    let q = split (cell_by cs d (origin.From n) x) (cells_by cs ds (by_names ns) x) a e in
    let r = split (cell_by cs d (origin.From n) y) (cells_by cs ds (by_names ns) y) b f in
    ap (λ (l : List Cell). take (key_count (d ∷ ds)) l) q.4 ∙ go q.0 r.0 q.1 r.1 q.2 r.2 (one_key cs o ns ds p.1 x y q.1 r.1 t q.3 r.3) (is_key d.role) refl ∙ sym (ap (λ (l : List Cell). take (key_count (d ∷ ds)) l) r.4)
  where
    go : (u v : Cell) (us vs : List Cell) → cell_by cs d (origin.From n) x ≡ Some u → cell_by cs d (origin.From n) y ≡ Some v → take (key_count ds) us ≡ take (key_count ds) vs → (k : Bool) → is_key d.role ≡ k → take (key_count (d ∷ ds)) (u ∷ us) ≡ take (key_count (d ∷ ds)) (v ∷ vs)
    go u v us vs i j rest false h = none_taken (key_count (d ∷ ds)) (u ∷ us) (v ∷ vs) (uncounted d.role (key_count ds) h)
    go u v us vs i j rest true h =
        let same : u ≡ v = some_same u v (sym (picked_under cs n d x u p.0 i) ∙ key_under cs o n d x y p.0 h t ∙ picked_under cs n d y v p.0 j) in
        subst (λ (m : ℕ). take m (u ∷ us) ≡ take m (v ∷ vs)) (sym (counted d.role (key_count ds) h)) (one_more (key_count ds) u v us vs same rest)

-- two rows have the same cell under a name
abbrev pub SameCell : List ColumnDef → List Cell → List Cell → List ℕ → Type 0
SameCell cs x y n = (u : Cell) × (cell_under (names_of cs) n x ≡ Some u) × (cell_under (names_of cs) n y ≡ Some u)

-- the same cell, if the column of the name is a key
abbrev pub SameKey : List ColumnDef → List Cell → List Cell → List ℕ → Type 0
SameKey cs x y n = (c : ColumnDef) → column_named n cs ≡ Some c → is_key c.role ≡ true → SameCell cs x y n

no_key : (cs : List ColumnDef) (x y : List Cell) (n : List ℕ) (d : ColumnDef) → column_named n cs ≡ Some d → is_key d.role ≡ false → SameKey cs x y n
no_key cs x y n d e h c f k = absurd (differ (d_is (sym e ∙ f)))
  where
    d_is : Some d ≡ Some c → d ≡ c
    d_is i = cc

    differ : d ≡ c → ⊥
    differ i = let j : is_key c.role ≡ false = subst (λ (z : ColumnDef). is_key z.role ≡ false) i h in cc

pub values_after : (d : ColumnDef) (ds : List ColumnDef) → AllByRecursion (Follows d) ds → is_key d.role ≡ false → AllByRecursion (λ (c : ColumnDef). is_key c.role ≡ false) ds
values_after d [] a h = tt
values_after d (c ∷ cs) a h = (a.0.1 h, values_after d cs a.1 h)

no_keys : (cs : List ColumnDef) (x y : List Cell) (names : List (List ℕ)) (ds : List ColumnDef) → Picks cs names ds → AllByRecursion (λ (c : ColumnDef). is_key c.role ≡ false) ds → AllByRecursion (SameKey cs x y) names
no_keys cs x y [] [] p a = tt
no_keys cs x y [] (d ∷ ds) p a = elim p [ ]
no_keys cs x y (n ∷ ns) [] p a = elim p [ ]
no_keys cs x y (n ∷ ns) (d ∷ ds) p a = (no_key cs x y n d p.0 a.0, no_keys cs x y ns ds p.1 a.1)

-- rows that have one key under the map have the same cells under the names of keys
same_keys : (cs : List ColumnDef) (names : List (List ℕ)) (ds : List ColumnDef) → Picks cs names ds → Ordered ds → (x y a b : List Cell) → cells_by cs ds (by_names names) x ≡ Some a → cells_by cs ds (by_names names) y ≡ Some b → take (key_count ds) a ≡ take (key_count ds) b → AllByRecursion (SameKey cs x y) names
same_keys cs [] [] p o x y a b e f t = tt
same_keys cs [] (d ∷ ds) p o x y a b e f t = elim p [ ]
same_keys cs (n ∷ ns) [] p o x y a b e f t = elim p [ ]
same_keys cs (n ∷ ns) (d ∷ ds) p o x y a b e f t =
    let q = split (cell_by cs d (origin.From n) x) (cells_by cs ds (by_names ns) x) a e in
    let r = split (cell_by cs d (origin.From n) y) (cells_by cs ds (by_names ns) y) b f in
    let s : take (key_count (d ∷ ds)) (q.0 ∷ q.1) ≡ take (key_count (d ∷ ds)) (r.0 ∷ r.1) = sym (ap (λ (l : List Cell). take (key_count (d ∷ ds)) l) q.4) ∙ t ∙ ap (λ (l : List Cell). take (key_count (d ∷ ds)) l) r.4 in
    go q.0 r.0 q.1 r.1 q.2 r.2 s (λ k. same_keys cs ns ds p.1 o.1 x y q.1 r.1 q.3 r.3 k) (is_key d.role) refl
  where
    go : (u v : Cell) (us vs : List Cell) → cell_by cs d (origin.From n) x ≡ Some u → cell_by cs d (origin.From n) y ≡ Some v → take (key_count (d ∷ ds)) (u ∷ us) ≡ take (key_count (d ∷ ds)) (v ∷ vs) → (take (key_count ds) us ≡ take (key_count ds) vs → AllByRecursion (SameKey cs x y) ns) → (k : Bool) → is_key d.role ≡ k → AllByRecursion (SameKey cs x y) (n ∷ ns)
    go u v us vs i j s rest false h = no_keys cs x y (n ∷ ns) (d ∷ ds) p (h, values_after d ds o.0 h)
    go u v us vs i j s rest true h =
        let w = heads (key_count ds) u v us vs (subst (λ (m : ℕ). take m (u ∷ us) ≡ take m (v ∷ vs)) (counted d.role (key_count ds) h) s) in
        ((λ c e k. (u, picked_under cs n d x u p.0 i, picked_under cs n d y v p.0 j ∙ ap (λ (z : Cell). Some z) (sym w.0))), rest w.1)

-- a name among names has what all of them have
of_name : (P : List ℕ → Type 0) (n : List ℕ) (names : List (List ℕ)) → list_any (bytes_eq n) names ≡ true → AllByRecursion P names → P n
of_name P n [] h a = absurd (cc)
of_name P n (m ∷ ms) h a = go (bytes_eq n m) refl h (λ k. of_name P n ms k a.1)
  where
    go : (b : Bool) → bytes_eq n m ≡ b → (b || list_any (bytes_eq n) ms) ≡ true → (list_any (bytes_eq n) ms ≡ true → P n) → P n
    go true e k rest = subst P (sym (bytes_same n m e)) a.0
    go false e k rest = rest k

-- the same cell under the name of a key column
abbrev SameAt : List ColumnDef → List Cell → List Cell → ColumnDef → Type 0
SameAt cs x y d = is_key d.role ≡ true → SameCell cs x y d.name

-- each key column is among the names
abbrev pub HasKeys : List (List ℕ) → List ColumnDef → Type 0
HasKeys names cs = AllByRecursion (λ (d : ColumnDef). is_key d.role ≡ true → list_any (bytes_eq d.name) names ≡ true) cs

at_columns : (cs : List ColumnDef) (names : List (List ℕ)) (x y : List Cell) → AllByRecursion (SameKey cs x y) names → (ds : List ColumnDef) → HasKeys names ds → AllByRecursion (λ (d : ColumnDef). column_named d.name cs ≡ Some d) ds → AllByRecursion (SameAt cs x y) ds
at_columns cs names x y a [] k e = tt
at_columns cs names x y a (d ∷ ds) k e = ((λ h. of_name (SameKey cs x y) d.name names (k.0 h) a d e.0 h), at_columns cs names x y a ds k.1 e.1)

later_columns : (c : ColumnDef) (cs : List ColumnDef) (u v : Cell) (us vs : List Cell) (ds : List ColumnDef) → AllByRecursion (Follows c) ds → AllByRecursion (SameAt (c ∷ cs) (u ∷ us) (v ∷ vs)) ds → AllByRecursion (SameAt cs us vs) ds
later_columns c cs u v us vs [] f a = tt
later_columns c cs u v us vs (d ∷ ds) f a = ((λ h. past d f.0.0 (a.0 h)), later_columns c cs u v us vs ds f.1 a.1)
  where
    past : (d : ColumnDef) → bytes_eq c.name d.name ≡ false → SameCell (c ∷ cs) (u ∷ us) (v ∷ vs) d.name → SameCell cs us vs d.name
    past d e s = (s.0, sym (ap (λ (b : Bool). cond b (Some u) (cell_under (names_of cs) d.name us)) e) ∙ s.1, sym (ap (λ (b : Bool). cond b (Some v) (cell_under (names_of cs) d.name vs)) e) ∙ s.2)

-- rows with the same cells under the names of keys are of one key
keys_by_names : (cs : List ColumnDef) → Ordered cs → (x y : List Cell) → AllByRecursion (SameAt cs x y) cs → take (key_count cs) x ≡ take (key_count cs) y
keys_by_names [] o x y a = none_taken 0 x y refl
keys_by_names (c ∷ cs) o x y a = go (is_key c.role) refl x y a (λ us vs b. keys_by_names cs o.1 us vs b)
  where
    go : (k : Bool) → is_key c.role ≡ k → (p q : List Cell) → AllByRecursion (SameAt (c ∷ cs) p q) (c ∷ cs) → ((us vs : List Cell) → AllByRecursion (SameAt cs us vs) cs → take (key_count cs) us ≡ take (key_count cs) vs) → take (key_count (c ∷ cs)) p ≡ take (key_count (c ∷ cs)) q
    go false h p q b rest = none_taken (key_count (c ∷ cs)) p q (uncounted c.role (key_count cs) h)
    go true h [] q b rest = let s = b.0 h in absurd (none_some s.0 s.1)
      where
        none_some : (u : Cell) → None ≡ Some u → ⊥
        none_some u e = cc
    go true h (u ∷ us) [] b rest = let s = b.0 h in absurd (none_some s.0 s.2)
      where
        none_some : (u : Cell) → None ≡ Some u → ⊥
        none_some u e = cc
    go true h (u ∷ us) (v ∷ vs) b rest =
        let s = b.0 h in
        let i = same_bytes c.name in
        let p : Some u ≡ Some s.0 = sym (ap (λ (z : Bool). cond z (Some u) (cell_under (names_of cs) c.name us)) i) ∙ s.1 in
        let q : Some v ≡ Some s.0 = sym (ap (λ (z : Bool). cond z (Some v) (cell_under (names_of cs) c.name vs)) i) ∙ s.2 in
        subst (λ (m : ℕ). take m (u ∷ us) ≡ take m (v ∷ vs)) (sym (counted c.role (key_count cs) h)) (one_more (key_count cs) u v us vs (some_same u v (p ∙ sym q)) (rest us vs (later_columns c cs u v us vs cs o.0 b.1)))

-- rows that have one key under a map that has each key are of one key
pub keys_apart : (cs : List ColumnDef) → Ordered cs → (names : List (List ℕ)) (ds : List ColumnDef) → Picks cs names ds → Ordered ds → HasKeys names cs → (x y a b : List Cell) → cells_by cs ds (by_names names) x ≡ Some a → cells_by cs ds (by_names names) y ≡ Some b → take (key_count ds) a ≡ take (key_count ds) b → take (key_count cs) x ≡ take (key_count cs) y
keys_apart cs o names ds p q k x y a b e f t = keys_by_names cs o x y (at_columns cs names x y (same_keys cs names ds p q x y a b e f t) cs k (named cs o))
