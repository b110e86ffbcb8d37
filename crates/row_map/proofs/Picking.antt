-- What the map of a rollup picks: of merged rows the merged cells, and of rows of one key the same key.
use Rattle.std.proofs.Common.{◌≡◌, ℕ, ◌+◌, Bool, true, false, cond, not, ◌&&◌, List, [], ◌∷◌, Option, Some, None, take, refl, sym, ap, ap₂, ◌∙◌, subst, add-one}
use Rattle.std.specs.List.{AllByRecursion}
use Rattle.std.specs.Str.{bytes_eq}
use Rattle.agg_functions.specs.MergeLemmas.{is_null, merged_some}
use Rattle.dl_values.specs.declared.cell.Cell.{Cell}
use Rattle.dl_values.specs.declared.cell.Cell.TheVariants as cell
use Rattle.dl_values.specs.declared.col_type.ColType.{ColType}
use Rattle.dl_values.specs.Read.{read}
use Rattle.dl_values.specs.Write.{cell_text}
use Rattle.schema_models.specs.CellsByName.{cell_under, names_of}
use Rattle.schema_models.specs.Folds.{merged_by_role, merged_row}
use Rattle.schema_models.specs.ShapeRules.{is_key}
use Rattle.schema_models.specs.ShapeView.{key_count, more_keys}
use Rattle.schema_models.specs.declared.column_def.ColumnDef.{ColumnDef}
use Rattle.schema_models.specs.declared.role.Role.{Role}
use Rattle.schema_models.specs.declared.role.Role.TheVariants as role
use Rattle.row_map.specs.declared.map.Origin.TheVariants as origin
use Rattle.row_map.specs.Maps.{cast_by, cast_cell, cell_by, column_named, standing}
use Rattle.row_map.proofs.Rollups.{same_itself}
use Rattle.row_map.proofs.ShapeColumns.{Ordered, of_named}

-- ---- one cell: it is taken as it is, where it may stand

cast_same : (k : ColType) (x : Cell) → cast_cell k k x ≡ Some x
cast_same k cell.Null = refl
cast_same k (cell.Int z) = ap (λ (b : Bool). cond b (Some (cell.Int z)) (read k (cell_text (cell.Int z)))) (same_itself k)
cast_same k (cell.Day d) = ap (λ (b : Bool). cond b (Some (cell.Day d)) (read k (cell_text (cell.Day d)))) (same_itself k)
cast_same k (cell.Text t) = ap (λ (b : Bool). cond b (Some (cell.Text t)) (read k (cell_text (cell.Text t)))) (same_itself k)

cast_column : (c : ColumnDef) (o : Option Cell) → cast_by (Some c) c o ≡ standing c.nullable o
cast_column c None = refl
cast_column c (Some x) = ap (standing c.nullable) (cast_same c.kind x)

cell_is : (cs : List ColumnDef) (n : List ℕ) (c : ColumnDef) (row : List Cell) → column_named n cs ≡ Some c → cell_by cs c (origin.From n) row ≡ standing c.nullable (cell_under (names_of cs) n row)
cell_is cs n c row e = ap (λ (o : Option ColumnDef). cast_by o c (cell_under (names_of cs) n row)) e ∙ cast_column c (cell_under (names_of cs) n row)

stands : (nullable : Bool) (o : Option Cell) (u : Cell) → standing nullable o ≡ Some u → (o ≡ Some u) × ((is_null u && not nullable) ≡ false)
stands nullable None u e = absurd (cc)
stands true (Some cell.Null) u e = (e, subst (λ (x : Cell). (is_null x && false) ≡ false) (let i : cell.Null ≡ u = cc in i) refl)
stands false (Some cell.Null) u e = absurd (cc)
stands nullable (Some (cell.Int z)) u e = (e, subst (λ (x : Cell). (is_null x && not nullable) ≡ false) (let i : cell.Int z ≡ u = cc in i) refl)
stands nullable (Some (cell.Day d)) u e = (e, subst (λ (x : Cell). (is_null x && not nullable) ≡ false) (let i : cell.Day d ≡ u = cc in i) refl)
stands nullable (Some (cell.Text t)) u e = (e, subst (λ (x : Cell). (is_null x && not nullable) ≡ false) (let i : cell.Text t ≡ u = cc in i) refl)

stands_so : (nullable : Bool) (u : Cell) → (is_null u && not nullable) ≡ false → standing nullable (Some u) ≡ Some u
stands_so true cell.Null e = refl
stands_so false cell.Null e = absurd (cc)
stands_so nullable (cell.Int z) e = refl
stands_so nullable (cell.Day d) e = refl
stands_so nullable (cell.Text t) e = refl

role_some : (r : Role) (a b : Cell) → is_null a ≡ false → is_null b ≡ false → is_null (merged_by_role r a b) ≡ false
role_some role.Key a b p q = p
role_some role.Plain a b p q = q
role_some (role.Agg k) a b p q = merged_some k a b p q

-- two cells that may stand merge to one that may
merged_stands : (nullable : Bool) (r : Role) (a b : Cell) → (is_null a && not nullable) ≡ false → (is_null b && not nullable) ≡ false → (is_null (merged_by_role r a b) && not nullable) ≡ false
merged_stands true r a b p q = and_false (is_null (merged_by_role r a b))
  where
    and_false : (x : Bool) → (x && false) ≡ false
    and_false true = refl
    and_false false = refl
merged_stands false r a b p q = ap (λ (x : Bool). x && true) (role_some r a b (and_true (is_null a) p) (and_true (is_null b) q))
  where
    and_true : (x : Bool) → (x && true) ≡ false → x ≡ false
    and_true true h = h
    and_true false h = refl

-- ---- the cell under a name

merged_under : (cs : List ColumnDef) (n : List ℕ) (c : ColumnDef) (xs ys : List Cell) (u v : Cell) → column_named n cs ≡ Some c → cell_under (names_of cs) n xs ≡ Some u → cell_under (names_of cs) n ys ≡ Some v → cell_under (names_of cs) n (merged_row cs xs ys) ≡ Some (merged_by_role c.role u v)
merged_under [] n c xs ys u v e f g = absurd (cc)
merged_under (d ∷ ds) n c [] ys u v e f g = absurd (cc)
merged_under (d ∷ ds) n c (x ∷ xs) [] u v e f g = absurd (cc)
merged_under (d ∷ ds) n c (x ∷ xs) (y ∷ ys) u v e f g = go (bytes_eq d.name n) e f g (λ i j k. merged_under ds n c xs ys u v i j k)
  where
    go : (b : Bool) → cond b (Some d) (column_named n ds) ≡ Some c → cond b (Some x) (cell_under (names_of ds) n xs) ≡ Some u → cond b (Some y) (cell_under (names_of ds) n ys) ≡ Some v
        → (column_named n ds ≡ Some c → cell_under (names_of ds) n xs ≡ Some u → cell_under (names_of ds) n ys ≡ Some v → cell_under (names_of ds) n (merged_row ds xs ys) ≡ Some (merged_by_role c.role u v))
        → cond b (Some (merged_by_role d.role x y)) (cell_under (names_of ds) n (merged_row ds xs ys)) ≡ Some (merged_by_role c.role u v)
    go true i j k rest =
        let a : d ≡ c = cc in
        let p : x ≡ u = cc in
        let q : y ≡ v = cc in
        ap (λ (e : ColumnDef). Some (merged_by_role e.role x y)) a ∙ ap₂ (λ (s t : Cell). Some (merged_by_role c.role s t)) p q
    go false i j k rest = rest i j k

pub cell_merges : (cs : List ColumnDef) (n : List ℕ) (c : ColumnDef) (xs ys : List Cell) (u v : Cell) → column_named n cs ≡ Some c → cell_by cs c (origin.From n) xs ≡ Some u → cell_by cs c (origin.From n) ys ≡ Some v → cell_by cs c (origin.From n) (merged_row cs xs ys) ≡ Some (merged_by_role c.role u v)
cell_merges cs n c xs ys u v e f g =
    let p = stands c.nullable (cell_under (names_of cs) n xs) u (sym (cell_is cs n c xs e) ∙ f) in
    let q = stands c.nullable (cell_under (names_of cs) n ys) v (sym (cell_is cs n c ys e) ∙ g) in
    cell_is cs n c (merged_row cs xs ys) e ∙ ap (standing c.nullable) (merged_under cs n c xs ys u v e p.0 q.0) ∙ stands_so c.nullable (merged_by_role c.role u v) (merged_stands c.nullable c.role u v p.1 q.1)

-- the cell that was picked is the one under the name
pub picked_under : (cs : List ColumnDef) (n : List ℕ) (c : ColumnDef) (row : List Cell) (u : Cell) → column_named n cs ≡ Some c → cell_by cs c (origin.From n) row ≡ Some u → cell_under (names_of cs) n row ≡ Some u
picked_under cs n c row u e f = (stands c.nullable (cell_under (names_of cs) n row) u (sym (cell_is cs n c row e) ∙ f)).0

-- ---- the first cells of a row

pub counted : (r : Role) (n : ℕ) → is_key r ≡ true → more_keys r n ≡ n + 1
counted role.Key n e = refl
counted role.Plain n e = absurd (cc)
counted (role.Agg k) n e = absurd (cc)

pub uncounted : (r : Role) (n : ℕ) → is_key r ≡ false → more_keys r n ≡ 0
uncounted role.Key n e = absurd (cc)
uncounted role.Plain n e = refl
uncounted (role.Agg k) n e = refl

pub none_taken : (k : ℕ) (xs ys : List Cell) → k ≡ 0 → take k xs ≡ take k ys
none_taken k xs ys e = subst (λ (n : ℕ). take n xs ≡ take n ys) (sym e) refl

cons_same : {X : Type 0} (x y : X) (xs ys : List X) → x ∷ xs ≡ y ∷ ys → (x ≡ y) × (xs ≡ ys)
cons_same x y xs ys e = (let p : x ≡ y = cc in p, let q : xs ≡ ys = cc in q)

pub heads : (n : ℕ) (x y : Cell) (xs ys : List Cell) → take (n + 1) (x ∷ xs) ≡ take (n + 1) (y ∷ ys) → (x ≡ y) × (take n xs ≡ take n ys)
heads n x y xs ys e = cons_same x y (take n xs) (take n ys) (rw add-one at e)

pub one_more : (n : ℕ) (x y : Cell) (xs ys : List Cell) → x ≡ y → take n xs ≡ take n ys → take (n + 1) (x ∷ xs) ≡ take (n + 1) (y ∷ ys)
one_more n x y xs ys e f = rw add-one (ap₂ (λ (z : Cell) (zs : List Cell). z ∷ zs) e f)

nil_no_cons : {X : Type 0} (x : X) (xs : List X) → x ∷ xs ≡ [] → ⊥
nil_no_cons x xs e = cc

no_head : (n : ℕ) (y : Cell) (ys : List Cell) → take (n + 1) (y ∷ ys) ≡ [] → ⊥
no_head n y ys e = nil_no_cons y (take n ys) (rw add-one at e)

take_none : (n : ℕ) → take {A = Cell} (n + 1) [] ≡ []
take_none n = rw add-one refl

-- rows of one key have the same cell under the name of a key
pub key_under : (cs : List ColumnDef) → Ordered cs → (n : List ℕ) (c : ColumnDef) (xs ys : List Cell) → column_named n cs ≡ Some c → is_key c.role ≡ true → take (key_count cs) xs ≡ take (key_count cs) ys → cell_under (names_of cs) n xs ≡ cell_under (names_of cs) n ys
key_under [] o n c xs ys e k t = refl
key_under (d ∷ ds) o n c xs ys e k t = go (is_key d.role) refl xs ys t (λ us vs i u. key_under ds o.1 n c us vs i k u)
  where
    at : (b : Bool) (x y : Cell) (us vs : List Cell) → cond b (Some d) (column_named n ds) ≡ Some c → x ≡ y → (column_named n ds ≡ Some c → cell_under (names_of ds) n us ≡ cell_under (names_of ds) n vs)
        → cond b (Some x) (cell_under (names_of ds) n us) ≡ cond b (Some y) (cell_under (names_of ds) n vs)
    at true x y us vs i s rest = ap (λ (z : Cell). Some z) s
    at false x y us vs i s rest = rest i

    value : is_key d.role ≡ false → AllByRecursion (λ (f : ColumnDef). is_key f.role ≡ false) (d ∷ ds)
    value h = (h, rest ds o.0)
      where
        rest : (fs : List ColumnDef) → AllByRecursion (λ (f : ColumnDef). (bytes_eq d.name f.name ≡ false) × (is_key d.role ≡ false → is_key f.role ≡ false)) fs → AllByRecursion (λ (f : ColumnDef). is_key f.role ≡ false) fs
        rest [] a = tt
        rest (f ∷ fs) a = (a.0.1 h, rest fs a.1)

    differ : is_key c.role ≡ false → ⊥
    differ h = cc

    taken : is_key d.role ≡ true → (us vs : List Cell) → take (key_count (d ∷ ds)) us ≡ take (key_count (d ∷ ds)) vs → take (key_count ds + 1) us ≡ take (key_count ds + 1) vs
    taken h us vs u = subst (λ (m : ℕ). take m us ≡ take m vs) (counted d.role (key_count ds) h) u

    go : (b : Bool) → is_key d.role ≡ b → (us vs : List Cell) → take (key_count (d ∷ ds)) us ≡ take (key_count (d ∷ ds)) vs → ((ps qs : List Cell) → column_named n ds ≡ Some c → take (key_count ds) ps ≡ take (key_count ds) qs → cell_under (names_of ds) n ps ≡ cell_under (names_of ds) n qs) → cell_under (names_of (d ∷ ds)) n us ≡ cell_under (names_of (d ∷ ds)) n vs
    go false h us vs u rest = absurd (differ (of_named (λ (f : ColumnDef). is_key f.role ≡ false) n (d ∷ ds) c e (value h)))
    go true h [] [] u rest = refl
    go true h [] (y ∷ vs) u rest = absurd (no_head (key_count ds) y vs (sym (taken h [] (y ∷ vs) u) ∙ take_none (key_count ds)))
    go true h (x ∷ us) [] u rest = absurd (no_head (key_count ds) x us (taken h (x ∷ us) [] u ∙ take_none (key_count ds)))
    go true h (x ∷ us) (y ∷ vs) u rest =
        let p = heads (key_count ds) x y us vs (taken h (x ∷ us) (y ∷ vs) u) in
        at (bytes_eq d.name n) x y us vs e p.0 (λ i. rest us vs i p.1)
