-- What a shape tells of its columns: names differ, and keys come first.
use Rattle.std.proofs.Common.{◌≡◌, ℕ, Bool, true, false, cond, not, ◌&&◌, ◌||◌, List, [], ◌∷◌, ◌++◌, Option, Some, None, length, append_assoc, refl, sym, ap, ◌∙◌, subst, rules}
use Rattle.std.proofs.lemmas.Slice.Eq.{bytes_eq-Decides}
use Rattle.std.specs.Prelude.{nat_lt, ◌==◌}
use Rattle.std.specs.List.{AllByRecursion, list_any}
use Rattle.std.specs.Str.{bytes_eq}
use Rattle.schema_models.specs.CellTypes.{is_type}
use Rattle.schema_models.specs.Faults.{first_of, refuse_if}
use Rattle.schema_models.specs.Names.{is_name}
use Rattle.schema_models.specs.ShapeRules.{IsShape, column_faults, faults_after, fits_default, fits_model, is_key, shape_fault}
use Rattle.schema_models.specs.ShapeView.{ShapeView}
use Rattle.schema_models.specs.declared.column_def.ColumnDef.{ColumnDef}
use Rattle.schema_models.specs.declared.model.Model.{Model}
use Rattle.schema_models.specs.declared.shape_error.ShapeError.{ShapeError}
use Rattle.schema_models.specs.declared.shape_error.ShapeError.TheVariants as fault
use Rattle.row_map.specs.Maps.{column_named}

-- a column and one after it: their names differ, and after a value there is no key
abbrev pub Follows : ColumnDef → ColumnDef → Type 0
Follows c d = (bytes_eq c.name d.name ≡ false) × (is_key c.role ≡ false → is_key d.role ≡ false)

abbrev pub Ordered : List ColumnDef → Type 0
Ordered [] = Unit {0}
Ordered (c ∷ cs) = AllByRecursion (Follows c) cs × Ordered cs

-- ---- from the tests of a shape

rest_none : {E : Type 0} (x : Option E) (xs : List (Option E)) → first_of (x ∷ xs) ≡ None → (x ≡ None) × (first_of xs ≡ None)
rest_none None xs e = (refl, e)
rest_none (Some x) xs e = absurd (cc)

parts_none : {E : Type 0} (xs ys : List (Option E)) → first_of (xs ++ ys) ≡ None → (first_of xs ≡ None) × (first_of ys ≡ None)
parts_none [] ys e = (refl, e)
parts_none (None ∷ xs) ys e = parts_none xs ys e
parts_none (Some x ∷ xs) ys e = absurd (cc)

passed : {E : Type 0} (b : Bool) (e : E) → refuse_if b e ≡ None → b ≡ false
passed true e h = absurd (cc)
passed false e h = refl

second_and_fifth : {E : Type 0} (a b c d f : Option E) (rest : List (Option E)) → first_of (a ∷ b ∷ c ∷ d ∷ f ∷ rest) ≡ None → (b ≡ None) × (f ≡ None)
second_and_fifth a b c d f rest e =
    let e1 = rest_none a (b ∷ c ∷ d ∷ f ∷ rest) e in
    let e2 = rest_none b (c ∷ d ∷ f ∷ rest) e1.1 in
    let e3 = rest_none c (d ∷ f ∷ rest) e2.1 in
    let e4 = rest_none d (f ∷ rest) e3.1 in
    let e5 = rest_none f rest e4.1 in
    (e2.0, e5.0)

column_passed : (m : Model) (before : List ColumnDef) (c : ColumnDef) → first_of (column_faults m before c) ≡ None → (list_any (λ (b : ColumnDef). bytes_eq b.name c.name) before ≡ false) × ((is_key c.role && list_any (λ (b : ColumnDef). not (is_key b.role)) before) ≡ false)
column_passed m before c e =
    let p = second_and_fifth (refuse_if (not (is_name c.name)) (fault.BadName (length before)))
    (refuse_if (list_any (λ (b : ColumnDef). bytes_eq b.name c.name) before) (fault.DoubleName (length before)))
    (refuse_if (not (is_type c.kind)) (fault.BadType (length before)))
    (refuse_if ((length before == 0) && not (is_key c.role)) (fault.NoKey (length before)))
    (refuse_if (is_key c.role && list_any (λ (b : ColumnDef). not (is_key b.role)) before) (fault.KeyAfterValue (length before)))
    (refuse_if (not (fits_model m c.role c.kind)) (fault.BadAgg (length before)) ∷ refuse_if (not (fits_default c c.default)) (fault.BadDefault (length before)) ∷ [])
    e in
    (passed (list_any (λ (b : ColumnDef). bytes_eq b.name c.name) before) (fault.DoubleName (length before)) p.0, passed (is_key c.role && list_any (λ (b : ColumnDef). not (is_key b.role)) before) (fault.KeyAfterValue (length before)) p.1)

none_at : {X : Type 0} (p : X → Bool) (front : List X) (x : X) (back : List X) → list_any p (front ++ x ∷ back) ≡ false → p x ≡ false
none_at p [] x back h = here (p x) (list_any p back) h
  where
    here : (a b : Bool) → (a || b) ≡ false → a ≡ false
    here true b k = absurd (cc)
    here false b k = refl
none_at p (y ∷ ys) x back h = none_at p ys x back (there (p y) (list_any p (ys ++ x ∷ back)) h)
  where
    there : (a b : Bool) → (a || b) ≡ false → b ≡ false
    there true b k = absurd (cc)
    there false b k = k

any_at : {X : Type 0} (p : X → Bool) (front : List X) (x : X) (back : List X) → p x ≡ true → list_any p (front ++ x ∷ back) ≡ true
any_at p [] x back h = rw h refl
any_at p (y ∷ ys) x back h = or_true (p y) (list_any p (ys ++ x ∷ back)) (any_at p ys x back h)
  where
    or_true : (a b : Bool) → b ≡ true → (a || b) ≡ true
    or_true true b k = refl
    or_true false b k = k

no_key_after : (key any : Bool) → (key && any) ≡ false → any ≡ true → key ≡ false
no_key_after true any h k = absurd (cc)
no_key_after false any h k = refl

follows : (m : Model) (front : List ColumnDef) (d : ColumnDef) (back : List ColumnDef) (c : ColumnDef) → first_of (column_faults m (front ++ d ∷ back) c) ≡ None → Follows d c
follows m front d back c e =
    let p = column_passed m (front ++ d ∷ back) c e in
    (none_at (λ (b : ColumnDef). bytes_eq b.name c.name) front d back p.0, λ k. no_key_after (is_key c.role) (list_any (λ (b : ColumnDef). not (is_key b.role)) (front ++ d ∷ back)) p.1 (any_at (λ (b : ColumnDef). not (is_key b.role)) front d back (ap not k)))

all_follow : (m : Model) (front : List ColumnDef) (d : ColumnDef) (back cs : List ColumnDef) → first_of (faults_after m (front ++ d ∷ back) cs) ≡ None → AllByRecursion (Follows d) cs
all_follow m front d back [] e = tt
all_follow m front d back (c ∷ cs) e =
    let p = parts_none (column_faults m (front ++ d ∷ back) c) (faults_after m ((front ++ d ∷ back) ++ c ∷ []) cs) e in
    (follows m front d back c p.0, all_follow m front d (back ++ c ∷ []) cs (ap (λ (l : List ColumnDef). first_of (faults_after m l cs)) (sym (append_assoc front (d ∷ back) (c ∷ []))) ∙ p.1))

ordered_after : (m : Model) (before cs : List ColumnDef) → first_of (faults_after m before cs) ≡ None → Ordered cs
ordered_after m before [] e = tt
ordered_after m before (c ∷ cs) e =
    let p = parts_none (column_faults m before c) (faults_after m (before ++ c ∷ []) cs) e in
    (all_follow m before c [] cs p.1, ordered_after m (before ++ c ∷ []) cs p.1)

pub shape_ordered : (s : ShapeView) → IsShape s → Ordered s.columns
unfolding shape_fault
shape_ordered s e =
    let many : Option ShapeError = refuse_if (nat_lt 64 (length s.columns)) (fault.TooManyColumns 64) in
    let none : Option ShapeError = refuse_if (length s.columns == 0) (fault.NoKey 0) in
    let a = rest_none many (none ∷ faults_after s.model [] s.columns) e in
    let b = rest_none none (faults_after s.model [] s.columns) a.1 in
    ordered_after s.model [] s.columns b.1

-- ---- each column is the one of its name

pub same_bytes : (n : List ℕ) → bytes_eq n n ≡ true
same_bytes n = search (rules, bytes_eq-Decides)

pub bytes_same : (m n : List ℕ) → bytes_eq m n ≡ true → m ≡ n
bytes_same m n h = search (rules, bytes_eq-Decides, h)

past : (c : ColumnDef) (cs ds : List ColumnDef) → AllByRecursion (Follows c) ds → AllByRecursion (λ (d : ColumnDef). column_named d.name cs ≡ Some d) ds → AllByRecursion (λ (d : ColumnDef). column_named d.name (c ∷ cs) ≡ Some d) ds
past c cs [] f a = tt
past c cs (d ∷ ds) f a = (ap (λ (b : Bool). cond b (Some c) (column_named d.name cs)) f.0.0 ∙ a.0, past c cs ds f.1 a.1)

pub named : (cs : List ColumnDef) → Ordered cs → AllByRecursion (λ (d : ColumnDef). column_named d.name cs ≡ Some d) cs
named [] o = tt
named (c ∷ cs) o = (ap (λ (b : Bool). cond b (Some c) (column_named c.name cs)) (same_bytes c.name), past c cs cs o.0 (named cs o.1))

-- a property of all columns is one of the column of a name
pub of_named : (P : ColumnDef → Type 0) (n : List ℕ) (cs : List ColumnDef) (c : ColumnDef) → column_named n cs ≡ Some c → AllByRecursion P cs → P c
of_named P n [] c e a = absurd (cc)
of_named P n (d ∷ ds) c e a = go (bytes_eq d.name n) e (λ h. of_named P n ds c h a.1)
  where
    go : (b : Bool) → cond b (Some d) (column_named n ds) ≡ Some c → (column_named n ds ≡ Some c → P c) → P c
    go true h rest = let i : d ≡ c = cc in subst P i a.0
    go false h rest = rest h
