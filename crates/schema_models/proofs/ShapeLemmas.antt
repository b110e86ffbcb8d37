-- What the tests of a shape tell of its columns.
use Rattle.std.proofs.Common.{◌≡◌, ℕ, ◌<◌, Bool, true, false, not, ◌&&◌, List, [], ◌∷◌, ◌++◌, length, Option, Some, None, refl, arith}
use Rattle.std.specs.Prelude.{nat_lt, ◌==◌}
use Rattle.std.specs.List.{AllByRecursion, list_any}
use Rattle.std.specs.Str.{bytes_eq}
use Rattle.schema_models.specs.CellTypes.{is_type}
use Rattle.schema_models.specs.Faults.{first_of, refuse_if}
use Rattle.schema_models.specs.Names.{is_name}
use Rattle.schema_models.specs.ShapeRules.{IsShape, column_faults, faults_after, fits_default, fits_model, is_key, shape_fault}
use Rattle.schema_models.specs.ShapeView.{ShapeView, key_count, more_keys}
use Rattle.schema_models.specs.declared.column_def.ColumnDef.{ColumnDef}
use Rattle.schema_models.specs.declared.model.Model.{Model}
use Rattle.schema_models.specs.declared.role.Role.{Role}
use Rattle.schema_models.specs.declared.role.Role.TheVariants as role
use Rattle.schema_models.specs.declared.shape_error.ShapeError.{ShapeError}
use Rattle.schema_models.specs.declared.shape_error.ShapeError.TheVariants as fault

not_first : {E : Type 0} (x : Option E) (xs : List (Option E)) → first_of (x ∷ xs) ≡ None → (x ≡ None) × (first_of xs ≡ None)
not_first None xs e = (refl, e)
not_first (Some x) xs e = cc

none_left : {E : Type 0} (xs ys : List (Option E)) → first_of (xs ++ ys) ≡ None → (first_of xs ≡ None) × (first_of ys ≡ None)
none_left [] ys e = (refl, e)
none_left (None ∷ xs) ys e = none_left xs ys e
none_left (Some x ∷ xs) ys e = cc

not_refused : {E : Type 0} (b : Bool) (e : E) → refuse_if (not b) e ≡ None → b ≡ true
not_refused true e h = refl
not_refused false e h = cc

-- a column that its model has
abbrev pub Fits : Model → ColumnDef → Type 0
Fits m c = fits_model m c.role c.kind ≡ true

sixth_none : {E : Type 0} (a b c d f g h : Option E) → first_of (a ∷ b ∷ c ∷ d ∷ f ∷ g ∷ h ∷ []) ≡ None → g ≡ None
sixth_none a b c d f g h e =
    let e1 = not_first a (b ∷ c ∷ d ∷ f ∷ g ∷ h ∷ []) e in
    let e2 = not_first b (c ∷ d ∷ f ∷ g ∷ h ∷ []) e1.1 in
    let e3 = not_first c (d ∷ f ∷ g ∷ h ∷ []) e2.1 in
    let e4 = not_first d (f ∷ g ∷ h ∷ []) e3.1 in
    let e5 = not_first f (g ∷ h ∷ []) e4.1 in
    (not_first g (h ∷ []) e5.1).0

column_fits : (m : Model) (before : List ColumnDef) (c : ColumnDef) → first_of (column_faults m before c) ≡ None → Fits m c
column_fits m before c e =
    not_refused (fits_model m c.role c.kind) (fault.BadAgg (length before))
    (sixth_none (refuse_if (not (is_name c.name)) (fault.BadName (length before)))
    (refuse_if (list_any (λ b. bytes_eq b.name c.name) before) (fault.DoubleName (length before)))
    (refuse_if (not (is_type c.kind)) (fault.BadType (length before)))
    (refuse_if ((length before == 0) && not (is_key c.role)) (fault.NoKey (length before)))
    (refuse_if (is_key c.role && list_any (λ b. not (is_key b.role)) before) (fault.KeyAfterValue (length before)))
    (refuse_if (not (fits_model m c.role c.kind)) (fault.BadAgg (length before)))
    (refuse_if (not (fits_default c c.default)) (fault.BadDefault (length before)))
    e)

columns_fit : (m : Model) (before cs : List ColumnDef) → first_of (faults_after m before cs) ≡ None → AllByRecursion (Fits m) cs
columns_fit m before [] e = tt
columns_fit m before (c ∷ cs) e =
    let a = none_left (column_faults m before c) (faults_after m (before ++ c ∷ []) cs) e in
    (column_fits m before c a.0, columns_fit m (before ++ c ∷ []) cs a.1)

-- each column of a shape is one that its model has
pub shape_fits : (s : ShapeView) → IsShape s → AllByRecursion (Fits s.model) s.columns
unfolding shape_fault
shape_fits s e =
    let many : Option ShapeError = refuse_if (nat_lt 64 (length s.columns)) (fault.TooManyColumns 64) in
    let none : Option ShapeError = refuse_if (length s.columns == 0) (fault.NoKey 0) in
    let a = not_first many (none ∷ faults_after s.model [] s.columns) e in
    let b = not_first none (faults_after s.model [] s.columns) a.1 in
    columns_fit s.model [] s.columns b.1

-- the first column of a shape is a key

fourth_none : {E : Type 0} (a b c d : Option E) (rest : List (Option E)) → first_of (a ∷ b ∷ c ∷ d ∷ rest) ≡ None → d ≡ None
fourth_none a b c d rest e =
    let e1 = not_first a (b ∷ c ∷ d ∷ rest) e in
    let e2 = not_first b (c ∷ d ∷ rest) e1.1 in
    let e3 = not_first c (d ∷ rest) e2.1 in
    (not_first d rest e3.1).0

first_is_key : (m : Model) (c : ColumnDef) → first_of (column_faults m [] c) ≡ None → is_key c.role ≡ true
first_is_key m c e =
    not_refused (is_key c.role) (fault.NoKey 0)
    (fourth_none (refuse_if (not (is_name c.name)) (fault.BadName 0))
    (refuse_if (list_any (λ (b : ColumnDef). bytes_eq b.name c.name) []) (fault.DoubleName 0))
    (refuse_if (not (is_type c.kind)) (fault.BadType 0))
    (refuse_if (not (is_key c.role)) (fault.NoKey 0))
    (refuse_if (is_key c.role && list_any (λ (b : ColumnDef). not (is_key b.role)) []) (fault.KeyAfterValue 0)
    ∷ refuse_if (not (fits_model m c.role c.kind)) (fault.BadAgg 0)
    ∷ refuse_if (not (fits_default c c.default)) (fault.BadDefault 0)
    ∷ [])
    e)

counted : (r : Role) (n : ℕ) → is_key r ≡ true → 0 < more_keys r n
counted role.Key n e = omega arith
counted role.Plain n e = cc
counted (role.Agg k) n e = cc

some_key : (m : Model) (cs : List ColumnDef) → shape_fault m cs ≡ None → 0 < key_count cs
unfolding shape_fault
some_key m [] e = cc
some_key m (c ∷ cs) e =
    let many : Option ShapeError = refuse_if (nat_lt 64 (length (c ∷ cs))) (fault.TooManyColumns 64) in
    let none : Option ShapeError = refuse_if (length (c ∷ cs) == 0) (fault.NoKey 0) in
    let a = not_first many (none ∷ faults_after m [] (c ∷ cs)) e in
    let b = not_first none (faults_after m [] (c ∷ cs)) a.1 in
    counted c.role (key_count cs) (first_is_key m c (none_left (column_faults m [] c) (faults_after m (c ∷ []) cs) b.1).0)

pub shape_has_key : (s : ShapeView) → IsShape s → 0 < key_count s.columns
shape_has_key s i = some_key s.model s.columns i
