-- What a definition without a fault gives is a valid layout, and stays one with a partition more that has no fault.
use Rattle.std.proofs.Common.{◌≡◌, ℕ, Bool, true, false, cond, not, ◌&&◌, ◌||◌, List, [], ◌∷◌, ◌++◌, Option, Some, None, find, length, map, refl, sym, ap, ◌∙◌, subst, append-nil, append_assoc, arith}
use Rattle.std.proofs.lemmas.Bool.Decides.{nat_tests}
use Rattle.std.specs.List.{list_all, list_any}
use Rattle.std.specs.Prelude.{is_none, nat_le}
use Rattle.std.specs.Str.{bytes_eq}
use Rattle.dl_values.specs.declared.cell.Cell.{Cell}
use Rattle.dl_values.specs.declared.col_type.ColType.{ColType}
use Rattle.schema_models.specs.Faults.{first_of, refuse_if}
use Rattle.schema_models.specs.Names.{is_name}
use Rattle.schema_models.specs.ShapeView.{ShapeView}
use Rattle.schema_models.specs.declared.column_def.ColumnDef.{ColumnDef}
use Rattle.partitions.specs.Columns.{type_of, type_under}
use Rattle.partitions.specs.LayoutFaults.{add_fault, added, are_buckets, defined, first_beside, first_with, is_named_in, layout_fault, may_hash, may_part, meets, no_hash_in, no_key_in, no_part_in, part_faults, ranged_faults, room_faults, written_faults}
use Rattle.partitions.specs.LayoutRules.{IsLayout, fit_after, fits_behind, is_whole, parts_fit}
use Rattle.partitions.specs.LayoutView.{LayoutView}
use Rattle.partitions.specs.Places.{is_below, low_end, high_end}
use Rattle.partitions.specs.Ranges.{are_bounds, bounds_after, column_of, ends_below, ends_rise, is_between, is_end, later_end, low_for, low_with, parts_of, ranged, with_range, written}
use Rattle.partitions.specs.declared.layout_error.LayoutError.{LayoutError}
use Rattle.partitions.specs.declared.layout_error.LayoutError.TheVariants as layout_error
use Rattle.partitions.specs.declared.part_def.PartDef.{PartDef}
use Rattle.partitions.specs.declared.part_def.Bounds.{Bounds}
use Rattle.partitions.specs.declared.part_def.Bounds.TheVariants.{Less, Between}
use Rattle.partitions.specs.declared.parts_def.PartsDef.{PartsDef}
use Rattle.partitions.specs.declared.parts_def.PartsDef.TheVariants.{Whole, ByRange}
use Rattle.partitions.proofs.Growing.{length_more}
use Rattle.partitions.proofs.Bools.{and_left, and_right, both, not_false}
use Rattle.partitions.proofs.Tested.{all_more, front_none, front_of_none, none_all, none_found, none_mapped, none_refused, range_rises}

-- ---- ranges have ends of the column's type

low_is_end : (t : Option ColType) (high : Option Cell) (ps : List PartDef) → list_all (λ (p : PartDef). are_bounds t p.bounds) ps ≡ true → is_end t (low_for high ps) ≡ true
low_is_end t high [] h = refl
low_is_end t high (p ∷ ps) h =
    go (high_end p.bounds) (low_for high ps)
    (and_right (is_end t (low_end p.bounds)) (is_end t (high_end p.bounds)) (and_left (is_end t (low_end p.bounds) && is_end t (high_end p.bounds)) (ends_rise (low_end p.bounds) (high_end p.bounds)) (and_left (are_bounds t p.bounds) (list_all (λ (q : PartDef). are_bounds t q.bounds) ps) h)))
    (low_is_end t high ps (and_right (are_bounds t p.bounds) (list_all (λ (q : PartDef). are_bounds t q.bounds) ps) h))
  where
    later : (o : Option Cell) (x : Cell) → is_end t (Some x) ≡ true → is_end t o ≡ true → is_end t (later_end o x) ≡ true
    later None x e r = e
    later (Some y) x e r = choose (is_below y x)
      where
        choose : (c : Bool) → is_end t (cond c (Some x) (Some y)) ≡ true
        choose true = e
        choose false = r

    go : (o low : Option Cell) → is_end t o ≡ true → is_end t low ≡ true → is_end t (low_with high o low) ≡ true
    go None low e r = r
    go (Some x) low e r = choose (ends_below high x)
      where
        choose : (c : Bool) → is_end t (cond c (later_end low x) low) ≡ true
        choose true = later low x e r
        choose false = r

range_bounds : (t : Option ColType) (before : List PartDef) (p : PartDef) → list_all (λ (q : PartDef). are_bounds t q.bounds) before ≡ true → are_bounds t p.bounds ≡ true → are_bounds t (with_range before p).bounds ≡ true
range_bounds t before p a h = go p.bounds h (range_rises t before p h)
  where
    go : (b : Bounds) → are_bounds t b ≡ true → ends_rise (low_end (bounds_after before b)) (high_end (bounds_after before b)) ≡ true → are_bounds t (bounds_after before b) ≡ true
    go (Less high) h r =
        both (is_end t (low_for high before) && is_end t high) (ends_rise (low_for high before) high)
        (both (is_end t (low_for high before)) (is_end t high) (low_is_end t high before a) (and_left (is_end t high) (ends_rise None high) h)) r
    go (Between low high) h r = h

range_between : (before : List PartDef) (b : Bounds) → is_between (bounds_after before b) ≡ true
range_between before (Less high) = refl
range_between before (Between low high) = refl

-- ---- the partitions of a definition fit, each behind those before it

abbrev rest : List PartDef → List PartDef → List PartDef
rest before [] = []
rest before (p ∷ ps) = with_range before p ∷ rest (before ++ with_range before p ∷ []) ps

ranged_is : (before ps : List PartDef) → ranged before ps ≡ before ++ rest before ps
ranged_is before [] = sym (append-nil before)
ranged_is before (p ∷ ps) = ranged_is (before ++ with_range before p ∷ []) ps ∙ append_assoc before (with_range before p ∷ []) (rest (before ++ with_range before p ∷ []) ps)

named_alike : (xs ys : List PartDef) (p : PartDef) → map (λ (q : PartDef). q.name) xs ≡ map (λ (q : PartDef). q.name) ys → is_named_in xs p ≡ is_named_in ys p
named_alike [] [] p e = refl
named_alike [] (b ∷ ys) p e = absurd (cc)
named_alike (a ∷ xs) [] p e = absurd (cc)
named_alike (a ∷ xs) (b ∷ ys) p e =
    let n : a.name ≡ b.name = cc in
    let t : map (λ (q : PartDef). q.name) xs ≡ map (λ (q : PartDef). q.name) ys = cc in
    ap (λ (x : List ℕ). bytes_eq x p.name || is_named_in xs p) n ∙ ap (λ (x : Bool). bytes_eq b.name p.name || x) (named_alike xs ys p t)

names_more : (xs ys : List PartDef) (p q : PartDef) → map (λ (r : PartDef). r.name) xs ≡ map (λ (r : PartDef). r.name) ys → p.name ≡ q.name → map (λ (r : PartDef). r.name) (xs ++ p ∷ []) ≡ map (λ (r : PartDef). r.name) (ys ++ q ∷ [])
names_more [] [] p q e n = ap (λ (x : List ℕ). x ∷ []) n
names_more [] (b ∷ ys) p q e n = absurd (cc)
names_more (a ∷ xs) [] p q e n = absurd (cc)
names_more (a ∷ xs) (b ∷ ys) p q e n =
    let h : a.name ≡ b.name = cc in
    let t : map (λ (r : PartDef). r.name) xs ≡ map (λ (r : PartDef). r.name) ys = cc in
    ap (λ (x : List ℕ). x ∷ map (λ (r : PartDef). r.name) (xs ++ p ∷ [])) h ∙ ap (λ (x : List (List ℕ)). b.name ∷ x) (names_more xs ys p q t n)

none_beside : (fault : List PartDef → PartDef → Bool) (before : List PartDef) (p : PartDef) (ps : List PartDef) → first_beside fault before (p ∷ ps) ≡ None → (fault before p ≡ false) × (first_beside fault (before ++ p ∷ []) ps ≡ None)
none_beside fault before p ps e = go (fault before p) refl e
  where
    go : (b : Bool) → fault before p ≡ b → cond b (Some p.name) (first_beside fault (before ++ p ∷ []) ps) ≡ None → (fault before p ≡ false) × (first_beside fault (before ++ p ∷ []) ps ≡ None)
    go true f g = absurd (cc)
    go false f g = (f, g)

fits : (t : Option ColType) (before : List PartDef) (p : PartDef) → list_all (λ (q : PartDef). are_bounds t q.bounds) before ≡ true → are_bounds t p.bounds ≡ true → is_name p.name ≡ true → is_named_in before p ≡ false → meets before (with_range before p) ≡ false → fits_behind t before (with_range before p) ≡ true
fits t before p a h n d m =
    both (is_between r.bounds && are_bounds t r.bounds && is_name p.name && not (is_named_in before p)) (not (meets before r))
    (both (is_between r.bounds && are_bounds t r.bounds && is_name p.name) (not (is_named_in before p))
    (both (is_between r.bounds && are_bounds t r.bounds) (is_name p.name) (both (is_between r.bounds) (are_bounds t r.bounds) (range_between before p.bounds) (range_bounds t before p a h)) n) (ap not d)) (ap not m)
  where
    r : PartDef
    r = with_range before p

rest_fits : (t : Option ColType) (before ps plain : List PartDef) → list_all (λ (q : PartDef). are_bounds t q.bounds) before ≡ true → list_all (λ (q : PartDef). are_bounds t q.bounds) ps ≡ true → list_all (λ (q : PartDef). is_name q.name) ps ≡ true
    → map (λ (q : PartDef). q.name) plain ≡ map (λ (q : PartDef). q.name) before → first_beside is_named_in plain ps ≡ None → first_beside meets before (rest before ps) ≡ None → fit_after t before (rest before ps) ≡ true
rest_fits t before [] plain a h n e d m = refl
rest_fits t before (p ∷ ps) plain a h n e d m =
    let here = and_left (are_bounds t p.bounds) (list_all (λ (q : PartDef). are_bounds t q.bounds) ps) h in
    let double = none_beside is_named_in plain p ps d in
    let meet = none_beside meets before (with_range before p) (rest (before ++ with_range before p ∷ []) ps) m in
    both (fits_behind t before (with_range before p)) (fit_after t (before ++ with_range before p ∷ []) (rest (before ++ with_range before p ∷ []) ps))
    (fits t before p a here (and_left (is_name p.name) (list_all (λ (q : PartDef). is_name q.name) ps) n) (sym (named_alike plain before p e) ∙ double.0) meet.0)
    (rest_fits t (before ++ with_range before p ∷ []) ps (plain ++ p ∷ [])
    (all_more (λ (q : PartDef). are_bounds t q.bounds) before (with_range before p) a (range_bounds t before p a here))
    (and_right (are_bounds t p.bounds) (list_all (λ (q : PartDef). are_bounds t q.bounds) ps) h) (and_right (is_name p.name) (list_all (λ (q : PartDef). is_name q.name) ps) n)
    (names_more plain before p (with_range before p) e refl) double.1 meet.1)

-- ---- a definition

may_be_part : (columns : List ColumnDef) (name : List ℕ) → no_part_in columns (Some name) ≡ None → may_part columns name ≡ true
may_be_part columns name e = go (may_part columns name) e
  where
    go : (b : Bool) → cond b None (Some name) ≡ None → b ≡ true
    go true e = refl
    go false e = absurd (cc)

module _ (s : ShapeView) (def : PartsDef) (hash : List (List ℕ)) (buckets : ℕ) (e : first_of (written_faults s (column_of def) (written def) hash buckets ++ ranged_faults (parts_of def)) ≡ None) where
  front : first_of (written_faults s (column_of def) (written def) hash buckets) ≡ None
  front = front_of_none (written_faults s (column_of def) (written def) hash buckets) (ranged_faults (parts_of def)) e

  back : first_of (ranged_faults (parts_of def)) ≡ None
  back = sym (front_none (written_faults s (column_of def) (written def) hash buckets) (ranged_faults (parts_of def)) front) ∙ e

  keys : (no_part_in s.columns (column_of def) ≡ None) × (no_hash_in s hash ≡ None)
  keys = let k = none_all (no_part_in s.columns (column_of def) ∷ no_hash_in s hash ∷ []) (none_mapped layout_error.NotAKey (no_key_in s (column_of def) hash) (none_all (written_faults s (column_of def) (written def) hash buckets) front).1.0) in (k.0, k.1.0)

  bounds : list_all (λ (p : PartDef). are_bounds (type_of s.columns (column_of def)) p.bounds) (written def) ≡ true
  bounds =
      none_found (λ (p : PartDef). are_bounds (type_of s.columns (column_of def)) p.bounds) (written def)
      (none_mapped (λ (p : PartDef). p.name) _ (none_mapped layout_error.BadBound (first_with (λ p. not (are_bounds (type_of s.columns (column_of def)) p.bounds)) (written def)) (none_all (written_faults s (column_of def) (written def) hash buckets) front).1.1.1.0))

  names : list_all (λ (p : PartDef). is_name p.name) (written def) ≡ true
  names =
      none_found (λ (p : PartDef). is_name p.name) (written def)
      (none_mapped (λ (p : PartDef). p.name) _ (none_mapped layout_error.BadName (first_with (λ p. not (is_name p.name)) (written def)) (none_all (written_faults s (column_of def) (written def) hash buckets) front).1.1.1.1.0))

  doubles : first_beside is_named_in [] (written def) ≡ None
  doubles = none_mapped layout_error.DoubleName _ (none_all (written_faults s (column_of def) (written def) hash buckets) front).1.1.1.1.1.0

  overlaps : first_beside meets [] (parts_of def) ≡ None
  overlaps = none_mapped layout_error.Overlap _ (none_all (ranged_faults (parts_of def)) back).0

parts_fit_of : (s : ShapeView) (def : PartsDef) (hash : List (List ℕ)) (buckets : ℕ) → first_of (written_faults s (column_of def) (written def) hash buckets ++ ranged_faults (parts_of def)) ≡ None → parts_fit s.columns (column_of def) (parts_of def) ≡ true
parts_fit_of s (Whole name) hash buckets e = both (is_name name) true (and_left (is_name name) true (names s (Whole name) hash buckets e)) refl
parts_fit_of s (ByRange column ps) hash buckets e =
    both (may_part s.columns column) (fit_after (type_under s.columns column) [] (ranged [] ps)) (may_be_part s.columns column (keys s (ByRange column ps) hash buckets e).0)
    (subst (λ (parts : List PartDef). fit_after (type_under s.columns column) [] parts ≡ true) (sym (ranged_is [] ps))
    (rest_fits (type_under s.columns column) [] ps [] refl (bounds s (ByRange column ps) hash buckets e) (names s (ByRange column ps) hash buckets e) refl (doubles s (ByRange column ps) hash buckets e)
    (subst (λ (parts : List PartDef). first_beside meets [] parts ≡ None) (ranged_is [] ps) (overlaps s (ByRange column ps) hash buckets e))))

pub defined_valid : (s : ShapeView) (def : PartsDef) (hash : List (List ℕ)) (buckets : ℕ) → layout_fault s def hash buckets ≡ None → IsLayout s (defined s def hash buckets)
unfolding layout_fault
defined_valid s def hash buckets e = record {
  columns = refl;
  kind = refl;
  hash = none_found (may_hash s.model s.columns) hash (keys s def hash buckets e).1;
  buckets = not_false (are_buckets buckets) (none_refused (not (are_buckets buckets)) layout_error.BadBuckets (none_all (written_faults s (column_of def) (written def) hash buckets) (front s def hash buckets e)).1.1.0);
  parts = parts_fit_of s def hash buckets e;
  few = not_false (nat_le (length (parts_of def)) 1000) (none_refused (not (nat_le (length (parts_of def)) 1000)) layout_error.TooManyPartitions (none_all (ranged_faults (parts_of def)) (back s def hash buckets e)).1.0);
}

-- ---- a partition more

fit_more : (t : Option ColType) (before ps : List PartDef) (p : PartDef) → fit_after t before ps ≡ true → fits_behind t (before ++ ps) p ≡ true → fit_after t before (ps ++ p ∷ []) ≡ true
fit_more t before [] p f h = both (fits_behind t before p) true (subst (λ (xs : List PartDef). fits_behind t xs p ≡ true) (append-nil before) h) refl
fit_more t before (q ∷ ps) p f h =
    both (fits_behind t before q) (fit_after t (before ++ q ∷ []) (ps ++ p ∷ [])) (and_left (fits_behind t before q) (fit_after t (before ++ q ∷ []) ps) f)
    (fit_more t (before ++ q ∷ []) ps p (and_right (fits_behind t before q) (fit_after t (before ++ q ∷ []) ps) f) (subst (λ (xs : List PartDef). fits_behind t xs p ≡ true) (sym (append_assoc before (q ∷ []) ps)) h))

fit_bounds : (t : Option ColType) (before ps : List PartDef) → fit_after t before ps ≡ true → list_all (λ (q : PartDef). are_bounds t q.bounds) ps ≡ true
fit_bounds t before [] f = refl
fit_bounds t before (p ∷ ps) f =
    let h = and_left (fits_behind t before p) (fit_after t (before ++ p ∷ []) ps) f in
    both (are_bounds t p.bounds) (list_all (λ (q : PartDef). are_bounds t q.bounds) ps)
    (and_right (is_between p.bounds) (are_bounds t p.bounds)
    (and_left (is_between p.bounds && are_bounds t p.bounds) (is_name p.name) (and_left (is_between p.bounds && are_bounds t p.bounds && is_name p.name) (not (is_named_in before p)) (and_left (is_between p.bounds && are_bounds t p.bounds && is_name p.name && not (is_named_in before p)) (not (meets before p)) h))))
    (fit_bounds t (before ++ p ∷ []) ps (and_right (fits_behind t before p) (fit_after t (before ++ p ∷ []) ps) f))

more_fit : (columns : List ColumnDef) (column : Option (List ℕ)) (kind : Option ColType) (parts : List PartDef) (p : PartDef) → kind ≡ type_of columns column → parts_fit columns column parts ≡ true → (column ≡ None → ⊥) → are_bounds kind p.bounds ≡ true → is_name p.name ≡ true → is_named_in parts p ≡ false → meets parts (with_range parts p) ≡ false → parts_fit columns column (parts ++ with_range parts p ∷ []) ≡ true
more_fit columns None kind parts p k f c b n d m = absurd (c refl)
more_fit columns (Some name) kind parts p k f c b n d m =
    let after = and_right (may_part columns name) (fit_after (type_under columns name) [] parts) f in
    both (may_part columns name) (fit_after (type_under columns name) [] (parts ++ with_range parts p ∷ [])) (and_left (may_part columns name) (fit_after (type_under columns name) [] parts) f)
    (fit_more (type_under columns name) [] parts (with_range parts p) after (fits (type_under columns name) parts p (fit_bounds (type_under columns name) [] parts after) (subst (λ (t : Option ColType). are_bounds t p.bounds ≡ true) k b) n d m))

some_column : (o : Option (List ℕ)) → is_none o ≡ false → o ≡ None → ⊥
some_column None e f = absurd (cc)
some_column (Some x) e f = absurd (cc)

few_more : (parts : List PartDef) (p : PartDef) → nat_le 1000 (length parts) ≡ false → nat_le (length (parts ++ p ∷ [])) 1000 ≡ true
few_more parts p e = let k = length_more parts p in grind (arith, nat_tests, k)

pub added_valid : (s : ShapeView) (l : LayoutView) (p : PartDef) → IsLayout s l → add_fault l p ≡ None → IsLayout s (added p l)
added_valid s l p v e =
    let front = none_all (part_faults l p) (front_of_none (part_faults l p) (room_faults l.parts (with_range l.parts p)) e) in
    let back = none_all (room_faults l.parts (with_range l.parts p)) (sym (front_none (part_faults l p) (room_faults l.parts (with_range l.parts p)) (front_of_none (part_faults l p) (room_faults l.parts (with_range l.parts p)) e)) ∙ e) in
    record {
      columns = v.columns;
      kind = v.kind;
      hash = v.hash;
      buckets = v.buckets;
      parts = more_fit s.columns l.column l.kind l.parts p v.kind v.parts
          (some_column l.column (none_refused (is_none l.column) layout_error.NotPartitioned front.0))
          (not_false (are_bounds l.kind p.bounds) (none_refused (not (are_bounds l.kind p.bounds)) (layout_error.BadBound p.name) front.1.0))
          (not_false (is_name p.name) (none_refused (not (is_name p.name)) (layout_error.BadName p.name) front.1.1.0))
          (none_refused (is_named_in l.parts p) (layout_error.DoubleName p.name) front.1.1.1.0)
          (none_refused (meets l.parts (with_range l.parts p)) (layout_error.Overlap p.name) back.0);
      few = few_more l.parts (with_range l.parts p) (none_refused (nat_le 1000 (length l.parts)) layout_error.TooManyPartitions back.1.0);
    }
