-- Ranges that lie apart have no cell in common, so at most one partition holds a row.
use Rattle.std.proofs.Common.{◌≡◌, ℕ, ◌≤◌, Bool, true, false, cond, not, ◌&&◌, ◌||◌, List, [], ◌∷◌, ◌++◌, Option, Some, None, length, filter, refl, sym, ap, ◌∙◌, arith}
use Rattle.std.specs.List.{list_all, list_any}
use Rattle.std.specs.Ordering.{is_lt, ordering_reverse}
use Rattle.std.specs.Str.{bytes_eq}
use Rattle.std.specs.declared.cmp.Ordering.{Ordering}
use Rattle.std.specs.declared.cmp.Ordering.TheVariants.{Less, Equal, Greater}
use Rattle.dl_values.specs.Order.{cell_cmp}
use Rattle.dl_values.specs.OrderLemmas.{cells_total}
use Rattle.dl_values.specs.declared.cell.Cell.{Cell}
use Rattle.dl_values.specs.declared.col_type.ColType.{ColType}
use Rattle.schema_models.specs.Names.{is_name}
use Rattle.schema_models.specs.ShapeView.{ShapeView}
use Rattle.schema_models.specs.declared.column_def.ColumnDef.{ColumnDef}
use Rattle.partitions.specs.LayoutView.{LayoutView}
use Rattle.schema_models.specs.CellsByName.{cell_under, names_of}
use Rattle.partitions.specs.Columns.{is_key_name, type_under}
use Rattle.partitions.specs.LayoutFaults.{is_named_in, may_part, meets}
use Rattle.partitions.specs.LayoutRules.{IsLayout, fits_behind, fit_after, parts_fit, is_whole}
use Rattle.partitions.specs.Ranges.{are_apart, are_bounds, ends_before, is_between}
use Rattle.partitions.specs.Places.{is_below, from_low, to_high, low_end, high_end, in_range, cell_in, holds_row}
use Rattle.partitions.specs.declared.part_def.PartDef.{PartDef}
use Rattle.partitions.specs.declared.part_def.Bounds.{Bounds}
use Rattle.partitions.proofs.Bools.{and_left, and_right, both, not_not}

lt_is : (o : Ordering) → is_lt o ≡ true → o ≡ Less
lt_is Less h = refl
lt_is Equal h = absurd (cc)
lt_is Greater h = absurd (cc)

pub below_trans : (a b c : Cell) → is_below a b ≡ true → is_below b c ≡ true → is_below a c ≡ true
below_trans a b c h k = ap is_lt (cells_total.trans a b c (lt_is (cell_cmp a b) h) (lt_is (cell_cmp b c) k))

-- x below high, and not below low: low is below high
pub between : (x low high : Cell) → is_below x high ≡ true → not (is_below x low) ≡ true → is_below low high ≡ true
between x low high a b = go (cell_cmp x low) refl
  where
    go : (o : Ordering) → cell_cmp x low ≡ o → is_below low high ≡ true
    go Less e = absurd (let f : not (is_below x low) ≡ false = ap (λ (c : Ordering). not (is_lt c)) e in cc (f, b))
    go Equal e = ap is_lt (sym (cells_total.congr x low high e)) ∙ a
    go Greater e =
        let k : cell_cmp low x ≡ Less = cells_total.antisymm low x ∙ ap ordering_reverse e in
        ap is_lt (cells_total.trans low x high k (lt_is (cell_cmp x high) a))

-- a range that ends before another begins has no cell of it
pub ended : (high low : Option Cell) (x : Cell) → ends_before high low ≡ true → to_high high x ≡ true → from_low low x ≡ true → ⊥
ended None low x e h f = absurd (cc)
ended (Some high) None x e h f = absurd (cc)
ended (Some high) (Some low) x e h f = let k = between x low high h f in let n : not (is_below low high) ≡ false = ap not k in cc (n, e)

apart_none : (a b : Bounds) (x : Cell) → are_apart a b ≡ true → in_range a x ≡ true → in_range b x ≡ true → ⊥
apart_none a b x h p q = go (ends_before (high_end a) (low_end b)) refl h
  where
    go : (c : Bool) → ends_before (high_end a) (low_end b) ≡ c → (c || ends_before (high_end b) (low_end a)) ≡ true → ⊥
    go true e k = ended (high_end a) (low_end b) x e (and_right (from_low (low_end a) x) (to_high (high_end a) x) p) (and_left (from_low (low_end b) x) (to_high (high_end b) x) q)
    go false e k = ended (high_end b) (low_end a) x k (and_right (from_low (low_end b) x) (to_high (high_end b) x) q) (and_left (from_low (low_end a) x) (to_high (high_end a) x) p)

apart_cell : (a b : Bounds) (o : Option Cell) → are_apart a b ≡ true → cell_in a o ≡ true → cell_in b o ≡ true → ⊥
apart_cell a b None h p q = absurd (cc)
apart_cell a b (Some x) h p q = apart_none a b x h p q

-- a member of the partitions before
abbrev Has : PartDef → List PartDef → Type 0
Has p before = (test : PartDef → Bool) → list_all test before ≡ true → test p ≡ true

has_later : (p : PartDef) (before : List PartDef) (q : PartDef) → Has p before → Has p (before ++ q ∷ [])
has_later p before q h test k = h test (front before k)
  where
    front : (xs : List PartDef) → list_all test (xs ++ q ∷ []) ≡ true → list_all test xs ≡ true
    front [] e = refl
    front (x ∷ xs) e = both (test x) (list_all test xs) (and_left (test x) (list_all test (xs ++ q ∷ [])) e) (front xs (and_right (test x) (list_all test (xs ++ q ∷ [])) e))

has_new : (before : List PartDef) (q : PartDef) → Has q (before ++ q ∷ [])
has_new [] q test k = and_left (test q) true k
has_new (x ∷ xs) q test k = has_new xs q test (and_right (test x) (list_all test (xs ++ q ∷ [])) k)

none_after : (t : Option ColType) (o : Option Cell) (p : PartDef) (before ps : List PartDef) → Has p before → cell_in p.bounds o ≡ true → fit_after t before ps ≡ true → filter (λ (q : PartDef). cell_in q.bounds o) ps ≡ []
none_after t o p before [] h i f = refl
none_after t o p before (q ∷ ps) h i f =
    go (cell_in q.bounds o) refl (none_after t o p (before ++ q ∷ []) ps (has_later p before q h) i (and_right (fits_behind t before q) (fit_after t (before ++ q ∷ []) ps) f))
  where
    fits : fits_behind t before q ≡ true
    fits = and_left (fits_behind t before q) (fit_after t (before ++ q ∷ []) ps) f

    away : are_apart p.bounds q.bounds ≡ true
    away = h (λ (x : PartDef). are_apart x.bounds q.bounds) (not_not (list_all (λ (x : PartDef). are_apart x.bounds q.bounds) before) (and_right (is_between q.bounds && are_bounds t q.bounds && is_name q.name && not (is_named_in before q)) (not (meets before q)) fits))

    go : (b : Bool) → cell_in q.bounds o ≡ b → filter (λ (x : PartDef). cell_in x.bounds o) ps ≡ [] → cond b (q ∷ filter (λ (x : PartDef). cell_in x.bounds o) ps) (filter (λ (x : PartDef). cell_in x.bounds o) ps) ≡ []
    go true e r = absurd (apart_cell p.bounds q.bounds o away i e)
    go false e r = r

one_range : (t : Option ColType) (o : Option Cell) (before ps : List PartDef) → fit_after t before ps ≡ true → length (filter (λ (q : PartDef). cell_in q.bounds o) ps) ≤ 1
one_range t o before [] f = omega arith
one_range t o before (q ∷ ps) f =
    go (cell_in q.bounds o) refl (one_range t o (before ++ q ∷ []) ps (and_right (fits_behind t before q) (fit_after t (before ++ q ∷ []) ps) f))
  where
    go : (b : Bool) → cell_in q.bounds o ≡ b → length (filter (λ (x : PartDef). cell_in x.bounds o) ps) ≤ 1 → length (cond b (q ∷ filter (λ (x : PartDef). cell_in x.bounds o) ps) (filter (λ (x : PartDef). cell_in x.bounds o) ps)) ≤ 1
    go true e r = rw (none_after t o q (before ++ q ∷ []) ps (has_new before q) e (and_right (fits_behind t before q) (fit_after t (before ++ q ∷ []) ps) f)) (omega arith)
    go false e r = r

whole_one : (names : List (List ℕ)) (row : List Cell) (ps : List PartDef) → is_whole ps ≡ true → length (filter (holds_row names None row) ps) ≤ 1
whole_one names row [] h = omega arith
whole_one names row (p ∷ []) h = omega arith
whole_one names row (p ∷ q ∷ ps) h = absurd (cc)

by_column : (columns : List ColumnDef) (names : List (List ℕ)) (row : List Cell) (column : Option (List ℕ)) (ps : List PartDef) → parts_fit columns column ps ≡ true → length (filter (holds_row names column row) ps) ≤ 1
by_column columns names row None ps h = whole_one names row ps h
by_column columns names row (Some name) ps h = one_range (type_under columns name) (cell_under names name row) [] ps (and_right (may_part columns name) (fit_after (type_under columns name) [] ps) h)

pub one_part : (s : ShapeView) (l : LayoutView) → IsLayout s l → (row : List Cell) → length (filter (holds_row l.columns l.column row) l.parts) ≤ 1
one_part s l v row = by_column s.columns l.columns row l.column l.parts v.parts
