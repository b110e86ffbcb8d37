-- Rows of one key lie in one tablet, so that a fold and the tablets of a layout change places.
use Rattle.std.proofs.Common.{◌≡◌, ℕ, zero, suc, ◌+◌, ◌<◌, ◌≤◌, ◌%◌, Bool, true, false, cond, not, ◌&&◌, ◌||◌, List, [], ◌∷◌, ◌++◌, Option, Some, None, map, length, take, filter, flat_map, refl, sym, ap, ◌∙◌, subst, arith, append-nil, add-one}
use Rattle.std.proofs.lemmas.Bool.Decides.{nat_tests}
use Rattle.std.proofs.lemmas.Grind.{flat_map-append}
use Rattle.std.proofs.lemmas.List.Elements.{filter-append}
use Rattle.std.specs.Prelude.{nat_eq, nat_le, is_some}
use Rattle.std.specs.Str.{bytes_eq}
use Rattle.std.specs.List.{AllByRecursion, range_with_len, list_all}
use Rattle.dl_values.specs.Order.{row_cmp}
use Rattle.dl_values.specs.OrderLemmas.{rows_same}
use Rattle.dl_values.specs.declared.cell.Cell.{Cell}
use Rattle.fold_laws.specs.Fold.{has_key, folded, AllOf}
use Rattle.fold_laws.proofs.Unique.{all_weaker, filter_none, filter_all, filter_yes, filter_no}
use Rattle.fold_laws.proofs.Filters.{fold_filter, filter_keeps}
use Rattle.fold_laws.proofs.Folds.{all_of, fold_stable, fold_left, fold_right}
use Rattle.schema_models.specs.Folds.{fold_of, key_of, key_in}
use Rattle.schema_models.specs.ShapeView.{ShapeView, key_count, more_keys}
use Rattle.schema_models.specs.ShapeRules.{is_key}
use Rattle.schema_models.specs.declared.column_def.ColumnDef.{ColumnDef}
use Rattle.schema_models.specs.declared.model.Model.{Model}
use Rattle.schema_models.specs.declared.model.Model.TheVariants as model
use Rattle.schema_models.specs.declared.role.Role.{Role}
use Rattle.schema_models.specs.declared.role.Role.TheVariants as role
use Rattle.schema_models.proofs.RowMerges.{shape_folding}
use Rattle.partitions.specs.LayoutView.{LayoutView}
use Rattle.schema_models.specs.CellsByName.{cell_under, names_of}
use Rattle.partitions.specs.Columns.{is_key_name, type_under}
use Rattle.partitions.specs.LayoutFaults.{may_hash, with_part}
use Rattle.partitions.specs.LayoutRules.{IsLayout, parts_fit, fit_after}
use Rattle.partitions.specs.Ranges.{ranges_type}
use Rattle.partitions.specs.Places.{Place, cell_in, holds_row, next_part, first_part, part_of, text_of, hash_bytes, bucket_of, placed, place_in, place_for, is_at, rows_at, IsInside, AreInside, buckets_at, tablets_of, spread}
use Rattle.partitions.specs.declared.part_def.PartDef.{PartDef}
use Rattle.partitions.proofs.Bools.{and_left, and_right}

-- ---- the key decides the place

-- a cell under the name of a key is one of the key
later_cell : (c : ColumnDef) (cs : List ColumnDef) (name : List ℕ) (x : Cell) (xs : List Cell) (b : Bool) → bytes_eq c.name name ≡ b → (b || is_key_name cs name) ≡ true → (is_key_name cs name ≡ true → cell_under (names_of cs) name (take (key_count cs) xs) ≡ cell_under (names_of cs) name xs)
    → cond b (Some x) (cell_under (names_of cs) name (take (key_count cs) xs)) ≡ cond b (Some x) (cell_under (names_of cs) name xs)
later_cell c cs name x xs true e k rest = refl
later_cell c cs name x xs false e k rest = rest k

front_cell : (c : ColumnDef) (cs : List ColumnDef) (name : List ℕ) (row : List Cell) → (bytes_eq c.name name || is_key_name cs name) ≡ true → ((xs : List Cell) → is_key_name cs name ≡ true → cell_under (names_of cs) name (take (key_count cs) xs) ≡ cell_under (names_of cs) name xs)
    → cell_under (names_of (c ∷ cs)) name (take (key_count cs + 1) row) ≡ cell_under (names_of (c ∷ cs)) name row
front_cell c cs name [] k rest = rw add-one refl
front_cell c cs name (x ∷ xs) k rest = rw add-one (later_cell c cs name x xs (bytes_eq c.name name) refl k (rest xs))

by_role : (c : ColumnDef) (cs : List ColumnDef) (name : List ℕ) (row : List Cell) (r : Role) → c.role ≡ r → is_key c.role ≡ true → cell_under (names_of (c ∷ cs)) name (take (key_count cs + 1) row) ≡ cell_under (names_of (c ∷ cs)) name row
    → cell_under (names_of (c ∷ cs)) name (take (more_keys c.role (key_count cs)) row) ≡ cell_under (names_of (c ∷ cs)) name row
by_role c cs name row role.Key e t h = subst (λ (n : ℕ). cell_under (names_of (c ∷ cs)) name (take n row) ≡ cell_under (names_of (c ∷ cs)) name row) (sym (ap (λ (q : Role). more_keys q (key_count cs)) e)) h
by_role c cs name row role.Plain e t h = absurd (let f : is_key c.role ≡ false = ap is_key e in cc (f, t))
by_role c cs name row (role.Agg a) e t h = absurd (let f : is_key c.role ≡ false = ap is_key e in cc (f, t))

key_cell : (cs : List ColumnDef) (name : List ℕ) (row : List Cell) → is_key_name cs name ≡ true → cell_under (names_of cs) name (take (key_count cs) row) ≡ cell_under (names_of cs) name row
key_cell [] name row h = absurd (cc)
key_cell (c ∷ cs) name row h =
    by_role c cs name row c.role refl (and_left (is_key c.role) (bytes_eq c.name name || is_key_name cs name) h)
    (front_cell c cs name row (and_right (is_key c.role) (bytes_eq c.name name || is_key_name cs name) h) (λ xs k. key_cell cs name xs k))

module _ (columns : List ColumnDef) (n : ℕ) (at_keys : (name : List ℕ) (row : List Cell) → is_key_name columns name ≡ true → cell_under (names_of columns) name (take n row) ≡ cell_under (names_of columns) name row) where
  texts_same : (hash : List (List ℕ)) (row : List Cell) → list_all (is_key_name columns) hash ≡ true → flat_map (λ m. text_of (cell_under (names_of columns) m (take n row))) hash ≡ flat_map (λ m. text_of (cell_under (names_of columns) m row)) hash
  texts_same [] row h = refl
  texts_same (m ∷ ms) row h =
      ap (λ (o : Option Cell). text_of o ++ flat_map (λ m. text_of (cell_under (names_of columns) m (take n row))) ms) (at_keys m row (and_left (is_key_name columns m) (list_all (is_key_name columns) ms) h))
      ∙ ap (λ (t : List ℕ). text_of (cell_under (names_of columns) m row) ++ t) (texts_same ms row (and_right (is_key_name columns m) (list_all (is_key_name columns) ms) h))

  first_same : (column : List ℕ) (row : List Cell) → is_key_name columns column ≡ true → (ps : List PartDef) → first_part (holds_row (names_of columns) (Some column) (take n row)) ps ≡ first_part (holds_row (names_of columns) (Some column) row) ps
  first_same column row k [] = refl
  first_same column row k (p ∷ ps) =
      ap (λ (o : Option Cell). cond (cell_in p.bounds o) (Some 0) (next_part (first_part (holds_row (names_of columns) (Some column) (take n row)) ps))) (at_keys column row k)
      ∙ ap (λ (o : Option ℕ). cond (cell_in p.bounds (cell_under (names_of columns) column row)) (Some 0) (next_part o)) (first_same column row k ps)

  part_same : (column : Option (List ℕ)) (row : List Cell) (ps all : List PartDef) → parts_fit columns column all ≡ true → first_part (holds_row (names_of columns) column (take n row)) ps ≡ first_part (holds_row (names_of columns) column row) ps
  part_same None row ps all h = none ps
    where
      none : (qs : List PartDef) → first_part (holds_row (names_of columns) None (take n row)) qs ≡ first_part (holds_row (names_of columns) None row) qs
      none [] = refl
      none (q ∷ qs) = refl
  part_same (Some column) row ps all h = first_same column row (and_left (is_key_name columns column) (ranges_type (type_under columns column)) (and_left (is_key_name columns column && ranges_type (type_under columns column)) (fit_after (type_under columns column) [] all) h)) ps

named : (s : ShapeView) (l : LayoutView) → list_all (is_key_name s.columns) l.hash ≡ true → IsLayout s l → (row : List Cell) → place_in (names_of s.columns) l (take (key_count s.columns) row) ≡ place_in (names_of s.columns) l row
named s l h v row =
    ap (λ (p : Option ℕ). placed p (bucket_of (names_of s.columns) l (take (key_count s.columns) row))) (part_same s.columns (key_count s.columns) (key_cell s.columns) l.column row l.parts l.parts v.parts)
    ∙ ap (λ (t : List ℕ). placed (part_of (names_of s.columns) l row) (hash_bytes 0 t % l.buckets)) (texts_same s.columns (key_count s.columns) (key_cell s.columns) l.hash row h)

keyed : (s : ShapeView) (l : LayoutView) → list_all (is_key_name s.columns) l.hash ≡ true → IsLayout s l → (row : List Cell) → place_for l (take (key_count s.columns) row) ≡ place_for l row
keyed s l h v row = subst (λ (names : List (List ℕ)). place_in names l (take (key_count s.columns) row) ≡ place_in names l row) (sym v.columns) (named s l h v row)

key_place : (m : Model) (s : ShapeView) → s.model ≡ m → (l : LayoutView) → IsLayout s l → (row : List Cell) → place_for l (key_in m (key_count s.columns) row) ≡ place_for l row
key_place model.Duplicate s e l v row = refl
key_place model.Unique s e l v row = keyed s l (subst (λ (m : Model). list_all (may_hash m s.columns) l.hash ≡ true) e v.hash) v row
key_place model.Aggregate s e l v row = keyed s l (subst (λ (m : Model). list_all (may_hash m s.columns) l.hash ≡ true) e v.hash) v row

-- the place of a row is that of its key
pub place_of_key : (s : ShapeView) (l : LayoutView) → IsLayout s l → (row : List Cell) → place_for l (key_of s row) ≡ place_for l row
place_of_key s l v row = key_place s.model s refl l v row

-- ---- tests of places

filter_by : {X : Type 0} (p q : X → Bool) → ((x : X) → p x ≡ q x) → (xs : List X) → filter p xs ≡ filter q xs
filter_by p q e [] = refl
filter_by p q e (x ∷ xs) = ap (λ (b : Bool). cond b (x ∷ filter p xs) (filter p xs)) (e x) ∙ ap (λ (l : List _). cond (q x) (x ∷ l) l) (filter_by p q e xs)

-- the fold of the rows whose places pass a test is what of the fold passes it
pub placed_fold : (s : ShapeView) (l : LayoutView) → IsLayout s l → (test : Option Place → Bool) (rows : List (List Cell)) → fold_of s (filter (λ r. test (place_for l r)) rows) ≡ filter (λ r. test (place_for l r)) (fold_of s rows)
placed_fold s l v test rows =
    ap (fold_of s) (filter_by (λ r. test (place_for l r)) (λ r. test (place_for l (key_of s r))) (λ r. ap test (sym (place_of_key s l v r))) rows)
    ∙ fold_filter (shape_folding s).order (key_of s) (shape_folding s).apart (shape_folding s).gathers (λ k. test (place_for l k)) rows
    ∙ filter_by (λ r. test (place_for l (key_of s r))) (λ r. test (place_for l r)) (λ r. ap test (place_of_key s l v r)) (fold_of s rows)

pub placing : (s : ShapeView) (l : LayoutView) → IsLayout s l → (w : Place) (rows : List (List Cell)) → fold_of s (rows_at l w rows) ≡ rows_at l w (fold_of s rows)
placing s l v w rows = placed_fold s l v (is_at w) rows

fold_none : (s : ShapeView) → fold_of s [] ≡ []
unfolding folded
fold_none s = refl

none_kept : {X : Type 0} (p : X → Bool) (xs : List X) → AllByRecursion (λ x. p x ≡ true) xs → filter (λ x. not (p x)) xs ≡ []
none_kept p xs a = filter_none (λ x. not (p x)) xs (all_weaker (λ x. p x ≡ true) (λ x. not (p x) ≡ false) (λ x e. ap not e) xs a)

all_kept_cons : {X : Type 0} (p : X → Bool) (x : X) (xs : List X) (b : Bool) → p x ≡ b → cond (not b) (x ∷ filter (λ y. not (p y)) xs) (filter (λ y. not (p y)) xs) ≡ [] → (filter (λ y. not (p y)) xs ≡ [] → AllByRecursion (λ y. p y ≡ true) xs) → AllByRecursion (λ y. p y ≡ true) (x ∷ xs)
all_kept_cons p x xs true e h k = (e, k h)
all_kept_cons p x xs false e h k = absurd (cc)

all_kept : {X : Type 0} (p : X → Bool) (xs : List X) → filter (λ x. not (p x)) xs ≡ [] → AllByRecursion (λ x. p x ≡ true) xs
all_kept p [] h = tt
all_kept p (x ∷ xs) h = all_kept_cons p x xs (p x) refl h (all_kept p xs)

-- rows inside a layout fold to rows inside it
pub inside_fold : (s : ShapeView) (l : LayoutView) → IsLayout s l → (rows : List (List Cell)) → AreInside l rows → AreInside l (fold_of s rows)
inside_fold s l v rows a =
    all_kept (λ r. is_some (place_for l r)) (fold_of s rows)
    (sym (placed_fold s l v (λ o. not (is_some o)) rows) ∙ ap (fold_of s) (none_kept (λ r. is_some (place_for l r)) rows a) ∙ fold_none s)

-- ---- rows of one place, spread

module _ {R : Type 0} (at : R → Option Place) where
  abbrev here : Place → List R → List R
  here w rows = filter (λ r. is_at w (at r)) rows

  abbrev Of : Place → List R → Type 0
  Of v rows = AllByRecursion (λ r. at r ≡ Some v) rows

  all_here : (v w : Place) (xs : List R) → Of v xs → is_at w (Some v) ≡ true → here w xs ≡ xs
  all_here v w xs a e = filter_all (λ r. is_at w (at r)) xs (all_weaker (λ r. at r ≡ Some v) (λ r. is_at w (at r) ≡ true) (λ r h. ap (is_at w) h ∙ e) xs a)

  none_here : (v w : Place) (xs : List R) → Of v xs → is_at w (Some v) ≡ false → here w xs ≡ []
  none_here v w xs a e = filter_none (λ r. is_at w (at r)) xs (all_weaker (λ r. at r ≡ Some v) (λ r. is_at w (at r) ≡ false) (λ r h. ap (is_at w) h ∙ e) xs a)

  abbrev each_here : List Place → List R → List R
  each_here ws xs = flat_map (λ w. here w xs) ws

  abbrev row_of : ℕ → ℕ → ℕ → List Place
  row_of part a n = map (λ b. record { part = part; bucket = b }) (range_with_len a n)

  and_false : (a : Bool) → (a && false) ≡ false
  and_false true = refl
  and_false false = refl

  not_in : (v w : Place) → nat_eq v.part w.part ≡ false → is_at w (Some v) ≡ false
  not_in v w e = rw e refl

  not_bucket : (v w : Place) → nat_eq v.bucket w.bucket ≡ false → is_at w (Some v) ≡ false
  not_bucket v w e = rw e (and_false (nat_eq v.part w.part))

  -- another partition
  other_part : (v : Place) (part a n : ℕ) (xs : List R) → Of v xs → nat_eq v.part part ≡ false → each_here (row_of part a n) xs ≡ []
  other_part v part a zero xs o e = refl
  other_part v part a (suc n) xs o e =
      ap (λ (l : List R). l ++ each_here (row_of part (a + 1) n) xs) (none_here v (record { part = part; bucket = a }) xs o (not_in v (record { part = part; bucket = a }) e)) ∙ other_part v part (a + 1) n xs o e

  -- buckets above it
  past_bucket : (v : Place) (part a n : ℕ) (xs : List R) → Of v xs → v.bucket < a → each_here (row_of part a n) xs ≡ []
  past_bucket v part a zero xs o h = refl
  past_bucket v part a (suc n) xs o h =
      let e : nat_eq v.bucket a ≡ false = grind (arith, nat_tests) in
      ap (λ (l : List R). l ++ each_here (row_of part (a + 1) n) xs) (none_here v (record { part = part; bucket = a }) xs o (not_bucket v (record { part = part; bucket = a }) e)) ∙ past_bucket v part (a + 1) n xs o (omega arith)

  own_bucket : (v : Place) (a n : ℕ) (xs : List R) → Of v xs → a ≤ v.bucket → v.bucket < a + n → each_here (row_of v.part a n) xs ≡ xs
  own_bucket v a zero xs o low high = absurd (omega arith)
  own_bucket v a (suc n) xs o low high = first (nat_eq v.bucket a) refl (λ h. own_bucket v (a + 1) n xs o h (omega arith))
    where
      self : nat_eq v.part v.part ≡ true
      self = grind (arith, nat_tests)

      first : (b : Bool) → nat_eq v.bucket a ≡ b → (a + 1 ≤ v.bucket → each_here (row_of v.part (a + 1) n) xs ≡ xs) → here (record { part = v.part; bucket = a }) xs ++ each_here (row_of v.part (a + 1) n) xs ≡ xs
      first true e rest =
          let i : v.bucket ≡ a = grind (arith, nat_tests) in
          ap (λ (l : List R). l ++ each_here (row_of v.part (a + 1) n) xs) (all_here v (record { part = v.part; bucket = a }) xs o (rw (self, e) refl))
          ∙ ap (λ (l : List R). xs ++ l) (past_bucket v v.part (a + 1) n xs o (omega arith)) ∙ append-nil xs
      first false e rest =
          let low_is : a + 1 ≤ v.bucket = grind (arith, nat_tests) in
          ap (λ (l : List R). l ++ each_here (row_of v.part (a + 1) n) xs) (none_here v (record { part = v.part; bucket = a }) xs o (not_bucket v (record { part = v.part; bucket = a }) e)) ∙ rest low_is

  past_parts : (v : Place) (buckets a n : ℕ) (xs : List R) → Of v xs → v.part < a → each_here (flat_map (buckets_at buckets) (range_with_len a n)) xs ≡ []
  past_parts v buckets a zero xs o h = refl
  past_parts v buckets a (suc n) xs o h =
      let e : nat_eq v.part a ≡ false = grind (arith, nat_tests) in
      flat_map-append (λ w. here w xs) (buckets_at buckets a) (flat_map (buckets_at buckets) (range_with_len (a + 1) n))
      ∙ ap (λ (l : List R). l ++ each_here (flat_map (buckets_at buckets) (range_with_len (a + 1) n)) xs) (other_part v a 0 buckets xs o e)
      ∙ past_parts v buckets (a + 1) n xs o (omega arith)

  own_part : (v : Place) (buckets a n : ℕ) (xs : List R) → Of v xs → v.bucket < buckets → a ≤ v.part → v.part < a + n → each_here (flat_map (buckets_at buckets) (range_with_len a n)) xs ≡ xs
  own_part v buckets a zero xs o b low high = absurd (omega arith)
  own_part v buckets a (suc n) xs o b low high =
      flat_map-append (λ w. here w xs) (buckets_at buckets a) (flat_map (buckets_at buckets) (range_with_len (a + 1) n))
      ∙ first (nat_eq v.part a) refl (λ h. own_part v buckets (a + 1) n xs o b h (omega arith))
    where
      first : (c : Bool) → nat_eq v.part a ≡ c → (a + 1 ≤ v.part → each_here (flat_map (buckets_at buckets) (range_with_len (a + 1) n)) xs ≡ xs) → each_here (buckets_at buckets a) xs ++ each_here (flat_map (buckets_at buckets) (range_with_len (a + 1) n)) xs ≡ xs
      first true e rest =
          let i : v.part ≡ a = grind (arith, nat_tests) in
          let own : each_here (buckets_at buckets a) xs ≡ xs = subst (λ (p : ℕ). each_here (buckets_at buckets p) xs ≡ xs) i (own_bucket v 0 buckets xs o (omega arith) (omega arith)) in
          ap (λ (l : List R). l ++ each_here (flat_map (buckets_at buckets) (range_with_len (a + 1) n)) xs) own
          ∙ ap (λ (l : List R). xs ++ l) (past_parts v buckets (a + 1) n xs o (omega arith)) ∙ append-nil xs
      first false e rest =
          let low_is : a + 1 ≤ v.part = grind (arith, nat_tests) in
          ap (λ (l : List R). l ++ each_here (flat_map (buckets_at buckets) (range_with_len (a + 1) n)) xs) (other_part v a 0 buckets xs o e) ∙ rest low_is

  -- no rows
  each_none : (ws : List Place) → each_here ws [] ≡ []
  each_none [] = refl
  each_none (w ∷ ws) = each_none ws

  -- tests of rows go past the spreading
  swap : (p q : R → Bool) (xs : List R) → filter p (filter q xs) ≡ filter q (filter p xs)
  swap p q [] = refl
  swap p q (x ∷ xs) = go (p x) (q x) refl refl (swap p q xs)
    where
      go : (b c : Bool) → p x ≡ b → q x ≡ c → filter p (filter q xs) ≡ filter q (filter p xs) → filter p (filter q (x ∷ xs)) ≡ filter q (filter p (x ∷ xs))
      go true true f g rest = ap (filter p) (filter_yes q x xs g) ∙ filter_yes p x (filter q xs) f ∙ ap (λ (l : List R). x ∷ l) rest ∙ sym (ap (filter q) (filter_yes p x xs f) ∙ filter_yes q x (filter p xs) g)
      go true false f g rest = ap (filter p) (filter_no q x xs g) ∙ rest ∙ sym (ap (filter q) (filter_yes p x xs f) ∙ filter_no q x (filter p xs) g)
      go false true f g rest = ap (filter p) (filter_yes q x xs g) ∙ filter_no p x (filter q xs) f ∙ rest ∙ sym (ap (filter q) (filter_no p x xs f))
      go false false f g rest = ap (filter p) (filter_no q x xs g) ∙ rest ∙ sym (ap (filter q) (filter_no p x xs f))

  tested : (p : R → Bool) (xs : List R) (ws : List Place) → filter p (each_here ws xs) ≡ each_here ws (filter p xs)
  tested p xs [] = refl
  tested p xs (w ∷ ws) =
      filter-append p (here w xs) (each_here ws xs) ∙ ap (λ (l : List R). l ++ filter p (each_here ws xs)) (swap p (λ r. is_at w (at r)) xs) ∙ ap (λ (l : List R). here w (filter p xs) ++ l) (tested p xs ws)

-- ---- where a place may be

part_within : (test : PartDef → Bool) (ps : List PartDef) (n : ℕ) → first_part test ps ≡ Some n → n < length ps
part_within test [] n e = absurd (cc)
part_within test (p ∷ ps) n e = go (test p) (first_part test ps) refl e (λ m f. part_within test ps m f)
  where
    go : (b : Bool) (o : Option ℕ) → first_part test ps ≡ o → cond b (Some 0) (next_part o) ≡ Some n → ((m : ℕ) → first_part test ps ≡ Some m → m < length ps) → n < length (p ∷ ps)
    go true o f e rest = let i : 0 ≡ n = cc in omega arith
    go false None f e rest = absurd (cc)
    go false (Some m) f e rest = let i : m + 1 ≡ n = cc in let k = rest m f in omega (arith, k, i)

pub place_within : (s : ShapeView) (l : LayoutView) → IsLayout s l → (row : List Cell) (v : Place) → place_for l row ≡ Some v → (v.part < length l.parts) × (v.bucket < l.buckets)
place_within s l i row v e = go (part_of l.columns l row) refl e
  where
    some : 1 ≤ l.buckets
    some = let b = and_left (nat_le 1 l.buckets) (nat_le l.buckets 64) i.buckets in grind (arith, nat_tests)

    go : (o : Option ℕ) → part_of l.columns l row ≡ o → placed o (bucket_of l.columns l row) ≡ Some v → (v.part < length l.parts) × (v.bucket < l.buckets)
    go None f e = absurd (cc)
    go (Some n) f e =
        let p : n ≡ v.part = cc in
        let b : bucket_of l.columns l row ≡ v.bucket = cc in
        (subst (λ (m : ℕ). m < length l.parts) p (part_within (holds_row l.columns l.column row) l.parts n f), subst (λ (m : ℕ). m < l.buckets) b (let k = some in omega (arith, k)))

-- ---- the spreading law

some_place : (o : Option Place) → is_some o ≡ true → (v : Place) × (o ≡ Some v)
some_place None h = absurd (cc)
some_place (Some v) h = (v, refl)

one_key : (s : ShapeView) (l : LayoutView) → IsLayout s l → (k : List Cell) (xs : List (List Cell)) → AreInside l xs → AllOf row_cmp (key_of s) k xs → flat_map (λ w. rows_at l w xs) (tablets_of l) ≡ xs
one_key s l v k [] a o = each_none (place_for l) (tablets_of l)
one_key s l v k (x ∷ xs) a o =
    let p = some_place (place_for l x) a.0 in
    let key_at : place_for l k ≡ Some p.0 = ap (place_for l) (rows_same k (key_of s x) o.0) ∙ place_of_key s l v x ∙ p.1 in
    let within = place_within s l v x p.0 p.1 in
    own_part (place_for l) p.0 l.buckets 0 (length l.parts) (x ∷ xs)
    (all_weaker _ _ (λ r e. sym (place_of_key s l v r) ∙ ap (place_for l) (sym (rows_same k (key_of s r) e)) ∙ key_at) (x ∷ xs) o)
    within.1 (omega arith) (let n = within.0 in omega (arith, n))

pub spread_by_key : (s : ShapeView) (l : LayoutView) → IsLayout s l → (rows : List (List Cell)) → AreInside l rows → (k : List Cell) → filter (has_key row_cmp (key_of s) k) (spread l rows) ≡ filter (has_key row_cmp (key_of s) k) rows
spread_by_key s l v rows a k =
    tested (place_for l) (has_key row_cmp (key_of s) k) rows (tablets_of l)
    ∙ one_key s l v k (filter (has_key row_cmp (key_of s) k) rows) (filter_keeps (IsInside l) (has_key row_cmp (key_of s) k) rows a) (all_of (shape_folding s).order (key_of s) k rows)

pub spreading : (s : ShapeView) (l : LayoutView) → IsLayout s l → (rows : List (List Cell)) → AreInside l rows → fold_of s (spread l rows) ≡ fold_of s rows
spreading s l v rows a =
    fold_stable (shape_folding s).order (key_of s) (shape_folding s).apart (shape_folding s).gathers (spread l rows) rows
    (spread_by_key s l v rows a)

-- ---- the lists of all tablets

left : (s : ShapeView) (xs ys : List (List Cell)) → fold_of s (fold_of s xs ++ ys) ≡ fold_of s (xs ++ ys)
left s xs ys = fold_left (shape_folding s).order (key_of s) (shape_folding s).apart (shape_folding s).gathers xs ys

right : (s : ShapeView) (xs ys : List (List Cell)) → fold_of s (xs ++ fold_of s ys) ≡ fold_of s (xs ++ ys)
right s xs ys = fold_right (shape_folding s).order (key_of s) (shape_folding s).apart (shape_folding s).gathers xs ys

-- parts that fold alike, one after another
pub parts_alike : {W : Type 0} (s : ShapeView) (f g : W → List (List Cell)) → ((w : W) → fold_of s (f w) ≡ fold_of s (g w)) → (ws : List W) → fold_of s (flat_map f ws) ≡ fold_of s (flat_map g ws)
parts_alike s f g h [] = refl
parts_alike s f g h (w ∷ ws) =
    sym (left s (f w) (flat_map f ws)) ∙ sym (right s (fold_of s (f w)) (flat_map f ws)) ∙ ap (λ (l : List (List Cell)). fold_of s (fold_of s (f w) ++ l)) (parts_alike s f g h ws)
    ∙ ap (λ (l : List (List Cell)). fold_of s (l ++ fold_of s (flat_map g ws))) (h w) ∙ right s (fold_of s (g w)) (flat_map g ws) ∙ left s (g w) (flat_map g ws)

pub tablets_fold : (s : ShapeView) (l : LayoutView) → IsLayout s l → (stored : Place → List (List Cell)) (base : List (List Cell)) → AreInside l base → ((w : Place) → fold_of s (stored w) ≡ fold_of s (rows_at l w base)) → fold_of s (flat_map stored (tablets_of l)) ≡ fold_of s base
tablets_fold s l v stored base a h = parts_alike s stored (λ w. rows_at l w base) h (tablets_of l) ∙ spreading s l v base a

-- ---- a partition more

first_stays : (test : PartDef → Bool) (ps : List PartDef) (p : PartDef) (n : ℕ) → first_part test ps ≡ Some n → first_part test (ps ++ p ∷ []) ≡ Some n
first_stays test [] p n e = absurd (cc)
first_stays test (q ∷ ps) p n e = go (test q) (first_part test ps) refl e (λ m f. first_stays test ps p m f)
  where
    go : (b : Bool) (o : Option ℕ) → first_part test ps ≡ o → cond b (Some 0) (next_part o) ≡ Some n → ((m : ℕ) → first_part test ps ≡ Some m → first_part test (ps ++ p ∷ []) ≡ Some m) → cond b (Some 0) (next_part (first_part test (ps ++ p ∷ []))) ≡ Some n
    go true o f e rest = e
    go false None f e rest = absurd (cc)
    go false (Some m) f e rest = ap next_part (rest m f) ∙ e

-- a row that has a place keeps it where a partition is added
pub place_stays : (l : LayoutView) (p : PartDef) (row : List Cell) → IsInside l row → place_for (with_part p l) row ≡ place_for l row
place_stays l p row h = go (part_of l.columns l row) refl h
  where
    go : (o : Option ℕ) → part_of l.columns l row ≡ o → is_some (placed o (bucket_of l.columns l row)) ≡ true → place_for (with_part p l) row ≡ place_for l row
    go None f h = absurd (cc)
    go (Some n) f h = ap (λ (o : Option ℕ). placed o (bucket_of l.columns l row)) (first_stays (holds_row l.columns l.column row) l.parts p n f ∙ sym f)
