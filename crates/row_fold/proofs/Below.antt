-- A smaller number is of a smaller key.
use Rattle.std.proofs.Common.{◌≡◌, ℕ, zero, suc, ◌+◌, ◌*◌, ◌<◌, ◌≤◌, ℤ, pos, negsuc, List, [], ◌∷◌, Bool, true, false, nat_lt, take, drop, refl, sym, ap, ◌∙◌, subst, arith}
use Rattle.std.specs.Prelude.{if◌then◌else◌}
use Rattle.std.specs.Cmp.Lexicographic.{slice_cmp}
use Rattle.std.specs.FinMap.{nat_cmp-IsAntisymmetric}
use Rattle.std.proofs.Math.Nat.{mul-le-mul_right, suc-mul}
use Rattle.std.proofs.lemmas.Bool.{ltb-true, ltb-false}
use Rattle.std.specs.Ordering.{int_cmp, nat_cmp, ordering_reverse}
use Rattle.std.specs.declared.cmp.Ordering.{Ordering}
use Rattle.std.specs.declared.cmp.Ordering.TheVariants.{Less, Equal, Greater}
use Rattle.std.proofs.lemmas.Bool.Decides.{nat_tests}
use Rattle.dl_values.specs.OrderLemmas.{rows_total}
use Rattle.dl_values.specs.Order.{cell_cmp, row_cmp}
use Rattle.dl_values.specs.declared.cell.Cell.{Cell}
use Rattle.dl_values.specs.declared.cell.Cell.TheVariants as cell
use Rattle.row_fold.specs.Prefix.{int_prefix, cell_prefix, front_of, is_exact, row_prefix, text_number, text_prefix}
use Rattle.row_fold.specs.Sorted.{IsSingle}
use Rattle.schema_models.specs.Folds.{key_in, key_of}
use Rattle.schema_models.specs.ShapeView.{ShapeView, key_count}
use Rattle.schema_models.specs.declared.model.Model.{Model}
use Rattle.schema_models.specs.declared.model.Model.TheVariants as model

below_ints : (x y : ℤ) → int_prefix x < int_prefix y → int_cmp x y ≡ Less
below_ints (pos m) (pos n) h = grind (arith, nat_tests)
below_ints (pos m) (negsuc n) h = absurd (omega arith)
below_ints (negsuc m) (pos n) h = refl
below_ints (negsuc m) (negsuc n) h = grind (arith, nat_tests)

int_over_null : (x : ℤ) → int_prefix x < 0 → ⊥
int_over_null x h = omega arith

int_low : (x : ℤ) → int_prefix x < 9223372036854775808
int_low (pos n) = omega arith
int_low (negsuc n) = omega arith

-- ---- texts

front_bound : (w f : ℕ) (t : List ℕ) → f < w → front_of t w f < 256 * w
front_bound w f [] h = omega arith
front_bound w f (b ∷ bs) h = go (nat_lt b 255) refl
  where
    go : (p : Bool) → nat_lt b 255 ≡ p → (if p then b * w + f else 255 * w) < 256 * w
    go true e =
        let l : b < 255 = ltb-true b 255 e in
        let m : b * w ≤ 254 * w = mul-le-mul_right w (omega (arith, l)) in
        omega (arith, m, h)
    go false e = omega (arith, h)

less_first : (x y : ℕ) (xs ys : List ℕ) → nat_cmp x y ≡ Less → slice_cmp nat_cmp (x ∷ xs) (y ∷ ys) ≡ Less
less_first x y xs ys e = rw e refl

less_next : (x y : ℕ) (xs ys : List ℕ) → nat_cmp x y ≡ Equal → slice_cmp nat_cmp xs ys ≡ Less → slice_cmp nat_cmp (x ∷ xs) (y ∷ ys) ≡ Less
less_next x y xs ys e l = rw e l

below_number : (x y : ℕ) → x < y → nat_cmp x y ≡ Less
below_number x y h = grind (arith, nat_tests)

front_less : (w f g : ℕ) (xs ys : List ℕ) → f < w → g < w → (f < g → slice_cmp nat_cmp (drop 1 xs) (drop 1 ys) ≡ Less) → front_of xs w f < front_of ys w g → slice_cmp nat_cmp xs ys ≡ Less
front_less w f g [] [] a b next h = absurd (omega arith)
front_less w f g [] (y ∷ ys) a b next h = refl
front_less w f g (x ∷ xs) [] a b next h = absurd (omega arith)
front_less w f g (x ∷ xs) (y ∷ ys) a b next h = go (nat_lt x 255) (nat_lt y 255) refl refl h
  where
    small : (n : ℕ) → nat_lt n 255 ≡ true → n ≤ 254
    small n e = let l : n < 255 = ltb-true n 255 e in omega (arith, l)

    large : (n : ℕ) → nat_lt n 255 ≡ false → 255 ≤ n
    large n e = ltb-false n 255 e

    order : (o : Ordering) → nat_cmp x y ≡ o → x * w + f < y * w + g → slice_cmp nat_cmp (x ∷ xs) (y ∷ ys) ≡ Less
    order Less e l = less_first x y xs ys e
    order Equal e l =
        let same : x ≡ y = nat_cmp-IsAntisymmetric x y e in
        let k : y * w + f < y * w + g = subst (λ n. n * w + f < y * w + g) same l in
        less_next x y xs ys e (next (omega (arith, k)))
    order Greater e l =
        let more : y < x = above x y e in
        let m : suc y * w ≤ x * w = mul-le-mul_right w more in
        let s : suc y * w ≡ y * w + w = suc-mul y w in
        absurd (omega (arith, m, s, l, b))
      where
        above : (m n : ℕ) → nat_cmp m n ≡ Greater → n < m
        above m n e = grind (arith, nat_tests)

    go : (p q : Bool) → nat_lt x 255 ≡ p → nat_lt y 255 ≡ q → (if p then x * w + f else 255 * w) < (if q then y * w + g else 255 * w) → slice_cmp nat_cmp (x ∷ xs) (y ∷ ys) ≡ Less
    go true true d e l = order (nat_cmp x y) refl l
    go true false d e l = less_first x y xs ys (below_number x y (omega (arith, small x d, large y e)))
    go false true d e l =
        let m : y * w ≤ 254 * w = mul-le-mul_right w (small y e) in
        absurd (omega (arith, m, l, b))
    go false false d e l = absurd (omega (arith, l))

-- each weight is above the number of what is behind it
abbrev Falls : List ℕ → Type 0
Falls [] = Unit {0}
Falls (w ∷ ws) = ((t : List ℕ) → text_number ws t < w) × Falls ws

number_less : (ws xs ys : List ℕ) → Falls ws → text_number ws xs < text_number ws ys → slice_cmp nat_cmp xs ys ≡ Less
number_less [] xs ys a h = absurd (omega (arith, h))
number_less (w ∷ ws) xs ys a h = front_less w (text_number ws (drop 1 xs)) (text_number ws (drop 1 ys)) xs ys (a.0 (drop 1 xs)) (a.0 (drop 1 ys)) (λ l. number_less ws (drop 1 xs) (drop 1 ys) a.1 l) h

number_bound : (w : ℕ) (ws : List ℕ) → Falls (w ∷ ws) → (t : List ℕ) → text_number (w ∷ ws) t < 256 * w
number_bound w ws a t = front_bound w (text_number ws (drop 1 t)) t (a.0 (drop 1 t))

falls_1 : Falls (1 ∷ [])
falls_1 = (λ t. omega arith, tt)

falls_2 : Falls (256 ∷ 1 ∷ [])
falls_2 = (number_bound 1 [] falls_1, falls_1)

falls_3 : Falls (65536 ∷ 256 ∷ 1 ∷ [])
falls_3 = (number_bound 256 (1 ∷ []) falls_2, falls_2)

falls_4 : Falls (16777216 ∷ 65536 ∷ 256 ∷ 1 ∷ [])
falls_4 = (number_bound 65536 (256 ∷ 1 ∷ []) falls_3, falls_3)

falls_5 : Falls (4294967296 ∷ 16777216 ∷ 65536 ∷ 256 ∷ 1 ∷ [])
falls_5 = (number_bound 16777216 (65536 ∷ 256 ∷ 1 ∷ []) falls_4, falls_4)

falls_6 : Falls (1099511627776 ∷ 4294967296 ∷ 16777216 ∷ 65536 ∷ 256 ∷ 1 ∷ [])
falls_6 = (number_bound 4294967296 (16777216 ∷ 65536 ∷ 256 ∷ 1 ∷ []) falls_5, falls_5)

falls_7 : Falls (281474976710656 ∷ 1099511627776 ∷ 4294967296 ∷ 16777216 ∷ 65536 ∷ 256 ∷ 1 ∷ [])
falls_7 = (number_bound 1099511627776 (4294967296 ∷ 16777216 ∷ 65536 ∷ 256 ∷ 1 ∷ []) falls_6, falls_6)

below_texts : (x y : List ℕ) → text_prefix x < text_prefix y → slice_cmp nat_cmp x y ≡ Less
unfolding text_prefix
below_texts x y h = number_less (281474976710656 ∷ 1099511627776 ∷ 4294967296 ∷ 16777216 ∷ 65536 ∷ 256 ∷ 1 ∷ []) x y falls_7 h

-- ---- cells

below_cells : (x y : Cell) → cell_prefix x < cell_prefix y → cell_cmp x y ≡ Less
below_cells cell.Null cell.Null h = absurd (omega arith)
below_cells cell.Null (cell.Int y) h = refl
below_cells cell.Null (cell.Day y) h = refl
below_cells cell.Null (cell.Text y) h = refl
below_cells (cell.Int x) cell.Null h = absurd (omega arith)
below_cells (cell.Int x) (cell.Int y) h = below_ints x y h
below_cells (cell.Int x) (cell.Day y) h = refl
below_cells (cell.Int x) (cell.Text y) h = refl
below_cells (cell.Day x) cell.Null h = absurd (omega arith)
below_cells (cell.Day x) (cell.Int y) h = absurd (omega (arith, int_low y))
below_cells (cell.Day x) (cell.Day y) h = grind (arith, nat_tests)
below_cells (cell.Day x) (cell.Text y) h = refl
below_cells (cell.Text x) cell.Null h = absurd (omega arith)
below_cells (cell.Text x) (cell.Int y) h = absurd (omega (arith, int_low y))
below_cells (cell.Text x) (cell.Day y) h = absurd (omega arith)
below_cells (cell.Text x) (cell.Text y) h = below_texts x y (omega (arith, h))

below_rows : (xs ys : List Cell) → row_prefix xs < row_prefix ys → row_cmp xs ys ≡ Less
below_rows [] [] h = absurd (omega arith)
below_rows [] (y ∷ ys) h = refl
below_rows (x ∷ xs) [] h = absurd (omega arith)
below_rows (x ∷ xs) (y ∷ ys) h = rw (below_cells x y h) refl

-- the first n cells have the number of the row, where n is not 0
prefix_take : (n : ℕ) (xs : List Cell) → 0 < n → row_prefix (take n xs) ≡ row_prefix xs
prefix_take zero xs h = absurd (omega arith)
prefix_take (suc n) [] h = refl
prefix_take (suc n) (x ∷ xs) h = refl

-- the same of the first cells of each
pub below_taken : (m n : ℕ) (xs ys : List Cell) → 0 < m → 0 < n → row_prefix xs < row_prefix ys → row_cmp (take m xs) (take n ys) ≡ Less
below_taken m n xs ys p q h = below_rows (take m xs) (take n ys) (rw (prefix_take m xs p, prefix_take n ys q) h)

below_keys : (m : Model) (n : ℕ) (xs ys : List Cell) → 0 < n → row_prefix xs < row_prefix ys → row_cmp (key_in m n xs) (key_in m n ys) ≡ Less
below_keys model.Duplicate n xs ys p h = below_rows xs ys h
below_keys model.Unique n xs ys p h = below_taken n n xs ys p p h
below_keys model.Aggregate n xs ys p h = below_taken n n xs ys p p h

pub key_below : (s : ShapeView) (xs ys : List Cell) → 0 < key_count s.columns → row_prefix xs < row_prefix ys → Less ≡ row_cmp (key_of s xs) (key_of s ys)
key_below s xs ys p h = sym (below_keys s.model (key_count s.columns) xs ys p h)

pub key_above : (s : ShapeView) (xs ys : List Cell) → 0 < key_count s.columns → row_prefix ys < row_prefix xs → Greater ≡ row_cmp (key_of s xs) (key_of s ys)
key_above s xs ys p h = sym (rows_total.antisymm (key_of s xs) (key_of s ys) ∙ ap ordering_reverse (below_keys s.model (key_count s.columns) ys xs p h))

-- ---- numbers that only one cell has

exact_low : (n : ℕ) → is_exact n ≡ true → 4611686018427387904 < n
exact_low n h = grind (arith, nat_tests)

exact_high : (n : ℕ) → is_exact n ≡ true → n < 13835058055282163711
exact_high n h = grind (arith, nat_tests)

exact_not : (n : ℕ) → is_exact n ≡ true → n ≡ 9223372036854775807 → ⊥
exact_not n h e = grind (arith, nat_tests)

same_ints : (x y : ℤ) → int_prefix x ≡ int_prefix y → 4611686018427387904 < int_prefix x → (int_prefix x ≡ 9223372036854775807 → ⊥) → x ≡ y
same_ints (pos m) (pos n) e l h = ap pos (omega (arith, h))
same_ints (pos m) (negsuc n) e l h = absurd (omega arith)
same_ints (negsuc m) (pos n) e l h = absurd (omega arith)
same_ints (negsuc m) (negsuc n) e l h = ap negsuc (omega (arith, h))

same_cells : (x y : Cell) → cell_prefix x ≡ cell_prefix y → 4611686018427387904 < cell_prefix x → cell_prefix x < 13835058055282163711 → (cell_prefix x ≡ 9223372036854775807 → ⊥) → x ≡ y
same_cells cell.Null y e l u h = absurd (omega arith)
same_cells (cell.Text x) y e l u h = absurd (omega arith)
same_cells (cell.Int x) cell.Null e l u h = absurd (omega arith)
same_cells (cell.Int x) (cell.Int y) e l u h = ap cell.Int (same_ints x y e l h)
same_cells (cell.Int x) (cell.Day y) e l u h = absurd (omega (arith, int_low x))
same_cells (cell.Int x) (cell.Text y) e l u h = absurd (omega arith)
same_cells (cell.Day x) cell.Null e l u h = absurd (omega arith)
same_cells (cell.Day x) (cell.Int y) e l u h = absurd (omega (arith, int_low y))
same_cells (cell.Day x) (cell.Day y) e l u h = ap cell.Day (omega arith)
same_cells (cell.Day x) (cell.Text y) e l u h = absurd (omega arith)

ties_itself : (row : List Cell) → Equal ≡ row_cmp row row
ties_itself row = go (row_cmp row row) refl
  where
    go : (o : Ordering) → row_cmp row row ≡ o → Equal ≡ row_cmp row row
    go Equal e = sym e
    go Less e = absurd (differ (sym e ∙ rows_total.antisymm row row ∙ ap ordering_reverse e))
      where
        differ : Less ≡ Greater → ⊥
        differ d = cc
    go Greater e = absurd (differ (sym e ∙ rows_total.antisymm row row ∙ ap ordering_reverse e))
      where
        differ : Greater ≡ Less → ⊥
        differ d = cc

same_first : (xs ys : List Cell) → row_prefix xs ≡ row_prefix ys → is_exact (row_prefix xs) ≡ true → take 1 xs ≡ take 1 ys
same_first [] ys e h = cc
same_first (x ∷ xs) [] e h = absurd (nothing (cell_prefix x) e h)
  where
    nothing : (n : ℕ) → n ≡ 0 → is_exact n ≡ true → ⊥
    nothing n z t = let l : 4611686018427387904 < n = exact_low n t in omega arith
same_first (x ∷ xs) (y ∷ ys) e h = ap (λ c. c ∷ []) (same_cells x y e (exact_low (cell_prefix x) h) (exact_high (cell_prefix x) h) (exact_not (cell_prefix x) h))

taken_key : (m : Model) (row : List Cell) → (m ≡ model.Duplicate → ⊥) → key_in m 1 row ≡ take 1 row
taken_key model.Duplicate row h = absurd (h refl)
taken_key model.Unique row h = refl
taken_key model.Aggregate row h = refl

single_key : (s : ShapeView) (row : List Cell) → IsSingle s → key_of s row ≡ take 1 row
single_key s row h = ap (λ n. key_in s.model n row) h.0 ∙ taken_key s.model row h.1

pub key_same : (s : ShapeView) (xs ys : List Cell) (a b : ℕ) → IsSingle s → a ≡ row_prefix xs → b ≡ row_prefix ys → (a < b → ⊥) → (b < a → ⊥) → is_exact a ≡ true → Equal ≡ row_cmp (key_of s xs) (key_of s ys)
key_same s xs ys a b single p q l g h =
    let e : a ≡ b = omega (arith, l, g) in
    let same : take 1 xs ≡ take 1 ys = same_first xs ys (sym p ∙ e ∙ q) (subst (λ n. is_exact n ≡ true) p h) in
    ties_itself (key_of s xs) ∙ ap (λ r. row_cmp (key_of s xs) r) (single_key s xs single ∙ same ∙ sym (single_key s ys single))
