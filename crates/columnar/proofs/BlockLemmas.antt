-- The cells of a block, column after column.
use Rattle.std.proofs.Common.{◌≡◌, ℕ, zero, suc, ◌+◌, ◌*◌, ◌/◌, ◌%◌, ◌<◌, ◌∙◌, List, [], ◌∷◌, ◌++◌, map, length, take, drop, get_or, refl, ap, ap₂, sym, arith, length-append}
use Rattle.std.proofs.Math.Nat.{suc-mul, mul-mod_left, mul-div_cancel}
use Rattle.std.proofs.lemmas.List.{get_or_append_left, get_or-append-add, get_or-drop, take_more, append_assoc, append-nil, map-append, length-map}
use Rattle.std.proofs.lemmas.List.FromFn.{fill_by_all, length-map-range_with_len, get_or-map-range_with_len}
use Rattle.std.specs.List.{AllByRecursion, flat_map, range_with_len}
use Rattle.columnar.proofs.Lists.{all_get}
use Rattle.columnar.specs.Blocks.{IsBlock, across, column_of, zones_of}
use Rattle.dl_values.specs.Views.{every}
use Rattle.dl_values.specs.declared.cell.Cell.{Cell}
use Rattle.dl_values.specs.declared.cell.Cell.TheVariants as cell
use Rattle.zones.specs.Ends.{EndsView}

-- one more row of a column
pub column_more : (c start n : ℕ) (rows : List (List Cell)) → n < length (drop start rows) → column_of c (take (n + 1) (drop start rows)) ≡ column_of c (take n (drop start rows)) ++ get_or (get_or rows (start + n) []) c cell.Null ∷ []
column_more c start n rows l =
    ap (λ (rs : List (List Cell)). column_of c rs) (take_more (drop start rows) n [] l)
    ∙ map-append (λ (r : List Cell). get_or r c cell.Null) (take n (drop start rows)) (get_or (drop start rows) n [] ∷ [])
    ∙ ap (λ (r : List Cell). column_of c (take n (drop start rows)) ++ get_or r c cell.Null ∷ []) (get_or-drop start rows n [])

column_at : (c at : ℕ) (rows : List (List Cell)) → at < length rows → get_or (column_of c rows) at cell.Null ≡ get_or (get_or rows at []) c cell.Null
column_at c at [] l = let no : ⊥ = omega arith in absurd no
column_at c zero (r ∷ rs) l = refl
column_at c (suc at) (r ∷ rs) l = column_at c at rs (omega arith)

-- cells behind others
every_behind : (n step at : ℕ) (front back : List Cell) → every n step (length front + at) (front ++ back) ≡ every n step at back
every_behind zero step at front back = refl
every_behind (suc n) step at front back =
    ap₂ (λ (c : Cell) (cs : List Cell). c ∷ cs) (get_or-append-add front back at cell.Null)
    (ap (λ k. every n step k (front ++ back)) (three (length front) at step) ∙ every_behind n step (at + step) front back)
  where
    three : (a b c : ℕ) → a + b + c ≡ a + (b + c)
    three a b c = omega arith

abbrev pub columns : ℕ → ℕ → List (List Cell) → List Cell
columns from n block = flat_map (λ c. column_of c block) (range_with_len from n)

row_of_columns : (from n count at : ℕ) (block : List (List Cell)) → length block ≡ count → at < count → every n count at (columns from n block) ≡ map (λ c. get_or (get_or block at []) c cell.Null) (range_with_len from n)
row_of_columns from zero count at block e l = refl
row_of_columns from (suc n) count at block e l =
    let col : List Cell = column_of from block in
    let rest : List Cell = columns (from + 1) n block in
    let size : length col ≡ count = length-map block (λ (r : List Cell). get_or r from cell.Null) ∙ e in
    ap₂ (λ (c : Cell) (cs : List Cell). c ∷ cs)
    (get_or_append_left col rest cell.Null at (omega (arith, size)) ∙ column_at from at block (omega (arith, e)))
    (ap (λ k. every n count k (col ++ rest)) (swap at count (length col) size) ∙ every_behind n count at col rest ∙ row_of_columns (from + 1) n count at block e l)
  where
    swap : (a b c : ℕ) → c ≡ b → a + b ≡ c + a
    swap a b c h = omega arith

row_itself : (row : List Cell) (width : ℕ) → width ≡ length row → map (λ c. get_or row c cell.Null) (range_with_len 0 width) ≡ row
row_itself row width e = sym (fill_by_all (λ c. get_or row c cell.Null) row width cell.Null (sym e) (λ k l. refl))

-- the columns of a block are its rows
pub columns_are : (width count : ℕ) (block : List (List Cell)) → length block ≡ count → AllByRecursion (λ r. width ≡ length r) block → across width count (columns 0 width block) ≡ block
columns_are width count block e wide =
    sym (fill_by_all (λ at. every width count at (columns 0 width block)) block count [] e
    (λ k l. let b : k < length block = omega (arith, e) in
    sym (row_of_columns 0 width count k block e l ∙ row_itself (get_or block k []) width (all_get (λ (r : List Cell). width ≡ length r) k block [] b wide))))

columns_length : (from n : ℕ) (block : List (List Cell)) → n * length block ≡ length (columns from n block)
columns_length from zero block = zero-mul (length block)
  where
    zero-mul : (k : ℕ) → 0 * k ≡ 0
    zero-mul k = omega arith
columns_length from (suc n) block =
    let size : length (column_of from block) ≡ length block = length-map block (λ (r : List Cell). get_or r from cell.Null) in
    suc-mul n (length block) ∙ sums (n * length block) (length block) (length (columns (from + 1) n block)) (length (column_of from block)) (columns_length (from + 1) n block) size ∙ sym (length-append (column_of from block) (columns (from + 1) n block))
  where
    sums : (a b c d : ℕ) → a ≡ c → d ≡ b → a + b ≡ d + c
    sums a b c d h k = omega arith

pub block_is : (width count : ℕ) (block : List (List Cell)) (cells : List Cell) (zones : List EndsView) → cells ≡ columns 0 width block → zones ≡ zones_of width block → length block ≡ count → 0 < count → AllByRecursion (λ r. width ≡ length r) block → IsBlock width count cells zones
block_is width count block cells zones c z e s wide = record {
  some = s;
  whole = ap (λ k. width * k) (sym e) ∙ columns_length 0 width block ∙ sym (ap (λ (x : List Cell). length x) c);
  zoned = z ∙ ap (λ (rows : List (List Cell)). zones_of width rows) (sym (ap (λ (x : List Cell). across width count x) c ∙ columns_are width count block e wide));
}

-- the row at a place of a block
pub length_across : (width count : ℕ) (cells : List Cell) → length (across width count cells) ≡ count
length_across width count cells = length-map-range_with_len (λ at. every width count at cells) 0 count

pub no_rest : (width count n : ℕ) → width * count ≡ n → n % count ≡ 0
no_rest width count n e = ap (λ k. k % count) (sym e) ∙ mul-mod_left width count

pub row_at : (width count at : ℕ) (cells : List Cell) (zones : List EndsView) → IsBlock width count cells zones → at < count → every (length cells / count) count at cells ≡ get_or (across width count cells) at []
row_at width count at cells zones b l =
    let w : length cells / count ≡ width = ap (λ k. k / count) (sym b.whole) ∙ mul-div_cancel width b.some in
    ap (λ k. every k count at cells) w ∙ sym (get_or-map-range_with_len (λ k. every width count k cells) 0 count at at [] l (omega arith))

sucs : (n : ℕ) → suc n + 1 ≡ suc (n + 1)
sucs n = omega arith

pub columns_more : (from n : ℕ) (block : List (List Cell)) → columns from (n + 1) block ≡ columns from n block ++ column_of (from + n) block
columns_more from zero block = append-nil (column_of from block) ∙ ap (λ k. column_of k block) (same from)
  where
    same : (k : ℕ) → k ≡ k + 0
    same k = omega arith
columns_more from (suc n) block =
    ap (λ k. columns from k block) (sucs n)
    ∙ ap (λ (l : List Cell). column_of from block ++ l) (columns_more (from + 1) n block)
    ∙ sym (append_assoc (column_of from block) (columns (from + 1) n block) (column_of (from + 1 + n) block))
    ∙ ap (λ k. column_of from block ++ columns (from + 1) n block ++ column_of k block) (swap from n)
  where
    swap : (a b : ℕ) → a + 1 + b ≡ a + suc b
    swap a b = omega arith
