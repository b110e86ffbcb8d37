-- The zones of a block: those of its columns, and none beyond its width.
use Rattle.std.proofs.Common.{◌≡◌, ℕ, zero, suc, ◌+◌, ◌-◌, ◌*◌, ◌/◌, ◌%◌, ◌<◌, ◌≤◌, ◌∙◌, List, [], ◌∷◌, ◌++◌, fold, map, length, take, drop, get_or, refl, ap, ap₂, sym, arith, append-nil}
use Rattle.std.proofs.Math.Seq.{drop-append-add}
use Rattle.std.proofs.lemmas.List.{take-append-le}
use Rattle.std.proofs.lemmas.List.FromFn.{get_or-map-range_with_len, length-map-range_with_len}
use Rattle.std.specs.List.{range_with_len}
use Rattle.columnar.specs.Blocks.{AreFull, IsBlock, across, all_rows, column_of, zones_of}
use Rattle.columnar.specs.Zones.{block_numbers, rows_in}
use Rattle.dl_values.specs.Views.{every}
use Rattle.dl_values.specs.declared.cell.Cell.{Cell}
use Rattle.dl_values.specs.declared.cell.Cell.TheVariants as cell
use Rattle.zones.specs.Ends.{EndsView, ends_of, first_or, higher, lower}

length_zones : (width : ℕ) (rows : List (List Cell)) → length (zones_of width rows) ≡ width
length_zones width rows = length-map-range_with_len (λ c. ends_of (column_of c rows)) 0 width

pub zone_at : (width count c : ℕ) (cells : List Cell) (zones : List EndsView) (d : EndsView) → IsBlock width count cells zones → c < length zones → get_or zones c d ≡ ends_of (column_of c (across width count cells))
zone_at width count c cells zones d b l =
    let rows = across width count cells in
    let size : length zones ≡ width = ap (λ (z : List EndsView). length z) b.zoned ∙ length_zones width rows in
    ap (λ (z : List EndsView). get_or z c d) b.zoned ∙ get_or-map-range_with_len (λ k. ends_of (column_of k rows)) 0 width c c d (omega (arith, size, l)) (omega arith)

-- ---- beyond the width all cells are null

beyond_row : (n step at c : ℕ) (cells : List Cell) → n ≤ c → get_or (every n step at cells) c cell.Null ≡ cell.Null
beyond_row zero step at c cells l = refl
beyond_row (suc n) step at zero cells l = let no : ⊥ = omega arith in absurd no
beyond_row (suc n) step at (suc c) cells l = beyond_row n step (at + step) c cells (omega arith)

abbrev nulls : (ats : List ℕ) → List Cell
nulls ats = map (λ at. cell.Null) ats

beyond_rows : (width count c : ℕ) (cells : List Cell) (ats : List ℕ) → width ≤ c → column_of c (map (λ at. every width count at cells) ats) ≡ nulls ats
beyond_rows width count c cells [] l = refl
beyond_rows width count c cells (at ∷ ats) l = ap₂ (λ (x : Cell) (xs : List Cell). x ∷ xs) (beyond_row width count at c cells l) (beyond_rows width count c cells ats l)

low : (ats : List ℕ) → fold lower cell.Null (nulls ats) ≡ cell.Null
low [] = refl
low (at ∷ ats) = low ats

high : (ats : List ℕ) → fold higher cell.Null (nulls ats) ≡ cell.Null
high [] = refl
high (at ∷ ats) = high ats

first : (ats : List ℕ) → first_or (nulls ats) cell.Null ≡ cell.Null
first [] = refl
first (at ∷ ats) = refl

null_ends : (ats : List ℕ) → ends_of (nulls ats) ≡ ends_of []
null_ends ats =
    ap₂ (λ (a b : Cell). record { least = a; greatest = b })
    (ap (λ (a : Cell). fold lower a (nulls ats)) (first ats) ∙ low ats)
    (ap (λ (a : Cell). fold higher a (nulls ats)) (first ats) ∙ high ats)

pub no_zone : (width count c : ℕ) (cells : List Cell) (zones : List EndsView) → IsBlock width count cells zones → length zones ≤ c → ends_of [] ≡ ends_of (column_of c (across width count cells))
no_zone width count c cells zones b l =
    let size : length zones ≡ width = ap (λ (z : List EndsView). length z) b.zoned ∙ length_zones width (across width count cells) in
    sym (ap (λ (x : List Cell). ends_of x) (beyond_rows width count c cells (range_with_len 0 count) (omega (arith, size, l))) ∙ null_ends (range_with_len 0 count))

-- ---- the rows of a block

take_whole : {X : Type 0} (n : ℕ) (xs : List X) → length xs ≤ n → take n xs ≡ xs
take_whole n xs l = sym (ap (λ l. take n l) (append-nil xs)) ∙ go n xs l
  where
    go : {X : Type 0} (n : ℕ) (xs : List X) → length xs ≤ n → take n (xs ++ []) ≡ xs
    go zero [] l = refl
    go (suc n) [] l = refl
    go zero (x ∷ xs) l = let no : ⊥ = omega arith in absurd no
    go (suc n) (x ∷ xs) l = ap (λ r. x ∷ r) (go n xs (omega arith))

pub block_rows : (blocks : List (List (List Cell))) (n : ℕ) → AreFull blocks → n < length blocks → get_or blocks n [] ≡ rows_in n (all_rows blocks)
block_rows [] n f l = let no : ⊥ = omega arith in absurd no
block_rows (b ∷ []) zero f l = sym (ap (λ (r : List (List Cell)). take 1024 r) (append-nil b) ∙ take_whole 1024 b f.1)
block_rows (b ∷ []) (suc n) f l = let no : ⊥ = omega arith in absurd no
block_rows (b ∷ c ∷ rest) zero f l = sym (take-append-le 1024 b (all_rows (c ∷ rest)) (omega (arith, f.0)) ∙ take_whole 1024 b (omega (arith, f.0)))
block_rows (b ∷ c ∷ rest) (suc n) f l =
    let past : 1024 * suc n ≡ length b + 1024 * n = omega (arith, f.0) in
    block_rows (c ∷ rest) n f.1 (omega arith)
    ∙ sym (ap (λ (r : List (List Cell)). take 1024 r) (ap (λ k. drop k (b ++ all_rows (c ∷ rest))) past ∙ drop-append-add b (all_rows (c ∷ rest)) (1024 * n)))

-- the number of the block of a row
pub number_at : (rows : List (List Cell)) (place : ℕ) → place < length rows → get_or (block_numbers rows) place 0 ≡ place / 1024
number_at rows place l = get_or-map-range_with_len (λ k. k / 1024) 0 (length rows) place place 0 l (omega arith)

pub same_block : (place end i : ℕ) → end ≤ place - place % 1024 + 1024 → place ≤ i → i < end → i / 1024 ≡ place / 1024
same_block place end i e a b = omega arith
