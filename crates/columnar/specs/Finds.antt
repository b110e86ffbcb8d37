-- Where a row of a block passes a test, one may pass it: a term that the law of an impl can cite.
use Rattle.std.proofs.Common.{◌≡◌, ℕ, zero, suc, ◌*◌, ◌/◌, ◌%◌, ◌<◌, ◌∙◌, List, [], ◌∷◌, true, refl, length, drop, get_or, ap, sym, subst, arith, length-drop}
use Rattle.std.proofs.Math.Nat.{div-add-mod}
use Rattle.std.proofs.lemmas.List.{get_or-drop, get_or-take, length-take}
use Rattle.std.proofs.lemmas.List.Folds.{list_any_at}
use Rattle.std.proofs.lemmas.List.FromFn.{get_or-map-range_with_len}
use Rattle.columnar.specs.Blocks.{column_of}
use Rattle.columnar.specs.Zones.{block_may, block_numbers, rows_in}
use Rattle.dl_values.specs.declared.cell.Cell.{Cell}
use Rattle.dl_values.specs.declared.cell.Cell.TheVariants as cell
use Rattle.zones.proofs.Between.{found}
use Rattle.zones.proofs.Extremes.{ends_hold}
use Rattle.zones.specs.Ends.{ends_of}
use Rattle.zones.specs.InBlocks.{FindsMatches, row_passes}
use Rattle.zones.specs.Tests.{passes}
use Rattle.zones.specs.declared.test.Test.{Test}

-- the cell of a column is that of the row
column_at : (c at : ℕ) (rows : List (List Cell)) → at < length rows → (get_or (column_of c rows) at cell.Null ≡ get_or (get_or rows at []) c cell.Null) × (at < length (column_of c rows))
column_at c at [] l = let no : ⊥ = omega arith in absurd no
column_at c zero (r ∷ rs) l = (refl, omega arith)
column_at c (suc at) (r ∷ rs) l = let rest = column_at c at rs (omega arith) in (rest.0, omega (arith, rest.1))

-- the row at a place is among those of its block
in_block : (rows : List (List Cell)) (i : ℕ) → i < length rows → get_or (rows_in (i / 1024) rows) (i % 1024) [] ≡ get_or rows i []
in_block rows i l =
    get_or-take 1024 (drop (1024 * (i / 1024)) rows) (i % 1024) [] (omega arith)
    ∙ get_or-drop (1024 * (i / 1024)) rows (i % 1024) []
    ∙ ap (λ k. get_or rows k []) (div-add-mod i 1024)

there : (rows : List (List Cell)) (i : ℕ) → i < length rows → i % 1024 < length (rows_in (i / 1024) rows)
there rows i l = simp length-take (simp length-drop (omega (arith, l)))

may_at : (rows : List (List Cell)) (t : Test) (i : ℕ) → i < length rows → row_passes t (get_or rows i []) ≡ true → block_may rows (i / 1024) t ≡ true
may_at rows t i l p =
    let block = rows_in (i / 1024) rows in
    let cells = column_of t.column block in
    let at = column_at t.column (i % 1024) block (there rows i l) in
    let is : get_or cells (i % 1024) cell.Null ≡ get_or (get_or rows i []) t.column cell.Null = at.0 ∙ ap (λ (r : List Cell). get_or r t.column cell.Null) (in_block rows i l) in
    found t.op t.literal (ends_of cells) cells (ends_hold cells)
    (list_any_at (λ (x : Cell). passes t.op t.literal x) cells (i % 1024) cell.Null at.1 (ap (λ (x : Cell). passes t.op t.literal x) is ∙ p))

pub block_finds : (rows : List (List Cell)) (block : ℕ) (t : Test) → FindsMatches rows (block_numbers rows) block t (block_may rows block t)
block_finds rows block t i l at p =
    let n : i / 1024 ≡ block = sym (get_or-map-range_with_len (λ k. k / 1024) 0 (length rows) i i 0 l (omega arith)) ∙ at in
    subst (λ b. block_may rows b t ≡ true) n (may_at rows t i l p)
