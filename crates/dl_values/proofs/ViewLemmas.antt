-- Cells that stand column after column: how many there are, and which stands where.
use Rattle.std.proofs.Common.{◌≡◌, ℕ, zero, suc, ◌+◌, ◌*◌, ◌<◌, ◌≤◌, ◌∙◌, List, [], ◌∷◌, length, get_or, refl, ap, sym, subst, arith}
use Rattle.std.proofs.Math.Nat.{suc-mul, mul-le-mul_right}
use Rattle.std.proofs.lemmas.List.{get_or_default}
use Rattle.dl_values.specs.Views.{every}
use Rattle.dl_values.specs.declared.cell.Cell.{Cell}
use Rattle.dl_values.specs.declared.cell.Cell.TheVariants as cell

pub length-every : (count step at : ℕ) (cells : List Cell) → length (every count step at cells) ≡ count
length-every zero step at cells = refl
length-every (suc count) step at cells = ap suc (length-every count step (at + step) cells)

next : (at step column : ℕ) → at + step + column * step ≡ at + suc column * step
next at step column = let e : suc column * step ≡ column * step + step = suc-mul column step in omega arith

first : (at step : ℕ) → at ≡ at + 0 * step
first at step = omega arith

-- the cell of a column
pub every-at : (count step at column : ℕ) (cells : List Cell) → column < count → get_or (every count step at cells) column cell.Null ≡ get_or cells (at + column * step) cell.Null
every-at zero step at column cells l = absurd (omega arith)
every-at (suc count) step at zero cells l = ap (λ n. get_or cells n cell.Null) (first at step)
every-at (suc count) step at (suc column) cells l = every-at count step (at + step) column cells (omega arith) ∙ ap (λ n. get_or cells n cell.Null) (next at step column)

-- cells side by side are as they stand
later : (n at : ℕ) (c : Cell) (cs : List Cell) → every n 1 (suc at) (c ∷ cs) ≡ every n 1 at cs
later zero at c cs = refl
later (suc n) at c cs = ap (λ rest. get_or cs at cell.Null ∷ rest) (ap (λ k. every n 1 k (c ∷ cs)) (one_more at) ∙ later n (at + 1) c cs)
  where
    one_more : (k : ℕ) → suc k + 1 ≡ suc (k + 1)
    one_more k = omega arith

pub every-all : (cells : List Cell) → every (length cells) 1 0 cells ≡ cells
every-all [] = refl
every-all (c ∷ cs) = ap (λ rest. c ∷ rest) (later (length cs) 0 c cs ∙ every-all cs)

-- a place is before the end
pub place-within : (count step at column : ℕ) → column < count → at < step → at + column * step < count * step
place-within count step at column l b =
    let e : suc column * step ≡ column * step + step = suc-mul column step in
    let m : suc column * step ≤ count * step = mul-le-mul_right step l in
    omega arith

-- the cell of a column of a row that is such cells
pub cell-at : (count step at column place : ℕ) (cells row : List Cell) (a : Cell) → every count step at cells ≡ row → column < count → place ≡ at + column * step → place < count * step → count * step ≡ length cells → get_or cells place a ≡ get_or row column cell.Null
cell-at count step at column place cells row a e l p w t =
    get_or_default cells place a cell.Null (subst (λ n. place < n) t w) ∙ ap (λ k. get_or cells k cell.Null) p ∙ sym (every-at count step at column cells l) ∙ ap (λ r. get_or r column cell.Null) e
