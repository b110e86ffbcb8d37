-- Rows in one list of cells: one more at the end, and the row at a place.
use Rattle.std.proofs.Common.{◌≡◌, ℕ, zero, suc, ◌+◌, ◌-◌, ◌<◌, ◌≤◌, ◌∙◌, List, [], ◌∷◌, ◌++◌, length, take, drop, get_or, refl, ap, ap₂, sym, arith, length-drop, length-append}
use Rattle.std.proofs.lemmas.List.{take-append-le, drop-append-le, drop-drop, drop-take, length-take, take_all}
use Rattle.dl_values.specs.declared.cell.Cell.{Cell}
use Rattle.dl_values.specs.Cuts.{cut, start_of, IsCut}

pub length-cut : (from : ℕ) (ends : List ℕ) (cells : List Cell) → length (cut from ends cells) ≡ length ends
length-cut from [] cells = refl
length-cut from (end ∷ ends) cells = ap suc (length-cut end ends (drop (end - from) cells))

none : (cells : List Cell) → length cells ≡ 0 → cells ≡ []
none [] e = refl
none (c ∷ cs) e = absurd (omega arith)

all : (n : ℕ) (row : List Cell) → n ≡ length row → take n row ≡ row
all n row e = take_all n row (omega arith)

nothing : (n : ℕ) (row : List Cell) → n ≡ length row → length (drop n row) ≡ 0
nothing n row e = simp length-drop (omega arith)

-- one more row
pub cut-push : (from : ℕ) (ends : List ℕ) (cells row : List Cell) (end : ℕ) → IsCut from ends cells → end ≡ from + length cells + length row → cut from (ends ++ end ∷ []) (cells ++ row) ≡ cut from ends cells ++ row ∷ []
cut-push from [] cells row end h e = ap (λ cs. take (end - from) (cs ++ row) ∷ []) (none cells h) ∙ ap (λ r. r ∷ []) (all (end - from) row (omega arith))
cut-push from (d ∷ ds) cells row end h e = ap₂ (λ r rs. r ∷ rs) (take-append-le (d - from) cells row h.1) (ap (λ cs. cut d (ds ++ end ∷ []) cs) (drop-append-le (d - from) cells row h.1) ∙ cut-push d ds (drop (d - from) cells) row end h.2 (simp length-drop (omega arith)))

pub IsCut-push : (from : ℕ) (ends : List ℕ) (cells row : List Cell) (end : ℕ) → IsCut from ends cells → end ≡ from + length cells + length row → IsCut from (ends ++ end ∷ []) (cells ++ row)
IsCut-push from [] cells row end h e = (omega arith, simp length-append (omega arith), simp (length-drop, length-append) (omega arith))
IsCut-push from (d ∷ ds) cells row end h e = (h.0, simp length-append (omega arith), rw (drop-append-le (d - from) cells row h.1) (IsCut-push d ds (drop (d - from) cells) row end h.2 (simp length-drop (omega arith))))

-- the row at a place stands between its start and its end
pub record StandsAt (from : ℕ) (ends : List ℕ) (cells : List Cell) (place : ℕ) : Type 0 where
  pub first : from ≤ start_of from ends place
  pub order : start_of from ends place ≤ get_or ends place 0
  pub within : get_or ends place 0 - from ≤ length cells
  pub row : take (get_or ends place 0 - start_of from ends place) (drop (start_of from ends place - from) cells) ≡ get_or (cut from ends cells) place []

less_itself : (n : ℕ) → n - n ≡ 0
less_itself n = omega arith

two_parts : (from d start : ℕ) → from ≤ d → d ≤ start → start - from ≡ (d - from) + (start - d)
two_parts from d start a b = omega arith

bounded : (from d end n : ℕ) → from ≤ d → d ≤ end → d - from ≤ n → end - d ≤ n - (d - from) → end - from ≤ n
bounded from d end n a b e f = omega arith

more : (from d : ℕ) (ds : List ℕ) (cells : List Cell) (place : ℕ) → from ≤ d → d - from ≤ length cells → StandsAt d ds (drop (d - from) cells) place → StandsAt from (d ∷ ds) cells (suc place)
more from d ds cells place a b next =
    let start : ℕ = start_of d ds place in
    let end : ℕ = get_or ds place 0 in
    let s : d ≤ start = next.first in
    let o : start ≤ end = next.order in
    record {
      first = omega arith;
      order = o;
      within = bounded from d end (length cells) a (omega arith) b (simp length-drop at next.within);
      row = ap (λ n. take (end - start) (drop n cells)) (two_parts from d start a s) ∙ ap (take (end - start)) (sym (drop-drop (start - d) (d - from) cells)) ∙ next.row;
    }

pub stands : (from : ℕ) (ends : List ℕ) (cells : List Cell) (place : ℕ) → IsCut from ends cells → place < length ends → StandsAt from ends cells place
stands from [] cells place h l = absurd (omega arith)
stands from (d ∷ ds) cells zero h l = record { first = omega arith; order = h.0; within = h.1; row = ap (λ n. take (d - from) (drop n cells)) (less_itself from) }
stands from (d ∷ ds) cells (suc place) h l = more from d ds cells place h.0 h.1 (stands d ds (drop (d - from) cells) place h.2 (omega arith))

-- the start of the first row and of a later one
pub start_first : (ends : List ℕ) → 0 ≡ start_of 0 ends 0
start_first [] = refl
start_first (d ∷ ds) = refl

later : (from : ℕ) (ends : List ℕ) (place : ℕ) → suc place < length ends → get_or ends place 0 ≡ start_of from ends (suc place)
later from [] place l = absurd (omega arith)
later from (d ∷ []) place l = absurd (omega arith)
later from (d ∷ e ∷ ds) zero l = refl
later from (d ∷ e ∷ ds) (suc place) l = later d (e ∷ ds) place (omega arith)

pub start_later : (ends : List ℕ) (place : ℕ) → (place ≡ 0 → ⊥) → place < length ends → get_or ends (place - 1) 0 ≡ start_of 0 ends place
start_later ends zero n l = absurd (n refl)
start_later ends (suc place) n l = ap (λ k. get_or ends k 0) (less_one place) ∙ later 0 ends place l
  where
    less_one : (k : ℕ) → suc k - 1 ≡ k
    less_one k = omega arith

-- the row at a place, as the code cuts it out
pub end_within : (ends : List ℕ) (cells : List Cell) (place : ℕ) → IsCut 0 ends cells → place < length ends → get_or ends place 0 ≤ length cells
end_within ends cells place h l = let w : get_or ends place 0 - 0 ≤ length cells = (stands 0 ends cells place h l).within in omega arith

pub start_within : (ends : List ℕ) (cells : List Cell) (place : ℕ) → IsCut 0 ends cells → place < length ends → start_of 0 ends place ≤ get_or ends place 0
start_within ends cells place h l = (stands 0 ends cells place h l).order

part : (start end : ℕ) (cells : List Cell) → start ≤ end → drop start (take end cells) ≡ take (end - start) (drop start cells)
part start end cells h = ap (λ n. drop start (take n cells)) (whole start end h) ∙ drop-take start (end - start) cells
  where
    whole : (s e : ℕ) → s ≤ e → e ≡ s + (e - s)
    whole s e h = omega arith

pub row_is : (ends : List ℕ) (cells : List Cell) (place : ℕ) → IsCut 0 ends cells → place < length ends → drop (start_of 0 ends place) (take (get_or ends place 0) cells) ≡ get_or (cut 0 ends cells) place []
row_is ends cells place h l =
    let s : StandsAt 0 ends cells place = stands 0 ends cells place h l in
    part (start_of 0 ends place) (get_or ends place 0) cells s.order
    ∙ ap (λ n. take (get_or ends place 0 - start_of 0 ends place) (drop n cells)) (sym (less_none (start_of 0 ends place)))
    ∙ s.row
  where
    less_none : (k : ℕ) → k - 0 ≡ k
    less_none k = omega arith

pub length_front : (ends : List ℕ) (cells : List Cell) (place : ℕ) → IsCut 0 ends cells → place < length ends → start_of 0 ends place ≤ length (take (get_or ends place 0) cells)
length_front ends cells place h l =
    let e : get_or ends place 0 ≤ length cells = end_within ends cells place h l in
    let s : start_of 0 ends place ≤ get_or ends place 0 = start_within ends cells place h l in
    simp length-take (omega arith)

-- the end of a row that is put behind the cells
pub end_of : (cells row : List Cell) (held found : List Cell) → held ≡ cells → found ≡ row → length held + length found ≡ 0 + length cells + length row
end_of cells row held found a b = omega (arith, ap length a, ap length b)
