-- Rows in blocks of 1,024, of which each is searched for a row that passes a test.
use Rattle.std.specs.Prelude.{◌≡◌, ◌+◌, ◌-◌, ◌/◌, ◌%◌, ◌<◌, ◌≤◌, ℕ, zero, suc, Bool, true, false, ◌&&◌, ◌||◌, nat_eq, List, [], ◌∷◌, length, slice_index_or, get_or}
use Rattle.std.proofs.Common.{◌⊎◌, inl, inr, add-one, refl, sym, ap, ◌∙◌, subst, arith}
use Rattle.std.proofs.lemmas.Bool.{cases_lt}
use Rattle.dl_values.specs.declared.cell.Cell.{Cell}
use Rattle.zones.specs.InBlocks.{FindsMatches, row_passes}
use Rattle.zones.specs.declared.test.Test.{Test}

abbrev pub numbers_from : ℕ → List (List Cell) → List ℕ
numbers_from i [] = []
numbers_from i (row ∷ rows) = i / 1024 ∷ numbers_from (i + 1) rows

abbrev pub is_match : List (List Cell) → ℕ → Test → ℕ → Bool
is_match rows block t i = nat_eq (i / 1024) block && row_passes t (slice_index_or rows i [])

-- one of the first n rows stands in the block and passes
abbrev pub may_below : ℕ → List (List Cell) → ℕ → Test → Bool
may_below zero rows block t = false
may_below (suc n) rows block t = may_below n rows block t || is_match rows block t n

abbrev pub may_match : List (List Cell) → ℕ → Test → Bool
may_match rows block t = may_below (length rows) rows block t

number_at : (i k : ℕ) (rows : List (List Cell)) → k < length rows → get_or (numbers_from i rows) k 0 ≡ (i + k) / 1024
number_at i k [] l = absurd (omega arith)
number_at i zero (row ∷ rows) l = ap (λ n. n / 1024) (same i)
  where
    same : (n : ℕ) → n ≡ n + 0
    same n = omega arith
number_at i (suc k) (row ∷ rows) l = number_at (i + 1) k rows (omega arith) ∙ ap (λ n. n / 1024) (further i k)
  where
    further : (n m : ℕ) → n + 1 + m ≡ n + suc m
    further n m = omega arith

pub number_of : (rows : List (List Cell)) (i : ℕ) → i < length rows → get_or (numbers_from 0 rows) i 0 ≡ i / 1024
number_of rows i l = number_at 0 i rows l ∙ ap (λ n. n / 1024) (same i)
  where
    same : (n : ℕ) → 0 + n ≡ n
    same n = omega arith

pub same_block : (place end i : ℕ) → end ≤ place - place % 1024 + 1024 → place ≤ i → i < end → i / 1024 ≡ place / 1024
same_block place end i a b c = omega arith

pub one_more : (n : ℕ) (rows : List (List Cell)) (block : ℕ) (t : Test) → may_below n rows block t ≡ false → is_match rows block t n ≡ false → may_below (n + 1) rows block t ≡ false
one_more n rows block t a b = ap (λ k. may_below k rows block t) (add-one n) ∙ neither (may_below n rows block t) (is_match rows block t n) a b
  where
    neither : (a b : Bool) → a ≡ false → b ≡ false → (a || b) ≡ false
    neither true b e f = e
    neither false b e f = f

later : (a b : Bool) → a ≡ true → (a || b) ≡ true
later true b e = refl
later false b e = cc

here : (a b : Bool) → b ≡ true → (a || b) ≡ true
here true b e = refl
here false b e = e

matches : (rows : List (List Cell)) (block : ℕ) (t : Test) (i : ℕ) → i / 1024 ≡ block → row_passes t (get_or rows i []) ≡ true → is_match rows block t i ≡ true
matches rows block t i e h = grind (arith, e, h)

pub found : (n : ℕ) (rows : List (List Cell)) (block : ℕ) (t : Test) (i : ℕ) → i < n → is_match rows block t i ≡ true → may_below n rows block t ≡ true
found zero rows block t i l h = absurd (omega (arith, l))
found (suc n) rows block t i l h = go (λ a. found n rows block t i a h) (cases_lt i n)
  where
    go : (i < n → may_below n rows block t ≡ true) → (i < n) ⊎ (n ≤ i) → may_below (suc n) rows block t ≡ true
    go rest (inl a) = later (may_below n rows block t) (is_match rows block t n) (rest a)
    go rest (inr a) = here (may_below n rows block t) (is_match rows block t n) (ap (is_match rows block t) same ∙ h)
      where
        same : n ≡ i
        same = omega (arith, l, a)

pub block_finds : (rows : List (List Cell)) (block : ℕ) (t : Test) → FindsMatches rows (numbers_from 0 rows) block t (may_match rows block t)
block_finds rows block t i l at p = found (length rows) rows block t i l (matches rows block t i (sym (number_of rows i l) ∙ at) p)
