-- The block of a row, and its place there; and a block more.
use Rattle.std.proofs.Common.{◌≡◌, ℕ, suc, ◌+◌, ◌-◌, ◌/◌, ◌%◌, ◌<◌, ◌≤◌, ◌∙◌, ◌⊎◌, inl, inr, List, [], ◌∷◌, ◌++◌, length, get_or, ap, sym, subst, arith, length-append, append-nil, append_assoc, add-one}
use Rattle.std.proofs.lemmas.Bool.{cases_lt}
use Rattle.std.proofs.Math.Nat.{div-eq_of_lt, mod-eq_of_lt, add-mod_left, add-div_left}
use Rattle.std.proofs.lemmas.List.{get_or_append_left, get_or-append_right}
use Rattle.std.specs.List.{AllByRecursion}
use Rattle.columnar.specs.Blocks.{AreFull, all_rows}
use Rattle.dl_values.specs.declared.cell.Cell.{Cell}

abbrev Rows : Type 0
Rows = List (List Cell)

-- where the row at a place stands
pub record StandsIn (blocks : List Rows) (place : ℕ) : Type 0 where
  pub block : place / 1024 < length blocks
  pub at : place % 1024 < length (get_or blocks (place / 1024) [])
  pub is : get_or (get_or blocks (place / 1024) []) (place % 1024) [] ≡ get_or (all_rows blocks) place []

first : (b : Rows) (rest : List Rows) (place : ℕ) → place < length b → length b ≤ 1024 → StandsIn (b ∷ rest) place
first b rest place l full =
    let q : place / 1024 ≡ 0 = div-eq_of_lt (omega arith) in
    let r : place % 1024 ≡ place = mod-eq_of_lt (omega arith) in
    record {
      block = subst (λ k. k < length (b ∷ rest)) (sym q) (omega arith);
      at = subst (λ k. place % 1024 < length (get_or (b ∷ rest) k [])) (sym q) (subst (λ k. k < length b) (sym r) l);
      is = ap (λ k. get_or (get_or (b ∷ rest) k []) (place % 1024) []) q ∙ ap (λ k. get_or b k []) r ∙ sym (get_or_append_left b (all_rows rest) [] place l);
    }

later : (b : Rows) (rest : List Rows) (place n : ℕ) → place ≡ 1024 + n → length b ≡ 1024 → StandsIn rest n → StandsIn (b ∷ rest) place
later b rest place n e full s =
    let q : place / 1024 ≡ suc (n / 1024) = ap (λ k. k / 1024) e ∙ add-div_left n (omega arith) ∙ add-one (n / 1024) in
    let r : place % 1024 ≡ n % 1024 = ap (λ k. k % 1024) e ∙ add-mod_left 1024 n in
    record {
      block = subst (λ k. k < length (b ∷ rest)) (sym q) (omega (arith, s.block));
      at = subst (λ k. place % 1024 < length (get_or (b ∷ rest) k [])) (sym q) (subst (λ k. k < length (get_or rest (n / 1024) [])) (sym r) s.at);
      is = ap (λ k. get_or (get_or (b ∷ rest) k []) (place % 1024) []) q ∙ ap (λ k. get_or (get_or rest (n / 1024) []) k []) r ∙ s.is
          ∙ ap (λ k. get_or (all_rows rest) k []) (less place n e) ∙ sym (get_or-append_right b (all_rows rest) 1024 place [] full (omega (arith, e)));
    }
  where
    less : (p k : ℕ) → p ≡ 1024 + k → k ≡ p - 1024
    less p k h = omega arith

either : (b : Rows) (rest : List Rows) (place : ℕ) → length b ≡ 1024 → (place - 1024 < length (all_rows rest) → StandsIn rest (place - 1024)) → place < length (all_rows (b ∷ rest)) → StandsIn (b ∷ rest) place
either b rest place f next l = go (cases_lt place 1024)
  where
    whole : (k : ℕ) → 1024 ≤ k → k ≡ 1024 + (k - 1024)
    whole k h = omega arith

    behind : (a n p : ℕ) → a ≡ 1024 → 1024 ≤ p → p < a + n → p - 1024 < n
    behind a n p h e t = omega arith

    go : (place < 1024) ⊎ (1024 ≤ place) → StandsIn (b ∷ rest) place
    go (inr e) = later b rest place (place - 1024) (whole place e) f (next (behind (length b) (length (all_rows rest)) place f e (subst (λ n. place < n) (length-append b (all_rows rest)) l)))
    go (inl s) = first b rest place (omega (arith, f)) (omega (arith, f))

pub stands_in : (blocks : List Rows) (place : ℕ) → AreFull blocks → place < length (all_rows blocks) → StandsIn blocks place
stands_in [] place f l = let no : ⊥ = omega arith in absurd no
stands_in (b ∷ []) place f l = first b [] place (subst (λ (x : Rows). place < length x) (append-nil b) l) f.1
stands_in (b ∷ c ∷ rest) place f l = either b (c ∷ rest) place f.0 (λ t. stands_in (c ∷ rest) (place - 1024) f.1 t) l

-- one block more
pub full_push : (blocks : List Rows) (b : Rows) → AllByRecursion (λ (x : Rows). length x ≡ 1024) blocks → 0 < length b → length b ≤ 1024 → AreFull (blocks ++ b ∷ [])
full_push [] b a s f = (s, f)
full_push (x ∷ []) b a s f = (a.0, (s, f))
full_push (x ∷ y ∷ xs) b a s f = (a.0, full_push (y ∷ xs) b a.1 s f)

pub ready_push : (blocks : List Rows) (b : Rows) → AllByRecursion (λ (x : Rows). length x ≡ 1024) blocks → length b ≡ 1024 → AllByRecursion (λ (x : Rows). length x ≡ 1024) (blocks ++ b ∷ [])
ready_push [] b a f = (f, tt)
ready_push (x ∷ xs) b a f = (a.0, ready_push xs b a.1 f)

pub rows_push : (blocks : List Rows) (b : Rows) → all_rows (blocks ++ b ∷ []) ≡ all_rows blocks ++ b
rows_push [] b = append-nil b
rows_push (x ∷ xs) b = ap (λ (r : Rows). x ++ r) (rows_push xs b) ∙ sym (append_assoc x (all_rows xs) b)
