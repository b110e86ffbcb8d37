-- Counting records one by one is their tally.
use Rattle.std.proofs.Common.{◌≡◌, ℕ, suc, ◌+◌, ◌≤◌, ◌∙◌, List, [], ◌∷◌, ◌++◌, Bool, true, false, cond, Option, Some, None, is_none, refl, sym, ap, arith, length, length-append, append-nil, add-zero, zero-add}
use Rattle.std.specs.List.{filter_map, cons_option, count_by, position_from}
use Rattle.std.proofs.lemmas.List.Elements.{filter_map-append}
use Rattle.std.proofs.lemmas.List.Sums.{sum_by-append, count_by-le-length}
use Rattle.dl_values.specs.declared.cell.Cell.{Cell}
use Rattle.csv_load.specs.declared.parsed.Parsed.{Parsed}
use Rattle.csv_load.specs.Body.{tally}
use Rattle.csv_load.specs.Counting.{nothing, first_or, counted}

abbrev parsed : List (List Cell) → ℕ → ℕ → Option ℕ → Parsed
parsed rows total filtered bad = record { rows = rows; total = total; filtered = filtered; first_bad = bad }

-- the number that was found, or else that of one more record, if it is bad
abbrev first_if : Bool → Option ℕ → ℕ → Option ℕ
first_if true found n = first_or found n
first_if false found n = found

first-push : {R : Type 0} (t : R → Bool) (i : ℕ) (rs : List R) (r : R) → position_from t i (rs ++ r ∷ []) ≡ first_if (t r) (position_from t i rs) (length rs + i)
first-push t i [] r = first-nil (t r) i where
  first-nil : (b : Bool) (i : ℕ) → cond b (Some i) None ≡ first_if b None (0 + i)
  first-nil true i = ap Some (sym (zero-add i))
  first-nil false i = refl
first-push t i (x ∷ rs) r =
    first-cons (t x) (t r) i (suc (length rs) + i) (length rs + (i + 1)) (position_from t (i + 1) (rs ++ r ∷ [])) (position_from t (i + 1) rs) (first-push t (i + 1) rs r) (omega arith)
  where
    first-cons : (a b : Bool) (i n m : ℕ) (more found : Option ℕ) → more ≡ first_if b found m → m ≡ n → cond a (Some i) more ≡ first_if b (cond a (Some i) found) n
    first-cons true true i n m more found h e = refl
    first-cons true false i n m more found h e = refl
    first-cons false b i n m more found h e = h ∙ ap (first_if b found) e

same : (r1 r2 : List (List Cell)) (t1 t2 f1 f2 : ℕ) (b1 b2 : Option ℕ) → r1 ≡ r2 → t1 ≡ t2 → f1 ≡ f2 → b1 ≡ b2
    → parsed r1 t1 f1 b1 ≡ parsed r2 t2 f2 b2
same r1 r2 t1 t2 f1 f2 b1 b2 er et ef eb = rw (er, et, ef, eb) refl

counted-at : (o : Option (List Cell)) (rows : List (List Cell)) (n k : ℕ) (found : Option ℕ)
    → parsed (rows ++ cons_option o []) (n + 1) (k + cond (is_none o) 1 0) (first_if (is_none o) found (n + 1)) ≡ counted (parsed rows n k found) o
counted-at None rows n k found = same (rows ++ []) rows (n + 1) (n + 1) (k + 1) (k + 1) (first_or found (n + 1)) (first_or found (n + 1)) (append-nil rows) refl refl refl
counted-at (Some row) rows n k found = same (rows ++ row ∷ []) (rows ++ row ∷ []) (n + 1) (n + 1) (k + 0) k found found refl refl (add-zero k) refl

pub tally-push : (row_of : List (List ℕ) → Option (List Cell)) (rs : List (List (List ℕ))) (r : List (List ℕ)) → tally row_of (rs ++ r ∷ []) ≡ counted (tally row_of rs) (row_of r)
unfolding tally
tally-push row_of rs r =
    let bad : List (List ℕ) → Bool = λ x. is_none (row_of x) in
    same (filter_map row_of (rs ++ r ∷ [])) (filter_map row_of rs ++ cons_option (row_of r) []) (length (rs ++ r ∷ [])) (length rs + 1)
    (count_by bad (rs ++ r ∷ [])) (count_by bad rs + cond (bad r) 1 0) (position_from bad 1 (rs ++ r ∷ [])) (first_if (bad r) (position_from bad 1 rs) (length rs + 1))
    (filter_map-append row_of rs (r ∷ []))
    (length-append rs (r ∷ []))
    (sum_by-append (λ x. cond (bad x) 1 0) rs (r ∷ []) ∙ ap (λ m. count_by bad rs + m) (zero-add (cond (bad r) 1 0)))
    (first-push bad 1 rs r)
    ∙ counted-at (row_of r) (filter_map row_of rs) (length rs) (count_by bad rs) (position_from bad 1 rs)

pub tally-nothing : (row_of : List (List ℕ) → Option (List Cell)) → nothing ≡ tally row_of []
unfolding tally
tally-nothing row_of = refl

pub total-length : (row_of : List (List ℕ) → Option (List Cell)) (rs : List (List (List ℕ))) (p : Parsed) → p ≡ tally row_of rs → p.total ≡ length rs
unfolding tally
total-length row_of rs p e = ap (λ q. q.total) e

pub filtered-most : (row_of : List (List ℕ) → Option (List Cell)) (rs : List (List (List ℕ))) (p : Parsed) → p ≡ tally row_of rs → p.filtered ≤ p.total
unfolding tally
filtered-most row_of rs p e = rw e (count_by-le-length (λ x. is_none (row_of x)) rs)

-- where no record is left, all are counted
pub tally-all : (row_of : List (List ℕ) → Option (List Cell)) (all seen left : List (List (List ℕ))) (p : Parsed) → all ≡ seen ++ left → left ≡ [] → p ≡ tally row_of seen → p ≡ tally row_of all
tally-all row_of all seen left p e n h = h ∙ ap (tally row_of) (sym (e ∙ ap (λ l. seen ++ l) n ∙ append-nil seen))
