-- A loop over a list with separators reads the list.
use Rattle.std.proofs.Common.{◌≡◌, ℕ, zero, suc, true, false, List, [], ◌∷◌, ◌++◌, length, ◌≤◌, ◌<◌, Result, Ok, Err, refl, sym, ap, ◌∙◌, append_assoc, arith}
use Rattle.std.proofs.lemmas.List.{append-nil}
use Rattle.sql_tokens.specs.declared.token.Token.{Token}
use Rattle.sql_grammar.specs.declared.stop.Stop.{Stop}
use Rattle.sql_grammar.specs.declared.stop.Stop.TheVariants as stop
use Rattle.sql_grammar.specs.Marks.{Mark}
use Rattle.sql_grammar.specs.Reading.{bind, is, heads, one, many, more_of, list_from, Fails, ◌>>◌}

abbrev pub with_front : {A : Type 0} → List A → Result (List A × List Token) ℕ → Result (List A × List Token) ℕ
with_front front r = bind r (λ ys. is (front ++ ys))

-- front is read, and rest is left of the whole
pub record Reading {A : Type 0} (mark : Mark) (g : List Token → Result (A × List Token) ℕ) (front : List A) (rest : List Token) (total : Result (List A × List Token) ℕ) : Type 0 where
  pub fuel : ℕ
  pub enough : length rest ≤ fuel
  pub so_far : with_front front (many (one mark) g fuel rest) ≡ total

pub fails : {X Y : Type 0} (e : Stop) (r : Result X ℕ) (s : Result Y ℕ) → ((n : ℕ) → r ≡ Err n → s ≡ Err n) → Fails e r → Fails e s
fails stop.Memory r s h k = tt
fails (stop.Left n) r s h k = h n k

regroup : {A : Type 0} (front : List A) (y : A) (r : Result (List A × List Token) ℕ) → with_front front (bind r (λ xs. is (y ∷ xs))) ≡ with_front (front ++ y ∷ []) r
regroup front y (Ok z) = ap (λ l. Ok (l, z.1)) (sym (append_assoc front (y ∷ []) z.0))
regroup front y (Err n) = refl

module _ {A : Type 0} (mark : Mark) (separator : List Token → Result (Unit {0} × List Token) ℕ) (f : List Token → Result (A × List Token) ℕ) where
  pub begins : (tokens : List Token) (x : A) → Reading mark (separator >> f) (x ∷ []) tokens (list_from mark separator f x tokens)
  unfolding more_of
  begins tokens x = record { fuel = length tokens; enough = omega arith; so_far = refl }

  pub goes_on : (front : List A) (rest after : List Token) (y : A) (last : List Token) (total : Result (List A × List Token) ℕ) → heads (one mark) rest ≡ true → separator rest ≡ Ok (tt, after) → length after < length rest
      → f after ≡ Ok (y, last) → length last < length after → Reading mark (separator >> f) front rest total → Reading mark (separator >> f) (front ++ y ∷ []) last total
  goes_on front rest after y last total h a s b t so = go so.fuel so.enough so.so_far
    where
      go : (fuel : ℕ) → length rest ≤ fuel → with_front front (many (one mark) (separator >> f) fuel rest) ≡ total → Reading mark (separator >> f) (front ++ y ∷ []) last total
      go zero en so = absurd (omega arith)
      go (suc fuel) en so =
          let k : (separator >> f) rest ≡ Ok (y, last) = ap (λ r. bind r (λ _. f)) a ∙ b in
          let u : many (one mark) (separator >> f) (suc fuel) rest ≡ bind (many (one mark) (separator >> f) fuel last) (λ xs. is (y ∷ xs)) = rw (h, k) refl in
          record { fuel = fuel; enough = omega arith; so_far = sym (regroup front y (many (one mark) (separator >> f) fuel last)) ∙ ap (with_front front) (sym u) ∙ so }

  pub fails_after : (front : List A) (rest after : List Token) (total : Result (List A × List Token) ℕ) (n : ℕ) → heads (one mark) rest ≡ true → separator rest ≡ Ok (tt, after) → length after < length rest → f after ≡ Err n
      → Reading mark (separator >> f) front rest total → total ≡ Err n
  fails_after front rest after total n h a s b so = go so.fuel so.enough so.so_far
    where
      go : (fuel : ℕ) → length rest ≤ fuel → with_front front (many (one mark) (separator >> f) fuel rest) ≡ total → total ≡ Err n
      go zero en so = absurd (omega arith)
      go (suc fuel) en so =
          let k : (separator >> f) rest ≡ Err n = ap (λ r. bind r (λ _. f)) a ∙ b in
          let u : many (one mark) (separator >> f) (suc fuel) rest ≡ Err n = rw (h, k) refl in
          sym so ∙ ap (with_front front) u

  pub ends : (front : List A) (rest : List Token) (total : Result (List A × List Token) ℕ) → heads (one mark) rest ≡ false → Reading mark (separator >> f) front rest total → total ≡ Ok (front, rest)
  ends front rest total h so = go so.fuel so.so_far
    where
      go : (fuel : ℕ) → with_front front (many (one mark) (separator >> f) fuel rest) ≡ total → total ≡ Ok (front, rest)
      go zero so = sym so ∙ ap (λ l. Ok (l, rest)) (append-nil front)
      go (suc fuel) so = sym so ∙ ap (with_front front) (let u : many (one mark) (separator >> f) (suc fuel) rest ≡ Ok ([], rest) = rw h refl in u) ∙ ap (λ l. Ok (l, rest)) (append-nil front)
