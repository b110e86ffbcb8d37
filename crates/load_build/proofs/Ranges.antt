-- Lists over a range of numbers.
use Rattle.std.proofs.Common.{◌≡◌, ◌∙◌, ℕ, zero, suc, ◌+◌, ◌<◌, Bool, true, false, ◌||◌, List, [], ◌∷◌, ◌++◌, map, refl, sym, ap, arith, slice_set, nat_eq}
use Rattle.std.proofs.lemmas.Bool.Decides.{nat_tests}
use Rattle.std.proofs.lemmas.List.FromFn.{map-range_with_len_more}
use Rattle.std.specs.List.{list_any, range_with_len}
use Rattle.load_build.specs.PartLists.{empty_lists, no_lists, no_parts, no_rows}

-- two functions that differ at one number only
module _ {X : Type 0} (f g : ℕ → X) (i : ℕ) (apart : (p : ℕ) → nat_eq p i ≡ false → f p ≡ g p) where
  map_past : (a n : ℕ) → i < a → map f (range_with_len a n) ≡ map g (range_with_len a n)
  map_past a zero h = refl
  map_past a (suc n) h =
      let e : nat_eq a i ≡ false = grind (arith, nat_tests) in
      let head : f a ≡ g a = apart a e in
      let rest : map f (range_with_len (a + 1) n) ≡ map g (range_with_len (a + 1) n) = map_past (a + 1) n (omega arith) in
      λ j. head j ∷ rest j

  set_from : (a n k : ℕ) (x : X) → a + k ≡ i → (k < n → x ≡ g i) → slice_set (map f (range_with_len a n)) k x ≡ map g (range_with_len a n)
  set_from a zero k x here h = refl
  set_from a (suc n) zero x here h =
      let same : a ≡ i = omega (arith, here) in
      let head : x ≡ g a = h (omega arith) ∙ ap g (sym same) in
      let rest : map f (range_with_len (a + 1) n) ≡ map g (range_with_len (a + 1) n) = map_past (a + 1) n (omega (arith, same)) in
      λ j. head j ∷ rest j
  set_from a (suc n) (suc k) x here h =
      let e : nat_eq a i ≡ false = grind (arith, nat_tests) in
      let head : f a ≡ g a = apart a e in
      let next : a + 1 + k ≡ i = omega (arith, here) in
      let rest : slice_set (map f (range_with_len (a + 1) n)) k x ≡ map g (range_with_len (a + 1) n) = set_from (a + 1) n k x next (λ lt. h (omega (arith, lt))) in
      λ j. head j ∷ rest j

pub set_range : {X : Type 0} (f g : ℕ → X) (i n : ℕ) (x : X) → ((p : ℕ) → nat_eq p i ≡ false → f p ≡ g p) → (i < n → x ≡ g i) → slice_set (map f (range_with_len 0 n)) i x ≡ map g (range_with_len 0 n)
set_range f g i n x apart h = set_from f g i apart 0 n i x (omega arith) h

pub map_same : {X : Type 0} (f g : ℕ → X) → ((p : ℕ) → f p ≡ g p) → (ps : List ℕ) → map f ps ≡ map g ps
map_same f g h [] = refl
map_same f g h (p ∷ ps) =
    let head : f p ≡ g p = h p in
    let rest : map f ps ≡ map g ps = map_same f g h ps in
    λ j. head j ∷ rest j

or_false : (b : Bool) → (b || false) ≡ b
or_false true = refl
or_false false = refl

-- whether one passes, with one more behind the others
pub any_more : {X : Type 0} (q : X → Bool) (xs : List X) (x : X) → list_any q (xs ++ x ∷ []) ≡ (list_any q xs || q x)
any_more q [] x = or_false (q x)
any_more q (y ∷ ys) x = go (q y) (any_more q ys x)
  where
    go : (b : Bool) → list_any q (ys ++ x ∷ []) ≡ (list_any q ys || q x) → (b || list_any q (ys ++ x ∷ [])) ≡ ((b || list_any q ys) || q x)
    go true h = refl
    go false h = h

pub or_true : (b : Bool) → (b || true) ≡ true
or_true true = refl
or_true false = refl

pub empty_more : (n : ℕ) → empty_lists (n + 1) ≡ empty_lists n ++ [] ∷ []
empty_more n = map-range_with_len_more no_rows 0 n n (omega arith)

pub parts_more : (n : ℕ) → no_parts (n + 1) ≡ no_parts n ++ no_lists n ∷ []
parts_more n = map-range_with_len_more no_lists 0 n n (omega arith)
