-- The last item of a list, and of what a test keeps of it.
use Rattle.std.proofs.Common.{◌≡◌, ◌<◌, ◌-◌, Bool, true, false, cond, List, [], ◌∷◌, ◌++◌, map, reverse, length, Option, Some, None, find, filter, slice_get, refl, sym, ◌∙◌, ap, arith, IsSome, IfSome, ◌↔◌}
use Rattle.std.specs.List.{last_or}
use Rattle.std.specs.Option.{option_map}
use Rattle.std.proofs.lemmas.List.{reverse-append}

module _ {A : Type 0} where
  -- the first, or else the second
  abbrev pub otherwise : Option A → Option A → Option A
  otherwise None o = o
  otherwise (Some x) o = Some x

  last_otherwise : (o : Option A) (xs : List A) → last_or o xs ≡ otherwise (last_or None xs) o
  last_otherwise o [] = refl
  last_otherwise o (x ∷ xs) = go (last_or (Some x) xs) (last_or None xs) (last_otherwise (Some x) xs)
    where
      go : (u v : Option A) → u ≡ otherwise v (Some x) → u ≡ otherwise u o
      go None None h = absurd (cc)
      go None (Some y) h = absurd (cc)
      go (Some z) v h = refl

  find_after : (p : A → Bool) (xs : List A) (b : A) → find p (xs ++ b ∷ []) ≡ otherwise (find p xs) (cond (p b) (Some b) None)
  find_after p [] b = refl
  find_after p (x ∷ xs) b = go (p x) (find_after p xs b)
    where
      go : (t : Bool) → find p (xs ++ b ∷ []) ≡ otherwise (find p xs) (cond (p b) (Some b) None) → cond t (Some x) (find p (xs ++ b ∷ [])) ≡ otherwise (cond t (Some x) (find p xs)) (cond (p b) (Some b) None)
      go true more = refl
      go false more = more

  -- the first of the reverse that passes is the last of those that do
  pub find_reverse : (p : A → Bool) (bs : List A) → find p (reverse bs) ≡ last_or None (filter p bs)
  find_reverse p [] = refl
  find_reverse p (b ∷ bs) = ap (find p) (reverse-append (b ∷ []) bs) ∙ find_after p (reverse bs) b ∙ ap (λ o. otherwise o (cond (p b) (Some b) None)) (find_reverse p bs) ∙ go (p b)
    where
      go : (t : Bool) → otherwise (last_or None (filter p bs)) (cond t (Some b) None) ≡ last_or None (cond t (b ∷ filter p bs) (filter p bs))
      go true = sym (last_otherwise (Some b) (filter p bs))
      go false = sym (last_otherwise None (filter p bs))

  pub last_map : {B : Type 0} (f : A → B) (o : Option A) (xs : List A) → last_or (option_map f o) (map f xs) ≡ option_map f (last_or o xs)
  last_map f o [] = refl
  last_map f o (x ∷ xs) = last_map f (Some x) xs

  last_at : (x : A) (xs : List A) → slice_get (x ∷ xs) (length xs) ≡ last_or (Some x) xs
  last_at x [] = refl
  last_at x (y ∷ ys) = last_at y ys

  -- what a set of these keys answers for its last
  pub last_found : (ks : List A) (r : Option A) → (IsSome r ↔ (0 < length ks)) → IfSome r (λ k. slice_get ks (length ks - 1) ≡ Some k) → r ≡ last_or None ks
  last_found [] None h g = refl
  last_found [] (Some k) h g = absurd (let z = h.0 refl in omega arith)
  last_found (x ∷ xs) None h g = absurd (let z = h.1 (omega arith) in cc)
  last_found (x ∷ xs) (Some k) h g = sym g ∙ ap (slice_get (x ∷ xs)) (let e : length (x ∷ xs) - 1 ≡ length xs = omega arith in e) ∙ last_at x xs
