-- One element more of a list, and of what is counted in it.
use Rattle.std.proofs.Common.{◌≡◌, ◌+◌, ◌<◌, ◌≤◌, ◌∙◌, ℕ, suc, Bool, true, false, cond, Some, List, ◌∷◌, drop, get_or, length, filter, map, ap, arith, add-one}
use Rattle.std.specs.Prelude.{slice_get}
use Rattle.std.specs.List.{prefix_len}
use Rattle.std.proofs.lemmas.List.Sums.{prefix_len-drop_yes, prefix_len-drop_no, prefix_len-drop_all}
use Rattle.std.proofs.lemmas.Option.{slice_get_within, get_or_from_slice_get}
use Rattle.std.proofs.Math.Seq.{drop-cons}
use Rattle.http_wire.specs.Fields.{is_named, values_of}

-- a run ends before the first that does not pass
pub stops : {X : Type 0} (p : X → Bool) (xs : List X) (i : ℕ) (d : X) → i < length xs → p (get_or xs i d) ≡ false → prefix_len p xs ≡ i + prefix_len p (drop i xs) → i ≡ prefix_len p xs
stops p xs i d h fails so = let e = prefix_len-drop_no p xs i d h fails in omega (arith, so, e)

pub goes_on : {X : Type 0} (p : X → Bool) (xs : List X) (i : ℕ) (d : X) → i < length xs → p (get_or xs i d) ≡ true → prefix_len p xs ≡ i + prefix_len p (drop i xs) → prefix_len p xs ≡ i + 1 + prefix_len p (drop (i + 1) xs)
goes_on p xs i d h passes so = let e = prefix_len-drop_yes p xs i d h passes in omega (arith, so, e)

pub ends : {X : Type 0} (p : X → Bool) (xs : List X) (i : ℕ) → length xs ≤ i → i ≤ length xs → prefix_len p xs ≡ i + prefix_len p (drop i xs) → length xs ≡ prefix_len p xs
ends p xs i h k so = let e = prefix_len-drop_all p xs i h in omega (arith, so, e)

-- the element at a place stands before the rest
pub cut : {X : Type 0} (xs : List X) (i : ℕ) (x : X) → slice_get xs i ≡ Some x → drop i xs ≡ x ∷ drop (i + 1) xs
cut xs i x e = rw add-one (drop-cons xs i x (slice_get_within xs i x e) ∙ ap (λ y. y ∷ drop (suc i) xs) (get_or_from_slice_get xs i x x e))

abbrev pub Field : Type 0
Field = List ℕ × List ℕ

pub named : (name : List ℕ) (field : Field) (rest : List Field) → is_named name field ≡ true → values_of name (field ∷ rest) ≡ field.1 ∷ values_of name rest
named name field rest e = ap (λ (b : Bool). map (λ (f : Field). f.1) (cond b (field ∷ filter (is_named name) rest) (filter (is_named name) rest))) e

pub unnamed : (name : List ℕ) (field : Field) (rest : List Field) → is_named name field ≡ false → values_of name (field ∷ rest) ≡ values_of name rest
unnamed name field rest e = ap (λ (b : Bool). map (λ (f : Field). f.1) (cond b (field ∷ filter (is_named name) rest) (filter (is_named name) rest))) e
