-- The columns as far as they were read.
use Rattle.std.proofs.Common.{◌≡◌, ◌≤◌, ◌<◌, ◌+◌, ◌∙◌, min, ℕ, List, [], ◌∷◌, ◌++◌, map, take, length, get_or, sym, ap, arith}
use Rattle.std.specs.List.{zip}
use Rattle.std.proofs.lemmas.List.{take_all, map_more, map-append}
use Rattle.std.proofs.lemmas.Slice.Zip.{length-zip, get_or-zip}

pub one_more : {D : Type 0} (f : (List ℕ × List ℕ) → D) (names types : List (List ℕ)) (i : ℕ) (name kind : List ℕ) → i < length names → i < length types → name ≡ get_or names i name → kind ≡ get_or types i kind
    → map f (take (i + 1) (zip names types)) ≡ map f (take i (zip names types)) ++ f (name, kind) ∷ []
one_more f names types i name kind h k en ek =
    let within : i < length (zip names types) = omega (arith, length-zip names types) in
    let pair : get_or (zip names types) i (name, kind) ≡ (name, kind) = get_or-zip names types i (name, kind) h k ∙ ap (λ n. (n, get_or types i kind)) (sym en) ∙ ap (λ t. (name, t)) (sym ek) in
    map_more f (zip names types) i (name, kind) within ∙ ap (λ p. map f (take i (zip names types)) ++ f p ∷ []) pair

pub all_columns : {D : Type 0} (f : (List ℕ × List ℕ) → D) (names types : List (List ℕ)) (i : ℕ) → min (length names) (length types) ≤ i → map f (take i (zip names types)) ≡ map f (zip names types)
all_columns f names types i h = ap (map f) (take_all i (zip names types) (omega (arith, length-zip names types)))

-- one more item, which is seen as d
pub pushed : {V D : Type 0} (v : V → D) (items new : List V) (x : V) (before : List D) (d : D) → new ≡ items ++ x ∷ [] → map v items ≡ before → v x ≡ d → map v new ≡ before ++ d ∷ []
pushed v items new x before d en eb ed =
    ap (map v) en ∙ map-append v items (x ∷ []) ∙ ap (λ ds. ds ++ v x ∷ []) eb ∙ ap (λ y. before ++ y ∷ []) ed
