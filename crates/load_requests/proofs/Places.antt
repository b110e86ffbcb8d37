-- Fields one by one.
use Rattle.std.proofs.Common.{◌≡◌, ◌+◌, ◌≤◌, ◌<◌, ◌∙◌, ◌||◌, ℕ, zero, suc, Bool, true, false, Some, None, List, [], ◌∷◌, ◌++◌, take, drop, length, sym, ap, arith}
use Rattle.std.specs.Prelude.{slice_get}
use Rattle.std.specs.List.{list_any}
use Rattle.std.proofs.Math.Bool.{or-true}
use Rattle.std.proofs.lemmas.List.{drop_all, take_more}
use Rattle.std.proofs.lemmas.List.Folds.{list_any_more}
use Rattle.std.proofs.lemmas.Option.{slice_get_within, get_or_from_slice_get}
use Rattle.http_wire.specs.Fields.{is_named, values_of}
use Rattle.load_requests.specs.Loads.{first_value, first_of}
use Rattle.load_requests.specs.LoadFields.{fault_behind, field_fault, or_else}
use Rattle.load_requests.proofs.Steps.{Field, cut, named, unnamed}

-- the first value is here
pub here : (name : List ℕ) (fields : List Field) (i : ℕ) (field : Field) → slice_get fields i ≡ Some field → is_named name field ≡ true → first_value name (drop i fields) ≡ first_value name fields → Some field.1 ≡ first_value name fields
unfolding first_value
here name fields i field e passes so = sym (ap first_of (ap (values_of name) (cut fields i field e) ∙ named name field (drop (i + 1) fields) passes)) ∙ so

-- or it is not
pub not_here : (name : List ℕ) (fields : List Field) (i : ℕ) (field : Field) → slice_get fields i ≡ Some field → is_named name field ≡ false → first_value name (drop i fields) ≡ first_value name fields → first_value name (drop (i + 1) fields) ≡ first_value name fields
unfolding first_value
not_here name fields i field e fails so = sym (ap first_of (ap (values_of name) (cut fields i field e) ∙ unnamed name field (drop (i + 1) fields) fails)) ∙ so

pub nowhere : (name : List ℕ) (fields : List Field) (i : ℕ) → length fields ≤ i → first_value name (drop i fields) ≡ first_value name fields → None ≡ first_value name fields
unfolding first_value
nowhere name fields i h so = sym (ap (first_value name) (drop_all i fields h)) ∙ so

-- how many are counted so far, and how many are left
pub record Counted (name : List ℕ) (fields : List Field) (n i : ℕ) : Type 0 where
  pub few : n ≤ i
  pub left : n + length (values_of name (drop i fields)) ≡ length (values_of name fields)

pub one_more : (name : List ℕ) (fields : List Field) (n i : ℕ) (field : Field) → slice_get fields i ≡ Some field → is_named name field ≡ true → Counted name fields n i → Counted name fields (n + 1) (i + 1)
one_more name fields n i field e passes so =
    let cut_here = ap length (ap (values_of name) (cut fields i field e) ∙ named name field (drop (i + 1) fields) passes) in
    record { few = omega (arith, so.few); left = omega (arith, so.left, cut_here) }

pub none_more : (name : List ℕ) (fields : List Field) (n i : ℕ) (field : Field) → slice_get fields i ≡ Some field → is_named name field ≡ false → Counted name fields n i → Counted name fields n (i + 1)
none_more name fields n i field e fails so =
    let cut_here = ap length (ap (values_of name) (cut fields i field e) ∙ unnamed name field (drop (i + 1) fields) fails) in
    record { few = omega (arith, so.few); left = omega (arith, so.left, cut_here) }

pub all_counted : (name : List ℕ) (fields : List Field) (n i : ℕ) → length fields ≤ i → Counted name fields n i → n ≡ length (values_of name fields)
all_counted name fields n i h so =
    let nothing = ap (λ fs. length (values_of name fs)) (drop_all i fields h) in omega (arith, so.left, nothing)

-- one of the first n passes
pub among : {X : Type 0} (p : X → Bool) (xs : List X) (n i : ℕ) (x : X) → slice_get xs i ≡ Some x → i < n → p x ≡ true → true ≡ list_any p (take n xs)
among p [] n i x e h passes = cc
among p (y ∷ xs) zero i x e h passes = absurd (omega arith)
among p (y ∷ xs) (suc n) zero x e h passes = let same : y ≡ x = cc in sym (ap (λ b. b || list_any p (take n xs)) (ap p same ∙ passes))
among p (y ∷ xs) (suc n) (suc i) x e h passes = sym (or-true (p y)) ∙ ap (λ b. p y || b) (among p xs n i x e (omega arith) passes)

-- none of one more does
pub not_among : {X : Type 0} (p : X → Bool) (xs : List X) (i : ℕ) (x : X) → slice_get xs i ≡ Some x → p x ≡ false → list_any p (take i xs) ≡ false → list_any p (take (i + 1) xs) ≡ false
not_among p xs i x e fails so =
    list_any_more p xs i x (slice_get_within xs i x e) ∙ ap (λ y. list_any p (take i xs) || p y) (get_or_from_slice_get xs i x x e) ∙ ap (λ b. list_any p (take i xs) || b) fails ∙ ap (λ b. b || false) so

-- the field at a place is the first at fault
pub at_fault : (fields : List Field) (i : ℕ) (field : Field) (text : List ℕ) → slice_get fields i ≡ Some field → Some text ≡ field_fault (take i fields) field → fault_behind (take i fields) (drop i fields) ≡ fault_behind [] fields → Some text ≡ fault_behind [] fields
unfolding fault_behind
at_fault fields i field text e f so =
    ap (λ fault. or_else fault (fault_behind (take i fields ++ field ∷ []) (drop (i + 1) fields))) f ∙ sym (ap (fault_behind (take i fields)) (cut fields i field e)) ∙ so

-- or it is not at fault
pub not_at_fault : (fields : List Field) (i : ℕ) (field : Field) → slice_get fields i ≡ Some field → None ≡ field_fault (take i fields) field → fault_behind (take i fields) (drop i fields) ≡ fault_behind [] fields → fault_behind (take (i + 1) fields) (drop (i + 1) fields) ≡ fault_behind [] fields
unfolding fault_behind
not_at_fault fields i field e f so =
    let more : take (i + 1) fields ≡ take i fields ++ field ∷ [] = take_more fields i field (slice_get_within fields i field e) ∙ ap (λ y. take i fields ++ y ∷ []) (get_or_from_slice_get fields i field field e) in
    ap (λ before. fault_behind before (drop (i + 1) fields)) more
    ∙ ap (λ fault. or_else fault (fault_behind (take i fields ++ field ∷ []) (drop (i + 1) fields))) f
    ∙ sym (ap (fault_behind (take i fields)) (cut fields i field e)) ∙ so

pub no_fault : (fields : List Field) (i : ℕ) → length fields ≤ i → fault_behind (take i fields) (drop i fields) ≡ fault_behind [] fields → None ≡ fault_behind [] fields
unfolding fault_behind
no_fault fields i h so = sym (ap (fault_behind (take i fields)) (drop_all i fields h)) ∙ so
