-- Looking for a field one by one.
use Rattle.std.proofs.Common.{◌≡◌, ◌+◌, ◌||◌, ◌∙◌, ℕ, suc, Bool, true, false, Some, List, [], ◌∷◌, take, drop, sym, ap}
use Rattle.std.specs.Prelude.{slice_get}
use Rattle.std.proofs.lemmas.List.Folds.{list_any-append}
use Rattle.std.proofs.Math.Bool.{or-true}
use Rattle.http_wire.specs.Fields.{has_field, says}
use Rattle.http_wire.proofs.LengthFacts.{cut, first-more}

-- the field is the one that is looked for
pub here : (name value : List ℕ) (fields : List (List ℕ × List ℕ)) (i : ℕ) (field : List ℕ × List ℕ) → slice_get fields i ≡ Some field → says name value field ≡ true → has_field name value fields ≡ true
here name value fields i field e matches =
    ap (has_field name value) (sym (cut fields i field e)) ∙ list_any-append (says name value) (take i fields) (field ∷ drop (suc i) fields)
    ∙ ap (λ (b : Bool). has_field name value (take i fields) || (b || has_field name value (drop (suc i) fields))) matches ∙ or-true (has_field name value (take i fields))

-- it is not among one more
pub not-here : (name value : List ℕ) (fields : List (List ℕ × List ℕ)) (i : ℕ) (field : List ℕ × List ℕ) → slice_get fields i ≡ Some field → says name value field ≡ false
    → has_field name value (take i fields) ≡ false → has_field name value (take (i + 1) fields) ≡ false
not-here name value fields i field e no-one before =
    ap (has_field name value) (first-more fields i field e) ∙ list_any-append (says name value) (take i fields) (field ∷ [])
    ∙ ap (λ (b : Bool). has_field name value (take i fields) || (b || false)) no-one ∙ ap (λ (b : Bool). b || (false || false)) before
