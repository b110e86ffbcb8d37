-- How the index of a book stands to its bindings.
use Rattle.std.specs.Prelude.{◌≡◌, ◌<◌, ℕ, zero, suc, Bool, false, cond, ◌&&◌, List, [], ◌∷◌, Option, Some, None, MatchOption, length, slice_get, nat_eq}
use Rattle.std.specs.Option.{option_map}
use Rattle.std.specs.Str.{bytes_eq}
use Rattle.indexmap.specs.IndexMap.{IndexMap, get_by}
use Rattle.labels.specs.declared.binding.Binding.{Binding}
use Rattle.labels.specs.declared.label_key.LabelKey.{LabelKey}
use Rattle.labels.specs.Labels.{is_bound, last_of}

abbrev pub is_key : List ℕ → List ℕ → LabelKey → Bool
is_key db label k = bytes_eq db k.db && bytes_eq label k.label

-- the place of the binding of a transaction
abbrev pub place_in : ℕ → List Binding → Option ℕ
place_in txn [] = None
place_in txn (b ∷ bs) = cond (nat_eq b.txn txn) (Some zero) (option_map suc (place_in txn bs))

-- the last binding of a label has that place, or there is none
abbrev pub IsLast : List ℕ → List ℕ → List Binding → Option ℕ → Type 0
IsLast db label bindings place = MatchOption place (last_of db label bindings ≡ None) (λ i. (i < length bindings) × (slice_get bindings i ≡ last_of db label bindings))

-- each transaction is bound once
abbrev pub AreApart : List Binding → Type 0
AreApart [] = Unit {0}
AreApart (b ∷ bs) = (is_bound b.txn bs ≡ false) × AreApart bs

pub record IsIndexed {S R : Type 0} (bindings : List Binding) (last : IndexMap LabelKey ℕ S) (places : IndexMap ℕ ℕ R) : Type 0 where
  pub last_is : (db label : List ℕ) → IsLast db label bindings (get_by (is_key db label) last)
  pub place_is : (txn : ℕ) → get_by (nat_eq txn) places ≡ place_in txn bindings
  pub apart : AreApart bindings
