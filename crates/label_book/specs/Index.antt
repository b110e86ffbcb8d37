-- How what a book keeps stands to its bindings.
use Rattle.std.specs.Prelude.{◌≡◌, ℕ, Bool, cond, ◌&&◌, List, [], ◌∷◌, map, filter, Option, Some, None}
use Rattle.std.specs.Option.{option_map, unwrap_or}
use Rattle.std.specs.Str.{bytes_eq}
use Rattle.std.specs.BTreeSet.{BTreeSet}
use Rattle.indexmap.specs.IndexMap.{IndexMap, get_by}
use Rattle.label_book.specs.declared.binding.Binding.{Binding}
use Rattle.label_book.specs.declared.book.Held.{Held}
use Rattle.label_book.specs.declared.label_key.LabelKey.{LabelKey}
use Rattle.label_book.specs.Labels.{holds, AreAscending}

-- the binding of a transaction
abbrev pub binding_of : ℕ × Held → Binding
binding_of e = record { db = e.1.db; label = e.1.label; txn = e.0; state = e.1.state }

abbrev pub is_key : List ℕ → List ℕ → LabelKey → Bool
is_key db label k = bytes_eq db k.db && bytes_eq label k.label

-- the numbers of a label, ascending as its bindings do
abbrev pub numbers_of : List ℕ → List ℕ → List Binding → List ℕ
numbers_of db label bindings = map (λ b. b.txn) (filter (holds db label) bindings)

-- what a map has for these numbers: nothing where there are none
abbrev pub unless_empty : List ℕ → Option (List ℕ)
unless_empty [] = None
unless_empty (n ∷ ns) = Some (n ∷ ns)

module _ {S : Type 0} where
  -- what the map has at a label
  abbrev pub kept_at : List ℕ → List ℕ → IndexMap LabelKey (BTreeSet ℕ) S → Option (List ℕ)
  kept_at db label all = option_map (λ s. s.keys) (get_by (is_key db label) all)

  -- the numbers that it has there
  abbrev pub numbers_at : List ℕ → List ℕ → IndexMap LabelKey (BTreeSet ℕ) S → List ℕ
  numbers_at db label all = unwrap_or (kept_at db label all) []

  -- the map has this at a label, and at each other label what it had
  abbrev pub HasAt : List ℕ → List ℕ → Option (List ℕ) → IndexMap LabelKey (BTreeSet ℕ) S → IndexMap LabelKey (BTreeSet ℕ) S → Type 0
  HasAt db label kept old new = (d l : List ℕ) → kept_at d l new ≡ cond (bytes_eq db d && bytes_eq label l) kept (kept_at d l old)

  -- the map has at each label what it had
  abbrev pub HasSame : IndexMap LabelKey (BTreeSet ℕ) S → IndexMap LabelKey (BTreeSet ℕ) S → Type 0
  HasSame old new = (d l : List ℕ) → kept_at d l new ≡ kept_at d l old

pub record IsIndexed {S : Type 0} (bindings : List Binding) (by_label : IndexMap LabelKey (BTreeSet ℕ) S) : Type 0 where
  pub ascending : AreAscending bindings
  pub numbers : (db label : List ℕ) → kept_at db label by_label ≡ unless_empty (numbers_of db label bindings)
