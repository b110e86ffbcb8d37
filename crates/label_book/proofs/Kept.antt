-- What a change of the map leaves at each label.
use Rattle.std.proofs.Common.{◌≡◌, ℕ, Bool, true, false, cond, ◌&&◌, List, [], ◌∷◌, length, Option, Some, None, Result, Ok, Err, OnErr, refl, sym, ◌∙◌, ap, ap₂, subst}
use Rattle.std.specs.Option.{option_map, unwrap_or}
use Rattle.std.specs.Str.{bytes_eq}
use Rattle.std.specs.Set.{remove_key}
use Rattle.std.specs.BTreeSet.{BTreeSet, insert_key}
use Rattle.std.specs.Ordering.{nat_cmp}
use Rattle.std.proofs.lemmas.Slice.Eq.{bytes_eq-Decides}
use Rattle.indexmap.specs.IndexMap.{IndexMap, get_by}
use Rattle.label_book.specs.declared.label_key.LabelKey.{LabelKey}
use Rattle.label_book.specs.Index.{is_key, unless_empty, kept_at, numbers_at, HasAt, HasSame}

pub on_err : {T E P : Type 0} (r : Result T E) → P → OnErr r P
on_err (Ok x) p = tt
on_err (Err e) p = p

-- equal names are one
pub both_equal : (db d label l : List ℕ) → (bytes_eq db d && bytes_eq label l) ≡ true → (db ≡ d) × (label ≡ l)
both_equal db d label l h = go (bytes_eq db d) refl (bytes_eq label l) refl h
  where
    go : (s : Bool) → bytes_eq db d ≡ s → (t : Bool) → bytes_eq label l ≡ t → (s && t) ≡ true → (db ≡ d) × (label ≡ l)
    go true es true et k = ((bytes_eq-Decides db d).0 es, (bytes_eq-Decides label l).0 et)
    go true es false et k = absurd (cc)
    go false es t et k = absurd (cc)

unless_some : (ks : List ℕ) → (length ks ≡ 0 → ⊥) → Some ks ≡ unless_empty ks
unless_some [] h = absurd (h refl)
unless_some (k ∷ ks) h = refl

is_empty : (ks : List ℕ) → length ks ≡ 0 → ks ≡ []
is_empty [] h = refl
is_empty (k ∷ ks) h = absurd (cc)

module _ {S : Type 0} where
  -- the map has that set, or none, at a label, and at each other label what it had
  abbrev pub Gets : List ℕ → List ℕ → Option (BTreeSet ℕ) → IndexMap LabelKey (BTreeSet ℕ) S → IndexMap LabelKey (BTreeSet ℕ) S → Type 0
  Gets db label o old new = (q : LabelKey) → get_by (is_key q.db q.label) new ≡ cond (is_key db label q) o (get_by (is_key q.db q.label) old)

  kept_after : (db label : List ℕ) (o : Option (BTreeSet ℕ)) (old new : IndexMap LabelKey (BTreeSet ℕ) S) → Gets db label o old new → HasAt db label (option_map (λ s. s.keys) o) old new
  kept_after db label o old new h d l = ap (option_map (λ (s : BTreeSet ℕ). s.keys)) (h (record { db = d; label = l })) ∙ go (bytes_eq db d && bytes_eq label l)
    where
      go : (t : Bool) → option_map (λ (s : BTreeSet ℕ). s.keys) (cond t o (get_by (is_key d l) old)) ≡ cond t (option_map (λ (s : BTreeSet ℕ). s.keys) o) (kept_at d l old)
      go true = refl
      go false = refl

  pub numbers_there : (db label : List ℕ) (old : IndexMap LabelKey (BTreeSet ℕ) S) (o : Option (BTreeSet ℕ)) → o ≡ get_by (is_key db label) old → numbers_at db label old ≡ unwrap_or (option_map (λ s. s.keys) o) []
  numbers_there db label old o h = ap (λ (u : Option (BTreeSet ℕ)). unwrap_or (option_map (λ s. s.keys) u) []) (sym h)

  -- a number more in the set of a label
  pub more_kept : (db label : List ℕ) (old new : IndexMap LabelKey (BTreeSet ℕ) S) (n : ℕ) (s w : BTreeSet ℕ)
      → Gets db label (Some w) old new → Some s ≡ get_by (is_key db label) old → w.keys ≡ insert_key nat_cmp s.keys n
      → HasAt db label (Some (insert_key nat_cmp (numbers_at db label old) n)) old new
  more_kept db label old new n s w h there is =
      subst (λ (ks : List ℕ). HasAt db label (Some ks) old new) (is ∙ ap (λ (ks : List ℕ). insert_key nat_cmp ks n) (sym (numbers_there db label old (Some s) there))) (kept_after db label (Some w) old new h)

  -- the first number of a label
  pub first_kept : (db label : List ℕ) (old new : IndexMap LabelKey (BTreeSet ℕ) S) (n : ℕ) (s w : BTreeSet ℕ)
      → Gets db label (Some w) old new → None ≡ get_by (is_key db label) old → s.keys ≡ [] → w.keys ≡ insert_key nat_cmp s.keys n
      → HasAt db label (Some (insert_key nat_cmp (numbers_at db label old) n)) old new
  first_kept db label old new n s w h there none is =
      subst (λ (ks : List ℕ). HasAt db label (Some ks) old new) (is ∙ ap (λ (ks : List ℕ). insert_key nat_cmp ks n) (none ∙ sym (numbers_there db label old None there))) (kept_after db label (Some w) old new h)

  -- the set of a label, as it was
  pub same_kept : (db label : List ℕ) (old new : IndexMap LabelKey (BTreeSet ℕ) S) (s w : BTreeSet ℕ)
      → Gets db label (Some w) old new → Some s ≡ get_by (is_key db label) old → w.keys ≡ s.keys → HasSame old new
  same_kept db label old new s w h there is d l = kept_after db label (Some w) old new h d l ∙ go (bytes_eq db d && bytes_eq label l) refl
    where
      go : (t : Bool) → (bytes_eq db d && bytes_eq label l) ≡ t → cond t (Some w.keys) (kept_at d l old) ≡ kept_at d l old
      go true et =
          let same = both_equal db d label l et in
          ap Some is ∙ ap (option_map (λ (v : BTreeSet ℕ). v.keys)) there ∙ ap₂ (λ (d l : List ℕ). kept_at d l old) same.0 same.1
      go false et = refl

  -- a number less in the set of a label, which has others
  pub less_kept : (db label : List ℕ) (old new : IndexMap LabelKey (BTreeSet ℕ) S) (t : ℕ → Bool) (s w : BTreeSet ℕ)
      → Gets db label (Some w) old new → Some s ≡ get_by (is_key db label) old → w.keys ≡ remove_key t s.keys → (length w.keys ≡ 0 → ⊥)
      → HasAt db label (unless_empty (remove_key t (numbers_at db label old))) old new
  less_kept db label old new t s w h there is some =
      subst (λ (o : Option (List ℕ)). HasAt db label o old new)
      (unless_some w.keys some ∙ ap unless_empty (is ∙ ap (remove_key t) (sym (numbers_there db label old (Some s) there))))
      (kept_after db label (Some w) old new h)

  gone : (db label : List ℕ) (old mid new : IndexMap LabelKey (BTreeSet ℕ) S) (o : Option (List ℕ)) → HasAt db label o old mid → HasAt db label None mid new → HasAt db label None old new
  gone db label old mid new o first after d l = after d l ∙ ap (cond (bytes_eq db d && bytes_eq label l) None) (first d l) ∙ go (bytes_eq db d && bytes_eq label l)
    where
      go : (t : Bool) → cond t None (cond t o (kept_at d l old)) ≡ cond t None (kept_at d l old)
      go true = refl
      go false = refl

  -- the last number of a label less
  pub none_kept : (db label : List ℕ) (old mid new : IndexMap LabelKey (BTreeSet ℕ) S) (t : ℕ → Bool) (s w : BTreeSet ℕ)
      → Gets db label (Some w) old mid → Some s ≡ get_by (is_key db label) old → w.keys ≡ remove_key t s.keys → length w.keys ≡ 0 → Gets db label None mid new
      → HasAt db label (unless_empty (remove_key t (numbers_at db label old))) old new
  none_kept db label old mid new t s w h there is none after =
      subst (λ (o : Option (List ℕ)). HasAt db label o old new)
      (ap unless_empty (sym (is_empty w.keys none) ∙ is ∙ ap (remove_key t) (sym (numbers_there db label old (Some s) there))))
      (gone db label old mid new (Some w.keys) (kept_after db label (Some w) old mid h) (kept_after db label None mid new after))

  -- nothing was there
  pub nothing_kept : (db label : List ℕ) (old new : IndexMap LabelKey (BTreeSet ℕ) S) (t : ℕ → Bool) → None ≡ get_by (is_key db label) old → Gets db label None old new
      → HasAt db label (unless_empty (remove_key t (numbers_at db label old))) old new
  nothing_kept db label old new t there h =
      subst (λ (o : Option (List ℕ)). HasAt db label o old new)
      (ap (λ (ks : List ℕ). unless_empty (remove_key t ks)) (sym (numbers_there db label old None there)))
      (kept_after db label None old new h)
