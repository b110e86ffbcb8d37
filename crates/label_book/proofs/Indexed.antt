-- Each change keeps what a book keeps beside its entries.
use Rattle.std.proofs.Common.{◌≡◌, ℕ, Bool, true, false, cond, ◌&&◌, List, [], ◌∷◌, map, filter, Option, Some, None, nat_eq, refl, sym, ◌∙◌, ap, ap₂, subst}
use Rattle.std.specs.Option.{option_map, unwrap_or}
use Rattle.std.specs.Str.{bytes_eq}
use Rattle.std.specs.List.{last_or}
use Rattle.std.specs.List.Sorted.{IsStrictlySortedBy}
use Rattle.std.specs.Map.{keys_of, lookup, remove_entry}
use Rattle.std.specs.Set.{remove_key}
use Rattle.std.specs.BTreeMap.{insert_entry, is_at}
use Rattle.std.specs.BTreeSet.{BTreeSet, insert_key}
use Rattle.std.specs.Ordering.{nat_cmp, match_ordering}
use Rattle.std.specs.declared.cmp.Ordering.{Ordering}
use Rattle.std.specs.declared.cmp.Ordering.TheVariants.{Less, Equal, Greater}
use Rattle.indexmap.specs.IndexMap.{IndexMap}
use Rattle.labels.specs.declared.txn_state.TxnState.{TxnState}
use Rattle.label_book.specs.declared.binding.Binding.{Binding}
use Rattle.label_book.specs.declared.book.Held.{Held}
use Rattle.label_book.specs.declared.label_key.LabelKey.{LabelKey}
use Rattle.label_book.specs.Labels.{holds, last_of, state_of, is_bound, finished, AreAscending}
use Rattle.label_book.specs.Index.{numbers_of, unless_empty, kept_at, numbers_at, HasAt, HasSame, IsIndexed}
use Rattle.label_book.proofs.Kept.{both_equal}
use Rattle.label_book.proofs.Lasts.{find_reverse, last_map}
use Rattle.label_book.proofs.Entries.{bindings_of, ascending_from, passing_put, passing_taken, found_last}

pub numbers_listed : (ns : List ℕ) → unwrap_or (unless_empty ns) [] ≡ ns
numbers_listed [] = refl
numbers_listed (n ∷ ns) = refl

never_empty : (ks : List ℕ) (n : ℕ) → Some (insert_key nat_cmp ks n) ≡ unless_empty (insert_key nat_cmp ks n)
never_empty [] n = refl
never_empty (k ∷ ks) n = go (nat_cmp n k)
  where
    go : (o : Ordering) → Some (match_ordering o (n ∷ k ∷ ks) (k ∷ ks) (k ∷ insert_key nat_cmp ks n)) ≡ unless_empty (match_ordering o (n ∷ k ∷ ks) (k ∷ ks) (k ∷ insert_key nat_cmp ks n))
    go Less = refl
    go Equal = refl
    go Greater = refl

-- a state that changes is no change of numbers
same_numbers : (db label : List ℕ) (n : ℕ) (s : TxnState) (bs : List Binding) → numbers_of db label (map (finished n s) bs) ≡ numbers_of db label bs
same_numbers db label n s [] = refl
same_numbers db label n s (b ∷ bs) = go (nat_eq b.txn n) ∙ ahead (holds db label b) (same_numbers db label n s bs)
  where
    go : (t : Bool) → map (λ (c : Binding). c.txn) (cond (holds db label (cond t (record b { state = s }) b)) (cond t (record b { state = s }) b ∷ filter (holds db label) (map (finished n s) bs)) (filter (holds db label) (map (finished n s) bs)))
        ≡ cond (holds db label b) (b.txn ∷ numbers_of db label (map (finished n s) bs)) (numbers_of db label (map (finished n s) bs))
    go true = elim (holds db label b) as (λ u. map (λ (c : Binding). c.txn) (cond u (record b { state = s } ∷ filter (holds db label) (map (finished n s) bs)) (filter (holds db label) (map (finished n s) bs))) ≡ cond u (b.txn ∷ numbers_of db label (map (finished n s) bs)) (numbers_of db label (map (finished n s) bs))) [ true ↦ refl | false ↦ refl ]
    go false = elim (holds db label b) as (λ u. map (λ (c : Binding). c.txn) (cond u (b ∷ filter (holds db label) (map (finished n s) bs)) (filter (holds db label) (map (finished n s) bs))) ≡ cond u (b.txn ∷ numbers_of db label (map (finished n s) bs)) (numbers_of db label (map (finished n s) bs))) [ true ↦ refl | false ↦ refl ]

    ahead : (u : Bool) → numbers_of db label (map (finished n s) bs) ≡ numbers_of db label bs
        → cond u (b.txn ∷ numbers_of db label (map (finished n s) bs)) (numbers_of db label (map (finished n s) bs)) ≡ map (λ (c : Binding). c.txn) (cond u (b ∷ filter (holds db label) bs) (filter (holds db label) bs))
    ahead true more = ap (λ (ks : List ℕ). b.txn ∷ ks) more
    ahead false more = more

module _ {S : Type 0} where
  -- the numbers at a label are those of its bindings
  pub listed : (bs : List Binding) (all : IndexMap LabelKey (BTreeSet ℕ) S) (db label : List ℕ) → IsIndexed bs all → numbers_at db label all ≡ numbers_of db label bs
  listed bs all db label i = ap (λ (o : Option (List ℕ)). unwrap_or o []) (i.numbers db label) ∙ numbers_listed (numbers_of db label bs)

  pub same_indexed : (bs now : List Binding) (old new : IndexMap LabelKey (BTreeSet ℕ) S) → IsIndexed bs old → now ≡ bs → HasSame old new → IsIndexed now new
  same_indexed bs now old new i is same = rw is (record { ascending = i.ascending; numbers = λ db label. same db label ∙ i.numbers db label })

  pub put_indexed : (es now : List (ℕ × Held)) (n : ℕ) (h : Held) (old new : IndexMap LabelKey (BTreeSet ℕ) S)
      → IsIndexed (bindings_of es) old → is_bound n (bindings_of es) ≡ false → now ≡ insert_entry nat_cmp es n h → IsStrictlySortedBy nat_cmp (keys_of now)
      → HasAt h.db h.label (Some (insert_key nat_cmp (numbers_at h.db h.label old) n)) old new
      → IsIndexed (bindings_of now) new
  put_indexed es now n h old new i f is s has = record {
    ascending = ascending_from now s;
    numbers = λ db label.
        has db label
        ∙ go db label (bytes_eq h.db db && bytes_eq h.label label) refl
        ∙ ap unless_empty (sym (ap (λ (xs : List (ℕ × Held)). numbers_of db label (bindings_of xs)) is ∙ passing_put (holds db label) es n h i.ascending f));
  }
    where
      go : (db label : List ℕ) (t : Bool) → (bytes_eq h.db db && bytes_eq h.label label) ≡ t
          → cond t (Some (insert_key nat_cmp (numbers_at h.db h.label old) n)) (kept_at db label old)
          ≡ unless_empty (cond t (insert_key nat_cmp (numbers_of db label (bindings_of es)) n) (numbers_of db label (bindings_of es)))
      go db label true et =
          let same = both_equal h.db db h.label label et in
          let mine : numbers_at h.db h.label old ≡ numbers_of db label (bindings_of es) = listed (bindings_of es) old h.db h.label i ∙ ap₂ (λ (d l : List ℕ). numbers_of d l (bindings_of es)) same.0 same.1 in
          ap (λ (ks : List ℕ). Some (insert_key nat_cmp ks n)) mine ∙ never_empty (numbers_of db label (bindings_of es)) n
      go db label false et = i.numbers db label

  pub taken_indexed : (es now : List (ℕ × Held)) (n : ℕ) (h : Held) (old new : IndexMap LabelKey (BTreeSet ℕ) S)
      → IsIndexed (bindings_of es) old → lookup (is_at (nat_cmp n)) es ≡ Some h → now ≡ remove_entry (is_at (nat_cmp n)) es → IsStrictlySortedBy nat_cmp (keys_of now)
      → HasAt h.db h.label (unless_empty (remove_key (is_at (nat_cmp n)) (numbers_at h.db h.label old))) old new
      → IsIndexed (bindings_of now) new
  taken_indexed es now n h old new i f is s has = record {
    ascending = ascending_from now s;
    numbers = λ db label.
        has db label
        ∙ go db label (bytes_eq h.db db && bytes_eq h.label label) refl
        ∙ ap unless_empty (sym (ap (λ (xs : List (ℕ × Held)). numbers_of db label (bindings_of xs)) is ∙ passing_taken (holds db label) es n h f));
  }
    where
      go : (db label : List ℕ) (t : Bool) → (bytes_eq h.db db && bytes_eq h.label label) ≡ t
          → cond t (unless_empty (remove_key (is_at (nat_cmp n)) (numbers_at h.db h.label old))) (kept_at db label old)
          ≡ unless_empty (cond t (remove_key (is_at (nat_cmp n)) (numbers_of db label (bindings_of es))) (numbers_of db label (bindings_of es)))
      go db label true et =
          let same = both_equal h.db db h.label label et in
          let mine : numbers_at h.db h.label old ≡ numbers_of db label (bindings_of es) = listed (bindings_of es) old h.db h.label i ∙ ap₂ (λ (d l : List ℕ). numbers_of d l (bindings_of es)) same.0 same.1 in
          ap (λ (ks : List ℕ). unless_empty (remove_key (is_at (nat_cmp n)) ks)) mine
      go db label false et = i.numbers db label

  pub finished_indexed : (es now : List (ℕ × Held)) (n : ℕ) (s : TxnState) (all : IndexMap LabelKey (BTreeSet ℕ) S)
      → IsIndexed (bindings_of es) all → bindings_of now ≡ map (finished n s) (bindings_of es) → IsStrictlySortedBy nat_cmp (keys_of now) → IsIndexed (bindings_of now) all
  finished_indexed es now n s all i is s2 = record {
    ascending = ascending_from now s2;
    numbers = λ db label. i.numbers db label ∙ ap unless_empty (sym (ap (numbers_of db label) is ∙ same_numbers db label n s (bindings_of es)));
  }

  -- the last number at a label is that of its last binding
  pub last_listed : (es : List (ℕ × Held)) (all : IndexMap LabelKey (BTreeSet ℕ) S) (db label : List ℕ) → IsIndexed (bindings_of es) all
      → last_or None (numbers_at db label all) ≡ option_map (λ b. b.txn) (last_of db label (bindings_of es))
  last_listed es all db label i =
      ap (λ (ks : List ℕ). last_or None ks) (listed (bindings_of es) all db label i)
      ∙ last_map (λ (b : Binding). b.txn) None (filter (holds db label) (bindings_of es))
      ∙ ap (option_map (λ (b : Binding). b.txn)) (sym (find_reverse (holds db label) (bindings_of es)))

abbrev pub told : ℕ → TxnState → ℕ × TxnState
told n s = (n, s)

pub none_found : (o : Option Binding) → None ≡ option_map (λ (b : Binding). b.txn) o → None ≡ option_map (λ (b : Binding). told b.txn b.state) o
none_found None h = refl
none_found (Some b) h = absurd (cc)

-- what the last number of a label leads to
pub state_found : (es : List (ℕ × Held)) (db label : List ℕ) (n : ℕ) → AreAscending (bindings_of es) → option_map (λ b. b.txn) (last_of db label (bindings_of es)) ≡ Some n
    → state_of db label (bindings_of es) ≡ option_map (λ (g : Held). told n g.state) (lookup (is_at (nat_cmp n)) es)
state_found es db label n a h = go (last_of db label (bindings_of es)) refl h
  where
    go : (o : Option Binding) → last_of db label (bindings_of es) ≡ o → option_map (λ b. b.txn) o ≡ Some n
        → option_map (λ (b : Binding). told b.txn b.state) o ≡ option_map (λ (g : Held). told n g.state) (lookup (is_at (nat_cmp n)) es)
    go None eo k = absurd (cc)
    go (Some b) eo k =
        let same : b.txn ≡ n = cc in
        let found = found_last (holds db label) es b a (sym (find_reverse (holds db label) (bindings_of es)) ∙ eo) in
        subst (λ (m : ℕ). Some (told b.txn b.state) ≡ option_map (λ (g : Held). told m g.state) (lookup (is_at (nat_cmp m)) es)) same
        (sym (ap (option_map (λ (g : Held). told b.txn g.state)) found))
