-- Binding and finishing keep the index.
use Rattle.std.proofs.Common.{◌≡◌, ◌<◌, ℕ, zero, suc, Bool, true, false, cond, ◌||◌, List, [], ◌∷◌, ◌++◌, map, reverse, length, Option, Some, None, find, slice_get, slice_set, nat_eq, refl, sym, ◌∙◌, ap, subst, arith}
use Rattle.std.specs.Option.{option_map}
use Rattle.std.proofs.lemmas.Bool.Decides.{nat_tests}
use Rattle.std.proofs.lemmas.List.{reverse-append}
use Rattle.std.proofs.lemmas.Option.{slice_get-map}
use Rattle.std.proofs.lemmas.List.Folds.{list_any-append}
use Rattle.indexmap.proofs.ReorderLemmas.{map-reverse}
use Rattle.indexmap.specs.IndexMap.{IndexMap, get_by}
use Rattle.labels.specs.declared.txn_state.TxnState.{TxnState}
use Rattle.labels.specs.declared.binding.Binding.{Binding}
use Rattle.labels.specs.declared.label_key.LabelKey.{LabelKey}
use Rattle.labels.specs.Labels.{holds, last_of, is_bound, finished}
use Rattle.labels.specs.Index.{is_key, place_in, IsLast, AreApart, IsIndexed}

-- A binding more.
get_before : (bs : List Binding) (b : Binding) (i : ℕ) → i < length bs → slice_get (bs ++ b ∷ []) i ≡ slice_get bs i
get_before [] b i lt = absurd (omega (arith, lt))
get_before (x ∷ bs) b zero lt = refl
get_before (x ∷ bs) b (suc i) lt = get_before bs b i (omega (arith, lt))

get_last : (bs : List Binding) (b : Binding) → slice_get (bs ++ b ∷ []) (length bs) ≡ Some b
get_last [] b = refl
get_last (x ∷ bs) b = get_last bs b

longer : (bs : List Binding) (b : Binding) → length (bs ++ b ∷ []) ≡ suc (length bs)
longer [] b = refl
longer (x ∷ bs) b = ap suc (longer bs b)

last_with : (db label : List ℕ) (bs : List Binding) (b : Binding) → last_of db label (bs ++ b ∷ []) ≡ cond (holds db label b) (Some b) (last_of db label bs)
last_with db label bs b = ap (find (holds db label)) (reverse-append bs (b ∷ []))

last_stays : (db label : List ℕ) (bs : List Binding) (b : Binding) (place : Option ℕ) → holds db label b ≡ false → IsLast db label bs place → IsLast db label (bs ++ b ∷ []) place
last_stays db label bs b None other h = last_with db label bs b ∙ ap (λ (t : Bool). cond t (Some b) (last_of db label bs)) other ∙ h
last_stays db label bs b (Some i) other h = (
  let n = longer bs b in let k = h.0 in omega (arith, n, k),
  get_before bs b i h.0 ∙ h.1 ∙ sym (last_with db label bs b ∙ ap (λ (t : Bool). cond t (Some b) (last_of db label bs)) other),
)

last_here : (db label : List ℕ) (bs : List Binding) (b : Binding) → holds db label b ≡ true → IsLast db label (bs ++ b ∷ []) (Some (length bs))
last_here db label bs b mine = (
  let n = longer bs b in omega (arith, n),
  get_last bs b ∙ sym (last_with db label bs b ∙ ap (λ (t : Bool). cond t (Some b) (last_of db label bs)) mine),
)

last_after : (db label : List ℕ) (bs : List Binding) (b : Binding) (place : Option ℕ) (mine : Bool) → holds db label b ≡ mine → IsLast db label bs place → IsLast db label (bs ++ b ∷ []) (cond mine (Some (length bs)) place)
last_after db label bs b place true e h = last_here db label bs b e
last_after db label bs b place false e h = last_stays db label bs b place e h

not_bound : (txn : ℕ) (bs : List Binding) → is_bound txn bs ≡ false → place_in txn bs ≡ None
not_bound txn [] h = refl
not_bound txn (b ∷ bs) h = go (nat_eq b.txn txn) h (not_bound txn bs)
  where
    go : (t : Bool) → (t || is_bound txn bs) ≡ false → (is_bound txn bs ≡ false → place_in txn bs ≡ None) → cond t (Some zero) (option_map suc (place_in txn bs)) ≡ None
    go true k more = absurd (cc)
    go false k more = ap (option_map suc) (more k)

place_with : (txn : ℕ) (bs : List Binding) (b : Binding) → is_bound b.txn bs ≡ false → place_in txn (bs ++ b ∷ []) ≡ cond (nat_eq b.txn txn) (Some (length bs)) (place_in txn bs)
place_with txn [] b h = refl
place_with txn (x ∷ bs) b h = go (nat_eq x.txn txn) refl (nat_eq b.txn txn) refl (nat_eq x.txn b.txn) refl h (place_with txn bs b)
  where
    go : (s : Bool) → nat_eq x.txn txn ≡ s → (t : Bool) → nat_eq b.txn txn ≡ t → (u : Bool) → nat_eq x.txn b.txn ≡ u → (u || is_bound b.txn bs) ≡ false
        → (is_bound b.txn bs ≡ false → place_in txn (bs ++ b ∷ []) ≡ cond (nat_eq b.txn txn) (Some (length bs)) (place_in txn bs))
        → cond s (Some zero) (option_map suc (place_in txn (bs ++ b ∷ []))) ≡ cond t (Some (suc (length bs))) (cond s (Some zero) (option_map suc (place_in txn bs)))
    go s es t et true eu k more = absurd (cc)
    go true es true et false eu k more = absurd (let z : false ≡ true = grind (arith, nat_tests, es, et, eu) in cc)
    go true es false et false eu k more = refl
    go false es true et false eu k more = ap (option_map suc) (more k ∙ ap (λ (c : Bool). cond c (Some (length bs)) (place_in txn bs)) et)
    go false es false et false eu k more = ap (option_map suc) (more k ∙ ap (λ (c : Bool). cond c (Some (length bs)) (place_in txn bs)) et)

apart_with : (bs : List Binding) (b : Binding) → AreApart bs → is_bound b.txn bs ≡ false → AreApart (bs ++ b ∷ [])
apart_with [] b a h = (refl, tt)
apart_with (x ∷ bs) b a h = go (nat_eq x.txn b.txn) refl h (apart_with bs b a.1)
  where
    go : (u : Bool) → nat_eq x.txn b.txn ≡ u → (u || is_bound b.txn bs) ≡ false → (is_bound b.txn bs ≡ false → AreApart (bs ++ b ∷ [])) → AreApart (x ∷ (bs ++ b ∷ []))
    go true e k more = absurd (cc)
    go false e k more = (
      list_any-append (λ (y : Binding). nat_eq y.txn x.txn) bs (b ∷ []) ∙ ap (λ (t : Bool). t || (nat_eq b.txn x.txn || false)) a.0 ∙ ap (λ (t : Bool). t || false) (let z : nat_eq b.txn x.txn ≡ false = grind (arith, nat_tests, e) in z),
      more k,
    )

pub bound_indexed : {S R : Type 0} (bs now : List Binding) (last last_now : IndexMap LabelKey ℕ S) (places places_now : IndexMap ℕ ℕ R) (b : Binding)
    → IsIndexed bs last places → is_bound b.txn bs ≡ false → now ≡ bs ++ b ∷ []
    → ((db label : List ℕ) → get_by (is_key db label) last_now ≡ cond (holds db label b) (Some (length bs)) (get_by (is_key db label) last))
    → ((txn : ℕ) → get_by (nat_eq txn) places_now ≡ cond (nat_eq b.txn txn) (Some (length bs)) (get_by (nat_eq txn) places))
    → IsIndexed now last_now places_now
bound_indexed bs now last last_now places places_now b i new is lasts news = rw is (record {
  last_is = λ db label. subst (IsLast db label (bs ++ b ∷ [])) (sym (lasts db label)) (last_after db label bs b (get_by (is_key db label) last) (holds db label b) refl (i.last_is db label));
  place_is = λ txn. news txn ∙ ap (λ (p : Option ℕ). cond (nat_eq b.txn txn) (Some (length bs)) p) (i.place_is txn) ∙ sym (place_with txn bs b new);
  apart = apart_with bs b i.apart new;
})

-- what an index knows after a label was added to it
pub key_added : {S : Type 0} (last last_now : IndexMap LabelKey ℕ S) (key : LabelKey) (place n : ℕ) (b : Binding)
    → ((q : LabelKey) → get_by (is_key q.db q.label) last_now ≡ cond (is_key key.db key.label q) (Some place) (get_by (is_key q.db q.label) last))
    → key ≡ record { db = b.db; label = b.label } → place ≡ n
    → (db label : List ℕ) → get_by (is_key db label) last_now ≡ cond (holds db label b) (Some n) (get_by (is_key db label) last)
key_added last last_now key place n b h is at db label =
    h (record { db = db; label = label })
    ∙ ap (λ (k : LabelKey). cond (is_key k.db k.label (record { db = db; label = label })) (Some place) (get_by (is_key db label) last)) is
    ∙ ap (λ (i : ℕ). cond (holds db label b) (Some i) (get_by (is_key db label) last)) at

-- A state that changes.
same_txn : (txn : ℕ) (s : TxnState) (b : Binding) → (finished txn s b).txn ≡ b.txn
same_txn txn s b = elim (nat_eq b.txn txn) as (λ t. (cond t (record b { state = s }) b).txn ≡ b.txn) [ true ↦ refl | false ↦ refl ]

same_label : (txn : ℕ) (s : TxnState) (db label : List ℕ) (b : Binding) → holds db label (finished txn s b) ≡ holds db label b
same_label txn s db label b = elim (nat_eq b.txn txn) as (λ t. holds db label (cond t (record b { state = s }) b) ≡ holds db label b) [ true ↦ refl | false ↦ refl ]

find_map : (p : Binding → Bool) (f : Binding → Binding) (bs : List Binding) → ((b : Binding) → p (f b) ≡ p b) → find p (map f bs) ≡ option_map f (find p bs)
find_map p f [] same = refl
find_map p f (b ∷ bs) same = ap (λ (t : Bool). cond t (Some (f b)) (find p (map f bs))) (same b) ∙ go (p b) (find_map p f bs same)
  where
    go : (t : Bool) → find p (map f bs) ≡ option_map f (find p bs) → cond t (Some (f b)) (find p (map f bs)) ≡ option_map f (cond t (Some b) (find p bs))
    go true more = refl
    go false more = more

last_map : (txn : ℕ) (s : TxnState) (db label : List ℕ) (bs : List Binding) → last_of db label (map (finished txn s) bs) ≡ option_map (finished txn s) (last_of db label bs)
last_map txn s db label bs = ap (find (holds db label)) (sym (map-reverse (finished txn s) bs)) ∙ find_map (holds db label) (finished txn s) (reverse bs) (same_label txn s db label)

place_map : (t txn : ℕ) (s : TxnState) (bs : List Binding) → place_in t (map (finished txn s) bs) ≡ place_in t bs
place_map t txn s [] = refl
place_map t txn s (b ∷ bs) = ap (λ (n : ℕ). cond (nat_eq n t) (Some zero) (option_map suc (place_in t (map (finished txn s) bs)))) (same_txn txn s b) ∙ ap (λ (p : Option ℕ). cond (nat_eq b.txn t) (Some zero) (option_map suc p)) (place_map t txn s bs)

bound_map : (t txn : ℕ) (s : TxnState) (bs : List Binding) → is_bound t (map (finished txn s) bs) ≡ is_bound t bs
bound_map t txn s [] = refl
bound_map t txn s (b ∷ bs) = ap (λ (n : ℕ). nat_eq n t || is_bound t (map (finished txn s) bs)) (same_txn txn s b) ∙ ap (λ (p : Bool). nat_eq b.txn t || p) (bound_map t txn s bs)

apart_map : (txn : ℕ) (s : TxnState) (bs : List Binding) → AreApart bs → AreApart (map (finished txn s) bs)
apart_map txn s [] a = tt
apart_map txn s (b ∷ bs) a = (ap (λ (n : ℕ). is_bound n (map (finished txn s) bs)) (same_txn txn s b) ∙ bound_map b.txn txn s bs ∙ a.0, apart_map txn s bs a.1)

map_length : (f : Binding → Binding) (bs : List Binding) → length (map f bs) ≡ length bs
map_length f [] = refl
map_length f (b ∷ bs) = ap suc (map_length f bs)

last_moved : (txn : ℕ) (s : TxnState) (db label : List ℕ) (bs : List Binding) (place : Option ℕ) → IsLast db label bs place → IsLast db label (map (finished txn s) bs) place
last_moved txn s db label bs None h = last_map txn s db label bs ∙ ap (option_map (finished txn s)) h
last_moved txn s db label bs (Some i) h = (
  let n = map_length (finished txn s) bs in let k = h.0 in omega (arith, n, k),
  slice_get-map (finished txn s) bs i ∙ ap (option_map (finished txn s)) h.1 ∙ sym (last_map txn s db label bs),
)

pub finished_indexed : {S R : Type 0} (bs : List Binding) (last : IndexMap LabelKey ℕ S) (places : IndexMap ℕ ℕ R) (txn : ℕ) (s : TxnState) → IsIndexed bs last places → IsIndexed (map (finished txn s) bs) last places
finished_indexed bs last places txn s i = record {
  last_is = λ db label. last_moved txn s db label bs (get_by (is_key db label) last) (i.last_is db label);
  place_is = λ t. i.place_is t ∙ sym (place_map t txn s bs);
  apart = apart_map txn s bs i.apart;
}

unbound_same : (txn : ℕ) (s : TxnState) (bs : List Binding) → is_bound txn bs ≡ false → map (finished txn s) bs ≡ bs
unbound_same txn s [] h = refl
unbound_same txn s (b ∷ bs) h = go (nat_eq b.txn txn) h (unbound_same txn s bs)
  where
    go : (t : Bool) → (t || is_bound txn bs) ≡ false → (is_bound txn bs ≡ false → map (finished txn s) bs ≡ bs) → cond t (record b { state = s }) b ∷ map (finished txn s) bs ≡ b ∷ bs
    go true k more = absurd (cc)
    go false k more = ap (λ (xs : List Binding). b ∷ xs) (more k)

-- the one binding of a transaction changes, and no other
changed_first : (txn : ℕ) (s : TxnState) (x b : Binding) (bs : List Binding) → nat_eq x.txn txn ≡ true → x ≡ b → is_bound x.txn bs ≡ false → record b { state = s } ∷ bs ≡ record x { state = s } ∷ map (finished txn s) bs
changed_first txn s x b bs et same a =
    let n : x.txn ≡ txn = grind (arith, nat_tests, et) in
    ap (λ (y : Binding). record y { state = s } ∷ bs) (sym same) ∙ ap (λ (ys : List Binding). record x { state = s } ∷ ys) (sym (unbound_same txn s bs (ap (λ (m : ℕ). is_bound m bs) (sym n) ∙ a)))

-- the place of a transaction behind the first binding
behind : (o : Option ℕ) (i : ℕ) → option_map suc o ≡ Some i → (j : ℕ) × (i ≡ suc j) × (o ≡ Some j)
behind None i e = absurd (cc)
behind (Some j) i e = (j, cc, refl)

abbrev Changes : ℕ → TxnState → List Binding → ℕ → Binding → Type 0
Changes txn s bs i b = slice_set bs i (record b { state = s }) ≡ map (finished txn s) bs

pub finished_at : (txn : ℕ) (s : TxnState) (bs : List Binding) (i : ℕ) (b : Binding) → AreApart bs → place_in txn bs ≡ Some i → slice_get bs i ≡ Some b → slice_set bs i (record b { state = s }) ≡ map (finished txn s) bs
finished_at txn s [] i b a e g = absurd (cc)
finished_at txn s (x ∷ bs) i b a e g = go (nat_eq x.txn txn) refl i e g (λ j. finished_at txn s bs j b a.1)
  where
    go : (t : Bool) → nat_eq x.txn txn ≡ t → (i : ℕ) → cond t (Some zero) (option_map suc (place_in txn bs)) ≡ Some i → slice_get (x ∷ bs) i ≡ Some b
        → ((j : ℕ) → place_in txn bs ≡ Some j → slice_get bs j ≡ Some b → Changes txn s bs j b)
        → slice_set (x ∷ bs) i (record b { state = s }) ≡ cond t (record x { state = s }) x ∷ map (finished txn s) bs
    go true et zero k h more = changed_first txn s x b bs et (cc) a.0
    go true et (suc j) k h more = absurd (cc)
    go false et zero k h more = absurd (let z = behind (place_in txn bs) zero k in let y = z.1 in cc)
    go false et (suc m) k h more = let z = behind (place_in txn bs) (suc m) k in let same : m ≡ z.0 = let y = z.1 in cc in ap (λ (ys : List Binding). x ∷ ys) (more m (z.2 ∙ ap Some (sym same)) h)

pub bound_somewhere : (txn : ℕ) (bs : List Binding) → is_bound txn bs ≡ true → place_in txn bs ≡ None → ⊥
bound_somewhere txn [] h e = cc
bound_somewhere txn (b ∷ bs) h e = go (nat_eq b.txn txn) h e (bound_somewhere txn bs)
  where
    none : (o : Option ℕ) → option_map suc o ≡ None → o ≡ None
    none None k = refl
    none (Some i) k = absurd (cc)

    go : (t : Bool) → (t || is_bound txn bs) ≡ true → cond t (Some zero) (option_map suc (place_in txn bs)) ≡ None → (is_bound txn bs ≡ true → place_in txn bs ≡ None → ⊥) → ⊥
    go true k j more = cc
    go false k j more = more k (none (place_in txn bs) j)

pub placed_there : (txn : ℕ) (bs : List Binding) (i : ℕ) → place_in txn bs ≡ Some i → slice_get bs i ≡ None → ⊥
placed_there txn [] i e g = cc
placed_there txn (x ∷ bs) i e g = go (nat_eq x.txn txn) i e g (placed_there txn bs)
  where
    go : (t : Bool) (i : ℕ) → cond t (Some zero) (option_map suc (place_in txn bs)) ≡ Some i → slice_get (x ∷ bs) i ≡ None → ((j : ℕ) → place_in txn bs ≡ Some j → slice_get bs j ≡ None → ⊥) → ⊥
    go true zero k h more = cc
    go true (suc j) k h more = cc
    go false zero k h more = cc
    go false (suc m) k h more = let z = behind (place_in txn bs) (suc m) k in let same : m ≡ z.0 = let y = z.1 in cc in more m (z.2 ∙ ap Some (sym same)) h
